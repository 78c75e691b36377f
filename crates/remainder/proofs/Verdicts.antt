-- Laws of the verdicts: what is rightly lent is accepted, and what an accepted call tells. Assumes nothing.
use Rattle.sequences.proofs.Basics.{◌≡◌, ap, ℕ, ◌<◌, ◌≤◌, true, not, List, ltb, length, get_or, lt-ltb, ltb-true, not-false}
use Rattle.refusal.specs.Refusal.{Accepted}
use Rattle.refusal.proofs.Rows.{deciding, accepted}
use Rattle.sequences.proofs.First.{none_passes, each_fails}
use Rattle.plan.specs.Record.{is_planned}
use Rattle.plan.specs.declared.Record.{Record}
use Rattle.residues.specs.Parts.{Workable}
use Rattle.residues.specs.Residues.{Under}
use Rattle.remainder.specs.Calls.{first_large, lent_verdict, stage_verdict, run_verdict, Lent}

-- remainders are taken
none_refused : (m : ℕ) (xs : List ℕ) → Under m (length xs) xs → length xs ≤ first_large m xs
unfolding first_large
none_refused m xs u = each_fails 0 (λ (x : ℕ). not (ltb x m)) xs (λ q l. ap not (lt-ltb (get_or xs q 0) m (u q l)))

-- where none is too large, all are below m
pub none_large : (m : ℕ) (xs : List ℕ) → length xs ≤ first_large m xs → Under m (length xs) xs
unfolding first_large
none_large m xs h q l = ltb-true (get_or xs q 0) m (not-false _ (none_passes 0 (λ (x : ℕ). not (ltb x m)) xs h q l))

-- what is rightly lent is accepted
module _ {p : Record} {m w : ℕ} {xs : List ℕ} (h : Lent p m w xs) (room : ℕ) (wide : room ≡ p.half) where
  pub run_taken : Accepted ≡ run_verdict p m w xs room
  unfolding run_verdict
  run_taken = search (deciding, none_refused m xs h.cells, h.planned, h.modulus, h.base, h.circle, h.long) depth 10

  pub stage_taken : (j : ℕ) → j < p.count → Accepted ≡ stage_verdict p j m w xs room
  unfolding stage_verdict
  stage_taken j l = search (deciding, none_refused m xs h.cells, h.planned, h.modulus, h.base, h.circle, h.long) depth 12

-- an accepted call is lent what its work asks for
pub taken : (p : Record) (m w : ℕ) (xs : List ℕ) (room : ℕ) → is_planned p ≡ true → m < 4294967296 → lent_verdict p.half m w xs room ≡ Accepted
    → Workable p m w xs room
unfolding lent_verdict
taken p m w xs room planned small e = search (accepted, none_large) depth 10
