-- Laws of the verdict on a filling: what an accepted call tells, and what each call leaves. Assumes nothing.
use Rattle.sequences.proofs.Basics.{◌≡◌, sym, ◌∙◌, ℕ, ◌*◌, true, List, length}
use lib.Ieee.{Float}
use Rattle.refusal.specs.declared.Refusal.{Refusal}
use Rattle.refusal.specs.Refusal.{Verdict}
use Rattle.refusal.specs.Refusal.{Accepted, Refused}
use Rattle.refusal.proofs.Rows.{accepted, settles_refused, settles_accepted}
use Rattle.counts.specs.Counts.{stage_twiddles, end_count}
use Rattle.plan.specs.Record.{is_planned}
use Rattle.plan.specs.declared.Record.{Record}
use Rattle.turn.specs.Turns.{housed}
use Rattle.packing.specs.Places.{is_width}
use Rattle.twiddle.specs.Calls.{fill_verdict, Slices, filled, Fills}
use Rattle.end_twiddles.specs.declared.inner.ends.Direction.{Direction}

-- ---- what an accepted call tells

pub record Taken (p : Record) (W stage end : ℕ) : Type 0 where
  pub planned : is_planned p ≡ true
  pub width : is_width W ≡ true
  pub housed : housed p.n ≡ true
  pub stages : stage ≡ 2 * stage_twiddles p
  pub ends : end ≡ 2 * end_count p.n

pub taken : (p : Record) (W stage end : ℕ) (v : Verdict) → v ≡ fill_verdict p W stage end → v ≡ Accepted → Taken p W stage end
unfolding fill_verdict
taken p W stage end v e g = let t = sym e ∙ g in search accepted depth 8

-- ---- what a call leaves

module _ (d : Direction) (p : Record) (W : ℕ) (before : Slices) (v : Verdict) (told : v ≡ fill_verdict p W (length before.0) (length before.1)) where
  -- a refused call leaves both slices as they are
  pub fill_refused : (why : Refusal) → v ≡ Refused why → Fills d p W before (Refused why) before
  fill_refused why e = settles_refused _ _ _ why (sym e ∙ told)

  pub fill_accepted : v ≡ Accepted → (xs ys : List Float) → xs ≡ (filled d p W).0 → ys ≡ (filled d p W).1 → Fills d p W before Accepted (xs, ys)
  fill_accepted e xs ys f g = settles_accepted _ _ _ _ (sym e ∙ told) (λ i. (f i, g i))
