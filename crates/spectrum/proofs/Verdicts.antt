-- Laws of the verdicts: where a number does not fit, and what an accepted call tells. Assumes nothing.
use Rattle.sequences.proofs.Basics.{◌≡◌, refl, sym, ap, ◌∙◌, ℕ, ◌+◌, ◌*◌, ◌≤◌, ◌<◌, arith, ℕ_discrete, Bool, true, not, List, ◌++◌, eqb, ltb, length}
use Rattle.sequences.proofs.Basics.{length-append, ltb-false, eqb-true, eq-eqb, ne_eqb, not-true}
use lib.Ieee.{Float}
use Rattle.refusal.specs.Refusal.{Verdict}
use Rattle.refusal.specs.Refusal.{Accepted}
use Rattle.refusal.proofs.Rows.{accepted}
use Rattle.counts.specs.Counts.{stage_twiddles, end_count}
use Rattle.plan.specs.Record.{is_planned}
use Rattle.plan.specs.declared.Record.{Record}
use Rattle.packing.specs.Places.{is_width}
use Rattle.scan.specs.Scan.{fits, first_unfit}
use Rattle.sequences.proofs.First.{joined_first, joined_second}
use Rattle.spectrum.specs.Calls.{bin_words, lent_verdict, forward_verdict}
use Rattle.transform.specs.Parts.{Forwardable, Invertible}
use Rattle.plan.proofs.Bounds.{plan_twice}

-- two tests of numbers that come to the same
pub same_eqb : (a b c d : ℕ) → (a ≡ b → c ≡ d) → (c ≡ d → a ≡ b) → eqb a b ≡ eqb c d
same_eqb a b c d f g = pick (ℕ_discrete a b)
  where
    pick : Dec (a ≡ b) → eqb a b ≡ eqb c d
    pick (yes e) = eq-eqb a b e ∙ sym (eq-eqb c d (f e))
    pick (no e) = ne_eqb a b e ∙ sym (ne_eqb c d (λ h. e (g h)))

-- ---- the first twiddle that does not fit, of the stages and the ends together

module _ (stage end : List Float) (n : ℕ) (e : n ≡ first_unfit 0 stage) where
  pub in_stages : n < length stage → (n ≡ first_unfit 0 (stage ++ end)) × (n < length (stage ++ end))
  unfolding first_unfit
  in_stages l = (e ∙ sym (joined_first (λ (x : Float). not (fits 0 x)) stage end (rw (← e) l)), omega (arith, l, length-append stage end))

  pub in_ends : length stage ≤ n → (i : ℕ) → i ≡ first_unfit 0 end → length stage + i ≡ first_unfit 0 (stage ++ end)
  unfolding first_unfit
  in_ends l i f = sym (joined_second (λ (x : Float). not (fits 0 x)) stage end (rw (← e) l) ∙ ap (λ (u : ℕ). length stage + u) (sym f))

-- where none of either is, none is of both
pub all_fit : (stage end : List Float) → length stage ≤ first_unfit 0 stage → length end ≤ first_unfit 0 end → length (stage ++ end) ≤ first_unfit 0
    (stage ++ end)
all_fit stage end l m = omega (arith, length-append stage end, in_ends stage end _ refl l _ refl)

-- ---- what an accepted call tells

-- that the slices have their lengths, and that the numbers in them fit
pub record Taken (p : Record) (W : ℕ) (input output : Bool) (scratch k : ℕ) (xs stage end : List Float) : Type 0 where
  pub planned : is_planned p ≡ true
  pub width : is_width W ≡ true
  pub long : input ≡ true
  pub wide : output ≡ true
  pub room : 6 * p.n ≤ scratch
  pub stages : length stage ≡ 2 * stage_twiddles p
  pub ends : length end ≡ 2 * end_count p.n
  pub numbers : length xs ≤ first_unfit k xs
  pub twiddles : length (stage ++ end) ≤ first_unfit 0 (stage ++ end)

pub lent_taken : (p : Record) (W : ℕ) (input output : Bool) (scratch k : ℕ) (xs stage end : List Float)
    → lent_verdict p W input output scratch k xs stage end ≡ Accepted
    → Taken p W input output scratch k xs stage end
unfolding lent_verdict
lent_taken p W input output scratch k xs stage end t = search accepted depth 14

pub forwardable : (p : Record) (W : ℕ) (xs : List Float) (output scratch : ℕ) (stage end : List Float) (v : Verdict)
    → v ≡ forward_verdict p W xs output scratch stage end
    → v ≡ Accepted → Forwardable p W (length xs) output scratch (length stage) (length end)
forwardable p W xs output scratch stage end v told e =
    let t = lent_taken p W _ _ scratch 32 xs stage end (sym told ∙ e) in
    record {
      planned = t.planned;
      width = t.width;
      samples = eqb-true (length xs) p.n t.long;
      bins = eqb-true output (bin_words p) t.wide;
      room = omega (arith, t.room, plan_twice p t.planned);
      stages = t.stages;
      ends = t.ends;
    }

pub invertible : (p : Record) (W : ℕ) (input output : Bool) (ni nw scratch k : ℕ) (xs stage end : List Float) (v : Verdict) → input ≡ eqb ni (bin_words p)
    → output ≡ not (ltb nw p.n)
    → v ≡ lent_verdict p W input output scratch k xs stage end → v ≡ Accepted → Invertible p W ni nw scratch (length stage) (length end)
invertible p W input output ni nw scratch k xs stage end v ei eo told e =
    let t = lent_taken p W input output scratch k xs stage end (sym told ∙ e) in
    record {
      planned = t.planned;
      width = t.width;
      bins = eqb-true ni (bin_words p) (sym ei ∙ t.long);
      samples = ltb-false nw p.n (not-true _ (sym eo ∙ t.wide));
      room = omega (arith, t.room, plan_twice p t.planned);
      stages = t.stages;
      ends = t.ends;
    }
