-- Calls that are accepted: rightly lent, with numbers within the bound. Assumes nothing.
use Rattle.sequences.proofs.Basics.{◌≡◌, sym, subst, ℕ, ◌+◌, ◌-◌, ◌*◌, ◌^◌, ◌≤◌, le_trans, le_of_eq, mul-le-mul_right, arith, Bool, true, List, lit≤, length}
use Rattle.sequences.proofs.Basics.{get_or, pow_pos, le-leb}
use lib.IntN.{ℤ, nat_abs}
use lib.Ieee.{Float, nan, inf, fin, up, down}
use Rattle.refusal.specs.Refusal.{Accepted}
use Rattle.refusal.proofs.Rows.{deciding}
use Rattle.plan.specs.declared.Record.{Record}
use Rattle.scan.specs.Scan.{fits, first_unfit}
use Rattle.scan.proofs.Scan.{none_fails}
use Rattle.spectrum.specs.Calls.{lent_verdict}
use Rattle.spectrum.proofs.Verdicts.{all_fit}
use Rattle.finite.specs.Sizes.{AtMost, Words, RightlyLent}
use Rattle.finite.specs.Whole.{IsWhole}
use Rattle.finite.proofs.Sizes.{most_shifted}

most_fits : (k : ℕ) (x : Float) → AtMost 1 k x → fits k x ≡ true
unfolding fits
most_fits k nan a = absurd a
most_fits k (inf s) a = absurd a
most_fits k (fin s m e) a = le-leb (m * up e) (2 ^ k * down e) (le_trans a (le_of_eq (omega arith)))

words_fit : (k : ℕ) (xs : List Float) → Words k xs → length xs ≤ first_unfit k xs
unfolding first_unfit
words_fit k xs w = none_fails (fits k) xs (λ i l. most_fits k (get_or xs i nan) (w i l))

-- rightly lent, a call with numbers within its bound is accepted
pub lent_accepted : (p : Record) (W : ℕ) (stage end : List Float) (input output : Bool) (scratch k : ℕ) (xs : List Float)
    → RightlyLent p W stage end input output scratch → Words k xs
    → lent_verdict p W input output scratch k xs stage end ≡ Accepted
unfolding lent_verdict
lent_accepted p W stage end input output scratch k xs l w =
    let numbers = words_fit k xs w in
    let twiddles = all_fit stage end (words_fit 0 stage l.ones.0) (words_fit 0 end l.ones.1) in
    sym (search deciding depth 14)

pub words_wider : (a b : ℕ) (xs : List Float) → a ≤ b → Words a xs → Words b xs
words_wider a b xs l w i li =
    let same : a + (b - a) ≡ b = omega arith in
    subst (λ (n : ℕ). AtMost 1 n (get_or xs i nan)) same (most_shifted 1 a (b - a) (get_or xs i nan) (pow_pos (b - a)) (w i li))

-- a whole number of at most 2 ^ 20 is at most 2 ^ 32
pub whole_most : (x : Float) (z : ℤ) → IsWhole x z → nat_abs z ≤ 2 ^ 20 → AtMost 1 32 x
whole_most nan z w l = absurd w
whole_most (inf s) z w l = absurd w
whole_most (fin s m e) z w l = le_trans (le_of_eq w.0) (mul-le-mul_right (down e) (le_trans l (lit≤ tt)))
