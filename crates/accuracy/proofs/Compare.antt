-- Two numbers of whole units are compared as the counts of their units are. Assumes nothing.
use Rattle.sequences.proofs.Basics.{◌≡◌, refl, sym, ap, ap₂, ◌∙◌, ℕ, ◌+◌, ◌*◌, ◌/◌, ◌^◌, ◌≤◌, ◌<◌, le_trans, le_of_eq, mul-le-mul_right, arith, dec_le}
use Rattle.sequences.proofs.Basics.{Bool, true, false}
use Rattle.sequences.proofs.Basics.{le_of_mul-le-mul_right, mul-pos, ltb, lt-ltb, le-ltb, lt_of_not-le, dite, false≢true, pow_pos}
use lib.Ieee.{Float, nan, inf, fin, up, down, below, lt}
use lib.Ieee.Fits.{down_pos}
use Rattle.accuracy.specs.Spectrum.{IsUnits}
use Rattle.accuracy.specs.Value.{Signed, signed}

-- where a minus sign stands before 0 alone, it plays no part
below_signed : (s t : Bool) (a b : ℕ) → (s ≡ true → a ≡ 0) → (t ≡ true → b ≡ 0) → below s a t b ≡ ltb a b
below_signed false false a b f g = refl
below_signed false true a b f g = sym (le-ltb a b (omega (arith, g refl)))
below_signed true false a b f g = let e : a + b ≡ b = omega (arith, f refl) in ap (λ (n : ℕ). ltb 0 n) e ∙ ap (λ (n : ℕ). ltb n b) (sym (f refl))
below_signed true true a b f g = le-ltb b a (omega (arith, f refl)) ∙ sym (le-ltb a b (omega (arith, g refl)))

-- fractions a / c and b / d of q and r units of 1 / U
module _ (U a b c d q r : ℕ) (pu : 0 < U) (pc : 0 < c) (pd : 0 < d) (ea : a * U ≡ q * c) (eb : b * U ≡ r * d) where
  left_side : a * d * U ≡ q * (c * d)
  left_side = let e : a * d * U ≡ a * U * d = omega arith in e ∙ ap (λ (n : ℕ). n * d) ea ∙ omega arith

  right_side : b * c * U ≡ r * (c * d)
  right_side = let e : b * c * U ≡ b * U * c = omega arith in e ∙ ap (λ (n : ℕ). n * c) eb ∙ omega arith

  up_to : b * c ≤ a * d → r ≤ q
  up_to l = le_of_mul-le-mul_right {m = r} (le_trans (le_of_eq (sym right_side)) (le_trans (mul-le-mul_right U l) (le_of_eq left_side))) (mul-pos pc pd)

  up_from : r ≤ q → b * c ≤ a * d
  up_from l = le_of_mul-le-mul_right {m = b * c} (le_trans (le_of_eq right_side) (le_trans (mul-le-mul_right (c * d) l) (le_of_eq (sym left_side)))) pu

  crossed : ltb (a * d) (b * c) ≡ ltb q r
  crossed = dite (dec_le r q) (λ (l : r ≤ q). le-ltb (a * d) (b * c) (up_from l) ∙ sym (le-ltb q r l))
      (λ (n : r ≤ q → ⊥). lt-ltb (a * d) (b * c) (lt_of_not-le (λ h. n (up_to h))) ∙ sym (lt-ltb q r (omega (arith, n))))

  -- no units is 0
  nought : q ≡ 0 → a * d ≡ 0
  nought e = let f : a * d * U ≡ 0 = left_side ∙ ap (λ (n : ℕ). n * (c * d)) e ∙ omega arith in
      let l : a * d ≤ 0 = le_of_mul-le-mul_right {m = a * d} (le_trans (le_of_eq f) (omega arith)) pu in omega arith

-- a minus sign stands before no units alone
counted : (s : Bool) (q S : ℕ) → signed s q ≡ signed false S → (q ≡ S) × (s ≡ true → q ≡ 0)
counted false q S e = (ap (λ (z : Signed). z.more) e, λ f. absurd (false≢true f))
counted true q S e = let a : q ≡ 0 = ap (λ (z : Signed). z.less) e in let b : 0 ≡ S = ap (λ (z : Signed). z.more) e in (omega arith, λ f. a)

-- below exactly where it has fewer units
pub lt_units : (x y : Float) (S θ : ℕ) → IsUnits S x → IsUnits θ y → lt x y ≡ ltb S θ
unfolding lt
lt_units nan y S θ u v = absurd u.held
lt_units (inf s) y S θ u v = absurd u.held
lt_units (fin s m e) nan S θ u v = absurd v.held
lt_units (fin s m e) (inf t) S θ u v = absurd v.held
lt_units (fin s m e) (fin t n d) S θ u v =
    let a = m * up e in let b = n * up d in let q = a * 2 ^ 149 / down e in let r = b * 2 ^ 149 / down d in
    let x = counted s q S u.value in let y = counted t r θ v.value in
    below_signed s t (a * down d) (b * down e)
    (λ f. nought (2 ^ 149) a b (down e) (down d) q r (pow_pos 149) (down_pos e) (down_pos d) u.held v.held (x.1 f))
    (λ f. nought (2 ^ 149) b a (down d) (down e) r q (pow_pos 149) (down_pos d) (down_pos e) v.held u.held (y.1 f))
    ∙ crossed (2 ^ 149) a b (down e) (down d) q r (pow_pos 149) (down_pos e) (down_pos d) u.held v.held ∙ ap₂ ltb x.0 y.0
