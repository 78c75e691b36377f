-- The bits of a number at least another, and of the least number of a step: neither is a NaN. Assumes nothing.
use Rattle.sequences.proofs.Basics.{◌≡◌, sym, ◌∙◌, subst, ℕ, ◌*◌, ◌/◌, ◌%◌, ◌≤◌, arith, Bool, true, not, false≢true, T, le-ltb}
use lib.Ieee.{Float, nan, inf, fin, binary32, le, fits, is_nan, nan_bits, to_bits}
use lib.Ieee.Bits.{nan_bits_above, to_bits-lt}

-- what is at least something is no NaN
pub no_nan : (x y : Float) → le x y ≡ true → T (not (is_nan y))
unfolding le is_nan
no_nan nan nan e = absurd (false≢true e)
no_nan (inf s) nan e = absurd (false≢true e)
no_nan (fin s m d) nan e = absurd (false≢true e)
no_nan x (inf s) e = tt
no_nan x (fin s m d) e = tt

-- the upper half of an f32's 32 bits
pub upper_half : (x : Float) → fits binary32 x ≡ true → to_bits binary32 x / 65536 ≤ 65535
upper_half x e = omega (arith, to_bits-lt binary32 x (rw e tt))

-- no step up to 32,639 is a NaN's
pub finite_step : (step : ℕ) → step ≤ 32639 → T (not (nan_bits binary32 (step * 65536)))
finite_step step h =
    let n = step * 65536 in
    subst (λ (b : Bool). T (not b)) (sym (nan_bits_above binary32 n ∙ le-ltb 2139095040 (n % 2147483648) (omega arith))) tt
