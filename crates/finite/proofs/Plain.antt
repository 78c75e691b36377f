-- A sum of squares of finite numbers is no NaN: nothing in it has a minus sign. Assumes nothing.
use Rattle.sequences.proofs.Basics.{◌≡◌, refl, sym, ℕ, zero, suc, ◌+◌, ◌*◌, ◌^◌, ◌≤◌, arith, Bool, true, false, cond, not, false≢true, List, length, T, ltb}
use lib.Ieee.{Float, nan, inf, fin, Format, binary32, low, prec, emax, is_nan, of_bits, up, down, odd, units, round, sum, add, mul}
use Rattle.power.specs.Power.{power_from}
use Rattle.finite.specs.Sizes.{AtMost, Words}

-- no NaN, and no minus sign
abbrev Plain : Float → Type 0
Plain nan = ⊥
Plain (inf s) = s ≡ false
Plain (fin s m e) = s ≡ false

pub plain_told : (x : Float) → Plain x → T (not (is_nan x))
unfolding is_nan
plain_told nan p = absurd p
plain_told (inf s) p = tt
plain_told (fin s m e) p = tt

-- ---- rounding keeps the sign

odd_plain : (d q k l : ℕ) → Plain (odd d false q k l)
unfolding odd
odd_plain d zero k l = refl
odd_plain d (suc q) k l = refl

either : (b : Bool) (x y : Float) → Plain x → Plain y → Plain (cond b x y)
either true x y p q = p
either false x y p q = q

units_plain : (f : Format) (q k : ℕ) → Plain (units f false q k)
unfolding units
units_plain f q k =
    either (ltb (q * 2 ^ k) (2 ^ (low f + suc (emax f)))) (odd (suc (prec f)) false q k (low f)) (inf false) (odd_plain (suc (prec f)) q k (low f)) refl

round_plain : (f : Format) (num den : ℕ) → Plain (round f false num den)
unfolding round
round_plain f num den = units_plain f _ _

-- ---- squares and sums

square_plain : (q k : ℕ) (x : Float) → AtMost q k x → Plain (mul binary32 x x)
unfolding mul
square_plain q k nan a = absurd a
square_plain q k (inf s) a = absurd a
square_plain q k (fin false m e) a = round_plain binary32 (m * up e * (m * up e)) (down e * down e)
square_plain q k (fin true m e) a = round_plain binary32 (m * up e * (m * up e)) (down e * down e)

sum_plain : (x y : Float) → Plain x → Plain y → Plain (add binary32 x y)
unfolding add sum
sum_plain nan y p q = absurd p
sum_plain (inf s) nan p q = absurd q
sum_plain (inf false) (inf false) p q = refl
sum_plain (inf false) (inf true) p q = absurd (false≢true (sym q))
sum_plain (inf true) (inf t) p q = absurd (false≢true (sym p))
sum_plain (inf s) (fin t n d) p q = p
sum_plain (fin s m e) nan p q = absurd q
sum_plain (fin s m e) (inf t) p q = q
sum_plain (fin false m e) (fin false n d) p q = round_plain binary32 (m * up e * down d + n * up d * down e) (down e * down d)
sum_plain (fin false m e) (fin true n d) p q = absurd (false≢true (sym q))
sum_plain (fin true m e) (fin t n d) p q = absurd (false≢true (sym p))

-- the power of finite bins
pub power_plain : (xs : List Float) (k lo n : ℕ) → Words k xs → 2 * (lo + n) ≤ length xs → Plain (power_from xs lo n)
unfolding power_from of_bits
power_plain xs k lo zero w l = refl
power_plain xs k lo (suc n) w l = sum_plain _ _ (power_plain xs k lo n w (omega arith))
    (sum_plain _ _ (square_plain 1 k _ (w (2 * (lo + n)) (omega arith))) (square_plain 1 k _ (w (2 * (lo + n) + 1) (omega arith))))
