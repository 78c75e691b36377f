-- The steps of the code on a number: times 32,768, plus 3 * 2 ^ 22 and less it again, as fractions. Assumes nothing.
use Rattle.sequences.proofs.Basics.{◌≡◌, refl, sym, ap, ◌∙◌, subst, ℕ, zero, suc, ◌+◌, ◌-◌, ◌*◌, ◌/◌, ◌%◌, ◌^◌, ◌<◌, ◌≤◌, compare, mul-one, mul-pos}
use Rattle.sequences.proofs.Basics.{mul_assoc, mul_right_comm, mul_comm, one-mul, eq_of_mul-eq-mul_right, mul-lt-mul_of_pos_right, mul-le-mul_right}
use Rattle.sequences.proofs.Basics.{lt_of_le_of_lt, lt_of_lt_of_le, le_trans, le_of_eq, le_of_lt, lt_of_not-le, not-le_of_lt, le-div_iff_mul-le}
use Rattle.sequences.proofs.Basics.{div-lt_iff_lt-mul, zero-mul, add_comm, zero-lt-suc, arith, dec_le, dite, Bool, true, false, cond, ◌&&◌}
use Rattle.sequences.proofs.Basics.{T, ltb, leb, eqb, ltb→lt, leb→le, lt-ltb, lit<, pow-add, pow_pos, pow_mono, pow-lt}
use lib.IntN.{ℤ, pos, negsuc}
use mir.Val.{to_z}
use Rattle.sequences.proofs.Basics.{ltb-false}
use mir.Syntax.{w16}
use lib.Ieee.{Float, nan, inf, fin, binary32, up, down, size, odd, units, round, sum, add, sub, mul, div, neg, le, fits, of_int}
use lib.Ieee.Digits.{size-lt, size-le}
use lib.Ieee.Fits.{down_pos, and_l, and_r, core, round_is, nearest-le}
use lib.Ieee.Exact.{HasValue, units_val, round_exact}
use lib.Ieee.Nearest.{closest, closest_same}
use lib.Ieee.Order.{round_mono}
use lib.Ieee.Scale.{round_same}
use lib.Ieee.Back.{round_whole}
use Rattle.pcm.specs.Samples.{over, sample_of}
use Rattle.pcm.proofs.Constants.{scale, shift}
use Rattle.pcm.proofs.Samples.{quotient}
use Rattle.fractions.proofs.Fractions.{of_value, add_at}

-- ---- the product

-- as a fraction, rounded
pub product_is : (s : Bool) (m : ℕ) (e : ℤ) → mul binary32 (fin s m e) scale ≡ round binary32 s (m * up e * 32768) (down e)
unfolding mul
product_is true m e = ap (round binary32 true (m * up e * 32768)) (mul-one (down e))
product_is false m e = ap (round binary32 false (m * up e * 32768)) (mul-one (down e))

-- of a sample: its whole number
pub product_at : (x : Float) (s : Bool) (q : ℕ) → HasValue x s q 32768 → mul binary32 x scale ≡ round binary32 s q 1
product_at x s q v = of_value (λ (y : Float). mul binary32 y scale ≡ round binary32 s q 1) x s q 32768 v
    (λ m e p. product_is s m e ∙ round_same binary32 s (m * up e * 32768) (down e) q 1 (down_pos e) (zero-lt-suc 0) (omega (arith, p)))

-- 2 ^ 15 times 2 ^ e, in units of the smallest f32
units_of_lem : (e : ℤ) → down e ≤ 2 ^ 149 → (j : ℕ) × (up e * 2 ^ 164 ≡ 2 ^ j * down e)
units_of_lem (pos k) l = (k + 164, sym (pow-add 2 k 164) ∙ sym (mul-one (2 ^ (k + 164))))
units_of_lem (negsuc k) l = (164 - suc k, one-mul (2 ^ 164) ∙ ap (λ (n : ℕ). 2 ^ n) whole ∙ pow-add 2 (164 - suc k) (suc k))
  where
    least : suc k ≤ 164
    least = dite (dec_le (suc k) 164) (λ (h : suc k ≤ 164). h)
        (λ (h : suc k ≤ 164 → ⊥). absurd (not-le_of_lt (lt_of_le_of_lt l (lit< tt)) (le_of_lt (pow-lt (lt_of_not-le h)))))

    whole : 164 ≡ 164 - suc k + suc k
    whole = omega (arith, least)

-- a / b below p, in units of 1 / q
under : (a b u p q : ℕ) → 0 < q → a < p * b → a * q ≡ u * b → u < p * q
under a b u p q Q l e = lt_of_not-le (λ (g : p * q ≤ u). omega (arith, mul-lt-mul_of_pos_right l Q, mul-le-mul_right b g))

-- where the product is below 2 ^ 128 nothing is lost
pub product_exact : (s : Bool) (m : ℕ) (e : ℤ) → T (fits binary32 (fin s m e)) → m * up e * 32768 < 2 ^ 128 * down e
    → HasValue (round binary32 s (m * up e * 32768) (down e)) s (m * up e * 32768) (down e)
unfolding fits
product_exact s zero e t l = round_exact binary32 s (0 * up e * 32768) (down e) 0 0 (down_pos e) (lit< tt) (lit< tt) (simp zero-mul)
product_exact s (suc m) e t l =
    let n = suc m * up e * 32768 in
    let a = eqb (suc m % 2) 1 in let b = ltb (suc m) (2 ^ 24) in let c = leb (down e) (2 ^ 149) in let d = ltb (suc m * up e) (2 ^ 128 * down e) in
    let abc : T (a && b && c) = and_l (a && b && c) d t in
    let (j, u) = units_of_lem e (leb→le (down e) (2 ^ 149) (and_r (a && b) c abc)) in
    let h : n * 2 ^ 149 ≡ suc m * 2 ^ j * down e =
    mul_assoc (suc m * up e) 32768 (2 ^ 149) ∙ mul_assoc (suc m) (up e) (2 ^ 164) ∙ ap (λ (k : ℕ). suc m * k) u ∙ sym (mul_assoc (suc m) (2 ^ j) (down e)) in
    round_exact binary32 s n (down e) (suc m) j (down_pos e) (ltb→lt (suc m) (2 ^ 24) (and_r a b (and_l (a && b) c abc)))
    (under n (down e) (suc m * 2 ^ j) (2 ^ 128) (2 ^ 149) (pow_pos 149) l h) h

-- ---- from 2 ^ 128 on it is an infinity

-- the sign makes no difference to the size
round_neg : (a b : ℕ) → round binary32 true a b ≡ neg (round binary32 false a b)
unfolding round units odd neg
round_neg a b =
    let n = a * 2 ^ 149 in let k = size (n / b) - 24 in let q = closest n (b * 2 ^ k) in
    go (ltb (q * 2 ^ k) (2 ^ 277)) q k
  where
    go : (t : Bool) (q k : ℕ) → cond t (odd 25 true q k 149) (inf true) ≡ neg (cond t (odd 25 false q k 149) (inf false))
    go true zero k = refl
    go true (suc q) k = refl
    go false q k = refl

-- nothing else is as large
above : (x : Float) → T (le (inf false) x) → x ≡ inf false
unfolding le
above nan t = absurd t
above (inf true) t = absurd t
above (inf false) t = refl
above (fin s m e) t = absurd t

-- so it is one
pub product_over : (s : Bool) (a b : ℕ) → 0 < b → 2 ^ 128 * b ≤ a → round binary32 s a b ≡ inf s
unfolding round neg
product_over s a b B l = go s
  where
    plus : round binary32 false a b ≡ inf false
    plus = above (round binary32 false a b) (round_mono binary32 (2 ^ 128) 1 a b (zero-lt-suc 0) B (le_trans l (le_of_eq (sym (mul-one a)))))

    go : (s : Bool) → round binary32 s a b ≡ inf s
    go true = round_neg a b ∙ ap neg plus
    go false = plus

-- ---- the sum

-- n with a added or taken away
abbrev pub moved : (s : Bool) (n a : ℕ) → ℕ
moved s n a = cond s (n - a) (n + a)

-- as a fraction, rounded
pub total_is : (x : Float) (s : Bool) (a b : ℕ) → 0 < b → a < 12582912 * b → HasValue x s a b
    → add binary32 x shift ≡ round binary32 false (moved s (12582912 * b) a) b
unfolding sum
total_is x s a b B l v = add_at binary32 x shift s false a (12582912 * b) b B v (refl, sym (mul-one (12582912 * b))) ∙ go s
  where
    go : (s : Bool) → sum binary32 s a false (12582912 * b) b ≡ round binary32 false (moved s (12582912 * b) a) b
    go true = rw (lt-ltb a (12582912 * b) l)
    go false = ap (λ (n : ℕ). round binary32 false n b) (add_comm a (12582912 * b))

-- a number of 2 ^ j at least has more than j digits
size_ge : (n j : ℕ) → 2 ^ j ≤ n → j < size n
size_ge n j h = lt_of_not-le (λ (g : size n ≤ j). not-le_of_lt (lt_of_lt_of_le (size-lt n) (pow_mono g)) h)

-- from 2 ^ 23 to 2 ^ 24 the nearest f32 is the nearest whole number
pub nearest_whole : (a b : ℕ) → 0 < b → 8388608 * b ≤ a → a < 16777216 * b
    → (closest a b ≤ 16777216) × HasValue (round binary32 false a b) false (closest a b) 1
nearest_whole a b B lo hi = (
  most,
  subst (λ (x : Float). HasValue x false N 1) (sym is)
      (of_value (λ (x : Float). HasValue x false N 1) (units binary32 false N 149) false (N * 2 ^ 149) (2 ^ 149)
      (units_val binary32 false N 149 (mul-lt-mul_of_pos_right {n = 2 ^ 128} (lt_of_le_of_lt most (lit< tt)) (pow_pos 149)))
      (λ m e p. (
        refl,
        eq_of_mul-eq-mul_right (2 ^ 149) (pow_pos 149) (m * up e * 1) (N * down e)
            (ap (λ (z : ℕ). z * 2 ^ 149) (mul-one (m * up e)) ∙ p ∙ mul_right_comm N (2 ^ 149) (down e)),
      ))),
)
  where
    N : ℕ
    N = closest a b

    n : ℕ
    n = a * 2 ^ 149

    most : N ≤ 16777216
    most = le_trans (nearest-le (a / b) (compare (a % b * 2) b)) ((div-lt_iff_lt-mul B).1 hi)

    drop : size (n / b) - 24 ≡ 149
    drop =
        let l : 172 < size (n / b) = size_ge (n / b) 172 ((le-div_iff_mul-le B).1
        (le_trans (le_of_eq (mul_right_comm 8388608 (2 ^ 149) b)) (mul-le-mul_right (2 ^ 149) lo))) in
        let h : size (n / b) ≤ 173 = size-le (n / b) 173 ((div-lt_iff_lt-mul B).1
        (lt_of_lt_of_le (mul-lt-mul_of_pos_right hi (pow_pos 149)) (le_of_eq (mul_right_comm 16777216 b (2 ^ 149))))) in
        omega arith

    is : round binary32 false a b ≡ units binary32 false N 149
    is = round_is binary32 false a b ∙ ap (core binary32 false n b) drop
        ∙ ap (λ (k : ℕ). units binary32 false k 149)
        (closest_same n (b * 2 ^ 149) a b (mul-pos B (pow_pos 149)) B (mul_assoc a (2 ^ 149) b ∙ ap (λ (z : ℕ). a * z) (mul_comm (2 ^ 149) b)))

-- ---- the difference

-- of n and k, with the sign b
abbrev apart : (k : ℕ) (b : Bool) (n : ℕ) → ℕ
apart k b n = cond b (k - n) (n - k)

-- its size
abbrev pub rest : (k n : ℕ) → ℕ
rest k n = apart k (ltb n k) n

-- the negative of a number
neg_value : (y : Float) (k : ℕ) → HasValue y false k 1 → HasValue (neg y) true k 1
unfolding neg
neg_value y k w = of_value (λ (z : Float). HasValue (neg z) true k 1) y false k 1 w (λ m e p. (refl, p))

-- of whole numbers it is exact
pub rest_value : (x y : Float) (n k : ℕ) → n ≤ 16777216 → k ≤ 16777216 → HasValue x false n 1 → HasValue y false k 1
    → HasValue (sub binary32 x y) (ltb n k) (rest k n) 1
unfolding sub sum
rest_value x y n k l m v w =
    subst (λ (z : Float). HasValue z (ltb n k) (rest k n) 1) (sym (add_at binary32 x (neg y) false true n k 1 (zero-lt-suc 0) v (neg_value y k w)))
    (go (ltb n k))
  where
    go : (b : Bool) → HasValue (cond b (round binary32 true (k - n) 1) (round binary32 false (n - k) 1)) b (apart k b n) 1
    go true = round_whole binary32 true (k - n) (omega arith)
    go false = round_whole binary32 false (n - k) (omega arith)

-- ---- what the code reads

pub read_is : (v : ℕ) → v < 65536 → div binary32 (of_int binary32 (to_z w16 v)) scale ≡ sample_of v
unfolding of_int sample_of
read_is v l = go (ltb v 32768) refl
  where
    go : (t : Bool) → ltb v 32768 ≡ t
        → div binary32 (of_int binary32 (cond t (pos v) (negsuc (65536 - suc v)))) scale ≡ cond t (over false v) (over true (65536 - v))
    go true e = quotient (round binary32 false v 1) false v l (round_whole binary32 false v (omega (arith, l)))
    go false e =
        let k : suc (65536 - suc v) ≡ 65536 - v = omega (arith, l) in
        ap (λ (n : ℕ). div binary32 (round binary32 true n 1) scale) k
        ∙ quotient (round binary32 true (65536 - v) 1) true (65536 - v) (omega (arith, ltb-false v 32768 e))
        (round_whole binary32 true (65536 - v) (omega (arith, l)))
