-- c / 2 ^ 60 rounded to binary32 is q * 2 ^ k / 2 ^ 60, where q is the whole number nearest to c / 2 ^ k and k is how many digits c has
-- beyond 24. Assumes nothing.
use Rattle.sequences.proofs.Basics.{◌≡◌, refl, sym, ap, ◌∙◌, subst, ℕ, zero, suc, ◌+◌, ◌-◌, ◌*◌, ◌/◌, ◌%◌, ◌^◌, ◌<◌, ◌≤◌, mul-one, one-mul, mul-pos, mul_assoc}
use Rattle.sequences.proofs.Basics.{mul_comm, mul_left_comm, mul_right_comm, mul-div_cancel, mul-mod_left, eq-or-lt_of_le, lt_of_not-le, not-le_of_lt}
use Rattle.sequences.proofs.Basics.{lt_of_lt_of_le, le_trans, le_of_eq, le_refl, zero-lt-suc, mul-lt-mul_of_pos_right, mul-le-mul_right, eq_of_mul-eq-mul_right}
use Rattle.sequences.proofs.Basics.{mod-eq_of_lt, arith, dec_le, Bool, true, false, cond, not, true≢false, inl, inr, dite, T, ltb, le→leb, lit<, pow-add}
use Rattle.sequences.proofs.Basics.{pow_pos, pow_mono, pow-lt, lt-leb, ne_eqb}
use lib.Count.{count_trailing_zeros, count_leading_zeros, leading_length}
use lib.IntN.{pos}
use lib.Ieee.{Float, nan, inf, fin, Format, binary32, prec, low, emax, up, down, minus, size, odd, units, round, mul, neg, of_int, of_bits, of_fields, is_nan}
use lib.Ieee.{nan_bits, in_float}
use lib.Ieee.Digits.{size-lt, size-le, minus_val}
use lib.Ieee.Fits.{round_is, down_pos}
use lib.Ieee.Exact.{HasValue}
use lib.Ieee.Nearest.{closest, closest_same}
use lib.Ieee.Scale.{round_same}
use lib.Ieee.Back.{round_whole}
use lib.Ieee.Bits.{nan_bits_is}
use Rattle.house.specs.Rounding.{Beyond}
use Rattle.house.proofs.Closest.{closest_exact, closest_one, closest_top, closest_low}

-- a / 2 ^ 60 as an f32
abbrev over : ℕ → Float
over a = round binary32 false a (2 ^ 60)

-- q * 2 ^ k of the smallest f32
abbrev smallest : (q k : ℕ) → Float
smallest q k = units binary32 false q k

-- ---- a number of 24 digits before the point at 2 ^ k

abbrev Digits : (a k : ℕ) → Type 0
Digits a k = (8388608 * 2 ^ k ≤ a) × (a < 16777216 * 2 ^ k)

size_ge : (n j : ℕ) → 2 ^ j ≤ n → j < size n
size_ge n j h = lt_of_not-le (λ (g : size n ≤ j). not-le_of_lt (lt_of_lt_of_le (size-lt n) (pow_mono g)) h)

-- `round` drops k + 89 of its digits
drop_is : (a k : ℕ) → Digits a k → size (a * 2 ^ 149 / 2 ^ 60) - 24 ≡ k + 89
drop_is a k d =
    let n = a * 2 ^ 89 in
    let e : a * 2 ^ 149 / 2 ^ 60 ≡ n =
    ap (λ (x : ℕ). x / 2 ^ 60) (sym (mul_assoc a (2 ^ 89) (2 ^ 60))) ∙ mul-div_cancel n (pow_pos 60) in
    let l : 23 + k + 89 < size n = size_ge n (23 + k + 89) (le_trans (le_of_eq (power 23)) (mul-le-mul_right (2 ^ 89) d.0)) in
    let h : size n ≤ 24 + k + 89 =
    size-le n (24 + k + 89) (lt_of_lt_of_le (mul-lt-mul_of_pos_right d.1 (pow_pos 89)) (le_of_eq (sym (power 24)))) in
    ap (λ (x : ℕ). size x - 24) e ∙ omega arith
  where
    power : (i : ℕ) → 2 ^ (i + k + 89) ≡ 2 ^ i * 2 ^ k * 2 ^ 89
    power i = pow-add 2 (i + k) 89 ∙ ap (λ (x : ℕ). x * 2 ^ 89) (pow-add 2 i k)

-- so it gives the nearest whole number of 2 ^ k
round_at : (a k : ℕ) → Digits a k → over a ≡ smallest (closest a (2 ^ k)) (k + 89)
round_at a k d = round_is binary32 false a (2 ^ 60) ∙ ap (λ (z : ℕ). smallest (closest (a * 2 ^ 149) (2 ^ 60 * 2 ^ z)) z) (drop_is a k d)
    ∙ ap (λ (z : ℕ). smallest z (k + 89))
    (closest_same (a * 2 ^ 149) (2 ^ 60 * 2 ^ (k + 89)) a (2 ^ k) (mul-pos (pow_pos 60) (pow_pos (k + 89))) (pow_pos k) cross)
  where
    split : 2 ^ 60 * 2 ^ (k + 89) ≡ 2 ^ k * 2 ^ 149
    split = ap (λ (x : ℕ). 2 ^ 60 * x) (pow-add 2 k 89) ∙ mul_left_comm (2 ^ 60) (2 ^ k) (2 ^ 89)

    cross : a * 2 ^ 149 * 2 ^ k ≡ a * (2 ^ 60 * 2 ^ (k + 89))
    cross = mul_assoc a (2 ^ 149) (2 ^ k) ∙ ap (λ (x : ℕ). a * x) (mul_comm (2 ^ 149) (2 ^ k) ∙ sym split)

-- ---- q * 2 ^ k rounds as c does

-- 2 ^ 24 at k is 2 ^ 23 at k + 1
carried : (k : ℕ) → 16777216 * 2 ^ k ≡ 8388608 * 2 ^ (k + 1)
carried k = omega (arith, pow-add 2 k 1)

smallest_carried : (k : ℕ) → smallest 16777216 k ≡ smallest 8388608 (k + 1)
unfolding units odd count_trailing_zeros
smallest_carried k = ap (λ (x : ℕ). cond (ltb x (2 ^ 277)) (fin false 1 (minus (k + 24) 149)) (inf false)) (carried k)
    ∙ ap (λ (x : ℕ). cond (ltb (8388608 * 2 ^ (k + 1)) (2 ^ 277)) (fin false 1 (minus x 149)) (inf false)) move
  where
    move : k + 24 ≡ k + 1 + 23
    move = omega arith

-- q of 24 digits is exact
exact_below : (q k : ℕ) → 8388608 ≤ q → q < 16777216 → over (q * 2 ^ k) ≡ smallest q (k + 89)
exact_below q k l h = round_at (q * 2 ^ k) k (mul-le-mul_right (2 ^ k) l, mul-lt-mul_of_pos_right h (pow_pos k))
    ∙ ap (λ (x : ℕ). smallest x (k + 89)) (closest_exact q k)

-- and so is 2 ^ 24, the first of 25
exact : (q k : ℕ) → 8388608 ≤ q → q ≤ 16777216 → over (q * 2 ^ k) ≡ smallest q (k + 89)
exact q k l h = elim (eq-or-lt_of_le h) [
  | inl e ↦ ap (λ (x : ℕ). over (x * 2 ^ k)) e ∙ ap over (carried k)
      ∙ exact_below 8388608 (k + 1) (le_refl 8388608) (lit< tt) ∙ ap (smallest 8388608) move ∙ sym (smallest_carried (k + 89))
      ∙ ap (λ (x : ℕ). smallest x (k + 89)) (sym e)
  | inr l' ↦ exact_below q k l l'
]
  where
    move : k + 1 + 89 ≡ k + 89 + 1
    move = omega arith

same_value : (c k : ℕ) → Beyond c k → over (closest c (2 ^ k) * 2 ^ k) ≡ over c
same_value c zero b = ap over (mul-one (closest c 1) ∙ closest_one c)
same_value c (suc k) b =
    let l = b.low (zero-lt-suc k) in
    exact (closest c (2 ^ suc k)) (suc k) (closest_low c (suc k) 8388608 l) (closest_top c (suc k) 16777216 b.high) ∙ sym (round_at c (suc k) (l, b.high))

-- ---- the product of q and 2 ^ (k - 60)

cross_mul : (A q D U D' k : ℕ) → A * 1 ≡ q * D → 1 * U * 2 ^ 149 ≡ 1 * 2 ^ (k + 89) * D' → A * (1 * U) * 2 ^ 60 ≡ q * 2 ^ k * (D * D')
cross_mul A q D U D' k v w =
    let t : U * 2 ^ 60 ≡ 2 ^ k * D' =
    eq_of_mul-eq-mul_right (2 ^ 89) (pow_pos 89) (U * 2 ^ 60) (2 ^ k * D') (mul_assoc U (2 ^ 60) (2 ^ 89) ∙ ap (λ (x : ℕ). x * 2 ^ 149) (sym (one-mul U)) ∙ w
    ∙ ap (λ (x : ℕ). x * D') (one-mul (2 ^ (k + 89)) ∙ pow-add 2 k 89) ∙ mul_right_comm (2 ^ k) (2 ^ 89) D') in
    ap (λ (x : ℕ). A * x * 2 ^ 60) (one-mul U) ∙ mul_assoc A U (2 ^ 60) ∙ ap (λ (x : ℕ). A * x) t ∙ ap (λ (x : ℕ). x * (2 ^ k * D')) (sym (mul-one A) ∙ v)
    ∙ simp (mul_assoc, mul_comm)

scale_mul : (x : Float) (q k : ℕ) → HasValue x false q 1 → mul binary32 x (fin false 1 (minus (k + 89) 149)) ≡ over (q * 2 ^ k)
unfolding mul
scale_mul nan q k v = absurd v
scale_mul (inf s) q k v = absurd v
scale_mul (fin true m e) q k v = absurd (true≢false v.0)
scale_mul (fin false m e) q k v =
    let z = minus (k + 89) 149 in
    round_same binary32 false (m * up e * (1 * up z)) (down e * down z) (q * 2 ^ k) (2 ^ 60) (mul-pos (down_pos e) (down_pos z)) (pow_pos 60)
    (cross_mul (m * up e) q (down e) (up z) (down z) k v.1 (minus_val 1 (k + 89) 149))

-- the pattern of 2 ^ (k - 60), field by field
fields : (k : ℕ) → k ≤ 37 → of_fields binary32 false (suc (66 + k)) 0 ≡ fin false 1 (minus (k + 89) 149)
unfolding of_fields odd count_trailing_zeros
fields k h = ap (λ (x : Bool). cond x (inf false) (fin false 1 (minus (66 + k + 23) 149))) (ne_eqb (suc (66 + k)) 255 below)
    ∙ ap (λ (x : ℕ). fin false 1 (minus x 149)) more
  where
    below : suc (66 + k) ≡ 255 → ⊥
    below e = omega arith

    more : 66 + k + 23 ≡ k + 89
    more = omega arith

pattern : (k : ℕ) → k ≤ 37 → of_bits binary32 ((67 + k) * 8388608) ≡ fin false 1 (minus (k + 89) 149)
unfolding of_bits
pattern k h =
    let b = (67 + k) * 8388608 in
    ap (λ (x : Bool). of_fields binary32 x (b % 2147483648 / 8388608) (b % 8388608)) (lt-leb 2147483648 b (omega arith))
    ∙ ap (λ (x : ℕ). of_fields binary32 false (x / 8388608) (b % 8388608)) (mod-eq_of_lt below)
    ∙ ap (λ (x : ℕ). of_fields binary32 false x (b % 8388608)) (mul-div_cancel (67 + k) (lit< tt))
    ∙ ap (λ (x : ℕ). of_fields binary32 false (67 + k) x) (mul-mod_left (67 + k) 8388608) ∙ ap (λ (x : ℕ). of_fields binary32 false x 0) step ∙ fields k h
  where
    below : (67 + k) * 8388608 < 2147483648
    below = omega arith

    step : 67 + k ≡ suc (66 + k)
    step = omega arith

-- ---- how many digits are beyond 24

beyond_is : (c m k : ℕ) → m ≡ 24 + k → c < 2 ^ m → 2 ^ m ≤ 2 * c + 1 → Beyond c k
beyond_is c m k e hi lo =
    let p : 2 ^ m ≡ 16777216 * 2 ^ k = ap (λ (x : ℕ). 2 ^ x) e ∙ pow-add 2 24 k in
    record { low = λ (z : 0 < k). omega arith; high = omega arith }

some_beyond : (c : ℕ) → c < 2 ^ 64 → count_leading_zeros 64 c < 40 → Beyond c (40 - count_leading_zeros 64 c)
some_beyond c h l =
    let z = leading_length 64 c h in beyond_is c z.0 (40 - count_leading_zeros 64 c) (omega arith) z.2 z.3

none_beyond : (c : ℕ) → c < 2 ^ 64 → 40 ≤ count_leading_zeros 64 c → Beyond c 0
none_beyond c h l =
    let z = leading_length 64 c h in
    record { low = λ (z : 0 < 0). omega arith; high = lt_of_lt_of_le z.2 (pow_mono {j = 24} (omega arith)) }

pub digits_beyond : (c k : ℕ) → c < 2 ^ 64 → k ≡ 40 - count_leading_zeros 64 c → Beyond c k
digits_beyond c k h e =
    let z = count_leading_zeros 64 c in
    dite (dec_le 40 z) (λ (l : 40 ≤ z). let none : 0 ≡ k = omega arith in subst (Beyond c) none (none_beyond c h l))
    (λ (n : 40 ≤ z → ⊥). subst (Beyond c) (sym e) (some_beyond c h (omega arith)))

-- of a number up to 2 ^ 60 there are at most 37
pub few_beyond : (c k : ℕ) → c ≤ 2 ^ 60 → Beyond c k → k ≤ 37
few_beyond c k h b = dite (dec_le k 37) (λ (x : k ≤ 37). x) (λ (x : k ≤ 37 → ⊥). absurd (many (lt_of_not-le x)))
  where
    many : 37 < k → ⊥
    many l = let p : 2 ^ 38 ≤ 2 ^ k = pow_mono l in let q = b.low (omega arith) in omega arith

-- what `1 << k` is
pub shifted : (k : ℕ) → k ≤ 37 → 1 * 2 ^ k % 2 ^ 64 ≡ 2 ^ k
shifted k h = ap (λ (x : ℕ). x % 2 ^ 64) (one-mul (2 ^ k)) ∙ mod-eq_of_lt (pow-lt {j = 64} (omega arith))

-- ---- all of it: c with k digits beyond 24, and q the whole number nearest to c / 2 ^ k

module _ (c k q : ℕ) (h : k ≤ 37) (b : Beyond c k) (e : q ≡ closest c (2 ^ k)) where
  at_most : q ≤ 16777216
  at_most = subst (λ (x : ℕ). x ≤ 16777216) (sym e) (closest_top c k 16777216 b.high)

  pub nearest_is : mul binary32 (of_int binary32 (pos q)) (of_bits binary32 ((67 + k) * 8388608)) ≡ round binary32 false c (2 ^ 60)
  unfolding of_int
  nearest_is = ap (λ (y : Float). mul binary32 (round binary32 false q 1) y) (pattern k h)
      ∙ scale_mul (round binary32 false q 1) q k (round_whole binary32 false q at_most) ∙ ap (λ (x : ℕ). over (x * 2 ^ k)) e ∙ same_value c k b

  -- the cast of q loses nothing
  pub cast_in_float : T (in_float binary32 (pos q))
  unfolding in_float
  cast_in_float = le→leb q 16777216 at_most

-- the pattern is a number's
pub no_nan : (k : ℕ) → k ≤ 37 → T (not (nan_bits binary32 ((67 + k) * 8388608)))
unfolding is_nan
no_nan k h = subst (λ (b : Bool). T (not b)) (sym (nan_bits_is binary32 ((67 + k) * 8388608) ∙ ap is_nan (pattern k h))) tt

-- ---- the sign

neg_odd : (d q k l : ℕ) → neg (odd d false q k l) ≡ odd d true q k l
unfolding neg odd
neg_odd d zero k l = refl
neg_odd d (suc q) k l = refl

neg_cond : (b : Bool) (x y : Float) → neg (cond b x y) ≡ cond b (neg x) (neg y)
neg_cond true x y = refl
neg_cond false x y = refl

neg_units : (f : Format) (q k : ℕ) → neg (units f false q k) ≡ units f true q k
unfolding units neg
neg_units f q k =
    let t = ltb (q * 2 ^ k) (2 ^ (low f + suc (emax f))) in
    neg_cond t (odd (suc (prec f)) false q k (low f)) (inf false) ∙ ap (λ (x : Float). cond t x (inf true)) (neg_odd (suc (prec f)) q k (low f))

-- the negated number is rounded to the negated f32
pub neg_round : (f : Format) (a b : ℕ) → neg (round f false a b) ≡ round f true a b
unfolding round
neg_round f a b = neg_units f _ _
