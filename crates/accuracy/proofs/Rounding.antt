-- How far `round` moves a fraction, in units of the format's smallest value. That it passes no value of its format
-- is `grid_bound` of crates/finite. Assumes nothing.
use Rattle.sequences.proofs.Basics.{◌≡◌, subst, ℕ, ◌+◌, ◌-◌, ◌*◌, ◌/◌, ◌%◌, ◌^◌, ◌≤◌, ◌<◌, compare, Ordering, ordering_lt, ordering_eq, ordering_gt, le_trans}
use Rattle.sequences.proofs.Basics.{le_of_lt, mul-one, mul-le-mul_right, mul-le-mul_left, le_of_mul-le-mul_right, mul-pos, div-add-mod', mod-lt, arith, dec_le}
use Rattle.sequences.proofs.Basics.{not, dite, T, is_le, compare_is_eq, leb→le, nleb→lt, eqb→eq, pow_pos}
use lib.Ieee.{Format, prec, low, nearest}
use lib.Ieee.Fits.{two, two-le_pos}
use lib.Ieee.Nearest.{closest}
use lib.Ieee.Order.{drop, kept}
use lib.Ieee.Scale.{grid}
use Rattle.fractions.proofs.Fractions.{closest_whole}
use Rattle.finite.proofs.Rounding.{above, twice}
use Rattle.accuracy.specs.Value.{Near}

-- ---- to the nearest whole number: off by half at most
abbrev Side : Ordering → ℕ → ℕ → Type 0
Side ordering_lt a b = a ≤ b
Side ordering_eq a b = a ≡ b
Side ordering_gt a b = b ≤ a

side : (a b : ℕ) → Side (compare a b) a b
side a b = go (compare a b) (leb→le a b) (nleb→lt a b) (eqb→eq a b)
  where
    go : (o : Ordering) → (T (is_le o) → a ≤ b) → (T (not (is_le o)) → b < a) → (T (compare_is_eq o) → a ≡ b) → Side o a b
    go ordering_lt h k e = h tt
    go ordering_eq h k e = e tt
    go ordering_gt h k e = le_of_lt (k tt)

half_off : (q r b : ℕ) (o : Ordering) → r ≤ b → Side o (r * 2) b → Near b (2 * (nearest q o * b)) (2 * (q * b + r))
half_off q r b ordering_lt l h = omega arith
half_off q r b ordering_eq l h =
    let m : q % 2 * b ≤ 1 * b = mul-le-mul_right b (omega arith) in
    omega arith
half_off q r b ordering_gt l h = omega arith

pub closest_near : (a b : ℕ) → 0 < b → Near b (2 * (closest a b * b)) (2 * a)
closest_near a b h = subst (λ (x : ℕ). Near b (2 * (closest a b * b)) (2 * x)) (div-add-mod' a b)
    (half_off (a / b) (a % b) b (compare (a % b * 2) b) (le_of_lt (mod-lt a h)) (side (a % b * 2) b))

-- ---- the digits dropped
module _ (p n den : ℕ) (P : 0 < p) (D : 0 < den) where
  -- half of the unit dropped to, against n
  pub unit_small : 2 ^ (p - 1) * (den * 2 ^ drop p n den) ≤ n + 2 ^ (p - 1) * den
  unit_small = dite (dec_le 1 (drop p n den)) (λ (g : 1 ≤ drop p n den). le_trans (above p n den P D g) (omega arith))
      (λ (g : 1 ≤ drop p n den → ⊥). let z : drop p n den ≡ 0 = omega arith in rw z (omega arith))

  -- a fraction n / den is off by a 2 ^ p-th part of itself and half a unit at most
  pub kept_near : Near (n + 2 ^ (p - 1) * den) (2 ^ p * (kept p n den * 2 ^ drop p n den * den)) (2 ^ p * n)
  kept_near =
      let H = 2 ^ (p - 1) in let K = 2 ^ drop p n den in let c = kept p n den in
      let e = closest_near n (den * K) (mul-pos D (pow_pos (drop p n den))) in
      let a : H * (2 * (c * (den * K))) ≤ H * (2 * n + den * K) = mul-le-mul_left H e.0 in
      let b : H * (2 * n) ≤ H * (2 * (c * (den * K)) + den * K) = mul-le-mul_left H e.1 in
      rw (twice p n den P D) (omega (arith, unit_small))

-- a whole number is off by a 2 ^ p-th part of itself at most
module _ (p v den : ℕ) (P : 0 < p) (D : 0 < den) where
  pub whole_near : Near v (2 ^ p * (kept p (v * den) den * 2 ^ drop p (v * den) den)) (2 ^ p * v)
  whole_near = dite (dec_le 1 (drop p (v * den) den)) (λ (g : 1 ≤ drop p (v * den) den).
      let k = drop p (v * den) den in let H = 2 ^ (p - 1) in let c = kept p (v * den) den in let K = 2 ^ k in
      let u : H * (den * K) ≤ v * den = above p (v * den) den P D g in
      let u' : H * K ≤ v = le_of_mul-le-mul_right {m = H * K} (omega arith) D in
      let e = closest_near (v * den) (den * K) (mul-pos D (pow_pos k)) in
      let a : 2 * (c * K) ≤ 2 * v + K = le_of_mul-le-mul_right {m = 2 * (c * K)} (omega arith) D in
      let b : 2 * v ≤ 2 * (c * K) + K = le_of_mul-le-mul_right {m = 2 * v} (omega arith) D in
      let a' : H * (2 * (c * K)) ≤ H * (2 * v + K) = mul-le-mul_left H a in
      let b' : H * (2 * v) ≤ H * (2 * (c * K) + K) = mul-le-mul_left H b in
      rw (twice p (v * den) den P D) (omega arith)) (λ (g : 1 ≤ drop p (v * den) den → ⊥).
      let z : drop p (v * den) den ≡ 0 = omega arith in
      let e : closest (v * den) (den * 1) ≡ v = rw mul-one (closest_whole v den D) in
      rw (z, e) (omega arith))

-- ---- in a format, for the grid that `round` rounds to
module _ (f : Format) (a c : ℕ) (C : 0 < c) where
  P : 0 < prec f
  P = two-le_pos (prec f) (two f)

  -- a / c moves by a 2 ^ prec-th part of itself and half a unit at most
  pub grid_near : Near (a * 2 ^ low f + 2 ^ (prec f - 1) * c) (2 ^ prec f * (grid f a c * c)) (2 ^ prec f * (a * 2 ^ low f))
  grid_near = kept_near (prec f) (a * 2 ^ low f) c P C

-- v units, a whole number of them, move by a 2 ^ prec-th part of themselves at most
pub units_near : (f : Format) (v : ℕ) → Near v (2 ^ prec f * grid f v (2 ^ low f)) (2 ^ prec f * v)
units_near f v = whole_near (prec f) v (2 ^ low f) (two-le_pos (prec f) (two f)) (pow_pos (low f))
