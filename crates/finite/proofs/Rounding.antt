-- `round` passes no value of its format: a fraction up to q * 2 ^ j, with q of no more digits than the format keeps, stays there.
-- Assumes nothing.
use Rattle.sequences.proofs.Basics.{◌≡◌, ap, ◌∙◌, ℕ, suc, ◌+◌, ◌-◌, ◌*◌, ◌/◌, ◌^◌, ◌≤◌, ◌<◌, le_trans, le_of_eq}
use Rattle.sequences.proofs.Basics.{mul_comm, mul-le-mul_right, le_of_mul-le-mul_right, mul-pos, le-div_iff_mul-le}
use Rattle.sequences.proofs.Basics.{pow-suc, arith, dec_le, dite, pow-add, pow_pos, pow_mono}
use Rattle.fractions.proofs.Fractions.{closest_whole}
use lib.Ieee.{Format, prec, low}
use lib.Ieee.Digits.{size_reaches}
use lib.Ieee.Fits.{two, two-le_pos}
use lib.Ieee.Nearest.{closest_mono}
use lib.Ieee.Order.{drop, kept}
use lib.Ieee.Scale.{grid}

-- ---- the digits dropped

module _ (p n den : ℕ) (P : 0 < p) (D : 0 < den) where
  pub above : 0 < drop p n den → 2 ^ (p - 1) * (den * 2 ^ drop p n den) ≤ n
  above K =
      let k = drop p n den in let w = n / den in
      let a : 2 ^ (p - 1 + k) ≤ w = size_reaches w (p - 1 + k) (omega arith) in
      let b : 2 ^ (p - 1 + k) * den ≤ n = (le-div_iff_mul-le D).0 a in
      le_trans (le_of_eq (omega (arith, ap (λ (x : ℕ). x * den) (pow-add 2 (p - 1) k)))) b

  pub twice : 2 ^ p ≡ 2 * 2 ^ (p - 1)
  twice = ap (λ (x : ℕ). 2 ^ x) (omega arith) ∙ pow-suc 2 (p - 1) ∙ mul_comm (2 ^ (p - 1)) 2

-- ---- no value of p digits is passed: a fraction up to q * 2 ^ j, with q up to 2 ^ p, stays there
module _ (p n den q j : ℕ) (P : 0 < p) (D : 0 < den) (small : q ≤ 2 ^ p) (h : n ≤ q * 2 ^ j * den) where
  kept_bound : kept p n den * 2 ^ drop p n den ≤ q * 2 ^ j
  kept_bound =
      let k = drop p n den in let K = 2 ^ k in let c = kept p n den in
      dite (dec_le k j) (λ (g : k ≤ j).
      let e : 2 ^ j ≡ 2 ^ (j - k) * K = ap (λ (x : ℕ). 2 ^ x) (omega arith) ∙ pow-add 2 (j - k) k in
      let r = q * 2 ^ (j - k) in let U : 0 < den * K = mul-pos D (pow_pos k) in
      let l : n * (den * K) ≤ r * (den * K) * (den * K) = mul-le-mul_right (den * K) (le_trans h (rw e (le_of_eq (omega arith)))) in
      let m : c ≤ r = le_trans (closest_mono n (den * K) (r * (den * K)) (den * K) U U l) (le_of_eq (closest_whole r (den * K) U)) in
      rw e (le_trans (mul-le-mul_right K m) (le_of_eq (omega arith)))) (λ (g : k ≤ j → ⊥).
      let H = 2 ^ (p - 1) in let U : 0 < den * K = mul-pos D (pow_pos k) in
      let a : H * (den * K) ≤ n = above p n den P D (omega arith) in
      let b : H * K ≤ q * 2 ^ j = le_of_mul-le-mul_right {m = H * K} (le_trans (le_trans (le_of_eq (omega arith)) a) h) D in
      let t : 2 * 2 ^ j ≤ K = le_trans (le_of_eq (omega arith)) (pow_mono {i = suc j} (omega arith)) in
      let s1 : q * (2 ^ j * den) ≤ 2 ^ p * (2 ^ j * den) = mul-le-mul_right (2 ^ j * den) small in
      let s2 : 2 * 2 ^ j * (H * den) ≤ K * (H * den) = mul-le-mul_right (H * den) t in
      let l : n ≤ H * (den * K) = omega (arith, twice p n den P D, ap (λ (x : ℕ). x * (2 ^ j * den)) (twice p n den P D)) in
      let m : c ≤ H = le_trans (closest_mono n (den * K) (H * (den * K)) (den * K) U U (mul-le-mul_right (den * K) l))
      (le_of_eq (closest_whole H (den * K) U)) in
      le_trans (mul-le-mul_right K m) b)

-- ---- in a format, for the grid that `round` rounds to

pub grid_bound : (f : Format) (a c : ℕ) → 0 < c → (q j : ℕ) → q ≤ 2 ^ prec f → a * 2 ^ low f ≤ q * 2 ^ j * c → grid f a c ≤ q * 2 ^ j
grid_bound f a c C q j small h = kept_bound (prec f) (a * 2 ^ low f) c q j (two-le_pos (prec f) (two f)) C small h
