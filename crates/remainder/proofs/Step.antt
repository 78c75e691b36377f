-- One stage in remainders takes the block sums of stride s to those of stride s * r.
-- Assumes nothing.
use Rattle.sequences.proofs.Basics.{◌≡◌, sym, ap, ◌∙◌, ℕ, zero, suc, ◌+◌, ◌-◌, ◌*◌, ◌/◌, ◌%◌, ◌^◌, ◌<◌, add-mod, mod-mod, zero-mod, zero-add}
use Rattle.sequences.proofs.Basics.{mul-zero, mul_assoc, le_of_lt, mod-lt, div-add-mod', arith, List, pow-add, digits_mod}
use Rattle.sequences.proofs.Basics.{digits_lt}
use Rattle.counts.specs.Counts.{radix, stride}
use Rattle.schedule.specs.Stage.{Part, twiddle_turn, kernel_turn, read, total, plain, output, iteration, place}
use Rattle.schedule.proofs.Cells.{pos_left, pos_right, by_stride, by_radix, by_both, iteration_block, place_block}
use Rattle.powers.proofs.Powers.{mod-mul}
use Rattle.residues.specs.Residues.{turn, residues}
use Rattle.residues.proofs.Iteration.{turn_none, read_turned}
use Rattle.remainder.specs.Sums.{sum, block_sum, Blocks}
use Rattle.remainder.proofs.Sums.{mul_congruent, pow_circles, sum_congruent, sum_mul, sum_digits}

-- an output is the sum of its terms
total_sum : (m w h r : ℕ) (x g : ℕ → ℕ) (p : ℕ) → ((q : ℕ) → q < r → turn m w h (kernel_turn p q r) (x q) ≡ g q % m) → x 0 ≡ x 0 % m
    → (q : ℕ) → q < r → total (residues m w h) r x p q ≡ sum (suc q) g % m
unfolding total residues sum kernel_turn
total_sum m w h r x g p term reduced zero l = sym (turn_none m w h r (x 0) reduced) ∙ simp (mul-zero, zero-mod) at (term zero l) ∙ rw zero-add
total_sum m w h r x g p term reduced (suc q) l = rw (total_sum m w h r x g p term reduced q (le_of_lt l), term (suc q) l) (sym (add-mod _ _ m))

turn_reduced : (m w h : ℕ) (a : Part) (x : ℕ) → turn m w h a x ≡ turn m w h a x % m
unfolding turn
turn_reduced m w h a x = sym (mod-mod _ m)

module _ (m w h n s r : ℕ) (parts : h ≡ n * (s * r)) (circle : w ^ h % m ≡ 1 % m) (x : ℕ → ℕ) where
  -- The exponents of a term add up, but for whole circles.
  exponents : (k q u : ℕ) → n * (u * r + q) * k ≡ n * r * u * (k % s) + (k % s * q * n + k / s * q % r * (n * s)) + h * (k / s * q / r + u * (k / s))
  exponents k q u = rw parts (omega (arith, ap (λ (y : ℕ). n * (u * r + q) * y) (div-add-mod' k s), ap (λ (y : ℕ). y * (n * s)) (div-add-mod' (k / s * q) r)))

  one_term : (b k q u : ℕ) → x (b + q * n + n * r * u) * w ^ (n * r * u * (k % s)) * w ^ (k % s * q * n + k / s * q % r * (n * s)) % m
      ≡ x (b + n * (u * r + q)) * w ^ (n * (u * r + q) * k) % m
  one_term b k q u =
      let same : b + n * (u * r + q) ≡ b + q * n + n * r * u = omega arith in
      rw (mul_assoc (x _), ← pow-add, exponents k q u, same) (mul_congruent m _ _ _ (sym (pow_circles m w h circle _ _)))

  -- The sum of block b + q * n at column k % s, twiddled and turned, is the part of the sum of block b at column k whose indices have the low digit q.
  turned_sum : (b k q : ℕ)
      → sum s (λ u. x (b + q * n + n * r * u) * w ^ (n * r * u * (k % s))) % m * w ^ (k % s * q * n) % m * w ^ (k / s * q % r * (n * s)) % m
      ≡ sum s (λ u. x (b + n * (u * r + q)) * w ^ (n * (u * r + q) * k)) % m
  turned_sum b k q = simp (mod-mul m) (rw (mul_assoc (sum s _), ← pow-add, sum_mul) (sum_congruent m s _ _ (λ u l. one_term b k q u)))

  -- what the cells hold of block b + q * n at column k % s
  module _ (ps : 0 < s) (pr : 0 < r) (c : ℕ → ℕ) (before : Blocks m w h s x c) (b k : ℕ) (lb : b < n) where
    cell : (q : ℕ) → q < r → c (b * s + k % s + q * (h / r)) ≡ sum s (λ u. x (b + q * n + n * r * u) * w ^ (n * r * u * (k % s))) % m
    unfolding block_sum
    cell q lq =
        let same : b * s + k % s + q * (h / r) ≡ (b + q * n) * s + k % s = rw (by_radix h n s r parts ps pr) (omega arith) in
        let fits : b + q * n < h / s = rw (by_stride h n s r parts ps pr) (omega (arith, digits_lt lq lb)) in
        rw (same, before (b + q * n) (k % s) fits (mod-lt k ps), by_stride h n s r parts ps pr)

    cell_reduced : (q : ℕ) → q < r → c (b * s + k % s + q * (h / r)) ≡ c (b * s + k % s + q * (h / r)) % m
    cell_reduced q lq = rw (cell q lq) (sym (mod-mod _ m))

    term : (q : ℕ) → q < r → turn m w h (kernel_turn (k / s) q r) (turn m w h (twiddle_turn s r (b * s + k % s) q) (c (b * s + k % s + q * (h / r))))
        ≡ sum s (λ u. x (b + n * (u * r + q)) * w ^ (n * (u * r + q) * k)) % m
    unfolding turn kernel_turn twiddle_turn
    term q lq = rw (cell q lq, digits_mod b (mod-lt k ps), by_both h n s r parts ps pr, by_radix h n s r parts ps pr) (turned_sum b k q)

-- One stage: the block sums at the stride before it become those at the stride after it.
module _ (m w h n : ℕ) (rs : List ℕ) (j : ℕ) (parts : h ≡ n * (stride rs j * radix rs j)) (circle : w ^ h % m ≡ 1 % m) (first : j ≡ 0 → stride rs j ≡ 1)
    (x : ℕ → ℕ) where
  output_block : 0 < stride rs j → 0 < radix rs j → (c : ℕ → ℕ) → Blocks m w h (stride rs j) x c → (b k : ℕ) → b < n
      → output plain (residues m w h) j (h / radix rs j) (stride rs j) (radix rs j) c (b * stride rs j + k % stride rs j) (k / stride rs j)
      ≡ block_sum m w h (stride rs j * radix rs j) x b k
  unfolding block_sum output plain
  output_block ps pr c before b k lb =
      let s = stride rs j in let r = radix rs j in let all : suc (r - 1) ≡ r = omega arith in let i = b * s + k % s in
      let turned : (q : ℕ) → q < r → read (residues m w h) j (h / r) s r c i q ≡ turn m w h (twiddle_turn s r i q) (c (i + q * (h / r)))
      = λ q lq. read_turned m w h j (h / r) s r c i q (cell_reduced m w h n s r parts circle x ps pr c before b k lb q lq) first in
      total_sum m w h r (read (residues m w h) j (h / r) s r c i) (λ q. sum s (λ u. x (b + n * (u * r + q)) * w ^ (n * (u * r + q) * k))) (k / s)
      (λ q lq. rw (turned q lq) (term m w h n s r parts circle x ps pr c before b k lb q lq)) (rw (turned 0 pr) (turn_reduced m w h _ _)) (r - 1) (omega arith)
      ∙ rw (all, sum_digits, by_both h n s r parts ps pr)

  pub stage_blocks : (c : ℕ → ℕ) → Blocks m w h (stride rs j) x c → Blocks m w h (stride rs j * radix rs j) x
      (λ k. output plain (residues m w h) j (h / radix rs j) (stride rs j) (radix rs j) c (iteration (stride rs j) (radix rs j) k)
      (place (stride rs j) (radix rs j) k))
  stage_blocks c before b k lb lk =
      let s = stride rs j in let r = radix rs j in let ps = pos_left s r (omega arith) in
      let pr = pos_right s r (omega arith) in
      rw (iteration_block s r b k lk, place_block s r b k lk) (output_block ps pr c before b k (rw (by_both h n s r parts ps pr) at lb))
