-- A run in remainders: after each stage the cells hold the block sums, and after the last the transform.
-- Assumes nothing.
use Rattle.sequences.proofs.Basics.{◌≡◌, refl, sym, ◌∙◌, ℕ, zero, suc, ◌+◌, ◌*◌, ◌/◌, ◌%◌, ◌^◌, ◌≤◌, ◌<◌, zero-add, add-zero, zero-mul, one-mul, mul-zero}
use Rattle.sequences.proofs.Basics.{mul-one, pow-zero, le_of_lt, le_refl, div-one, div_self, mod-eq_of_lt, lt_of_lt_of_le, div-mul-le_self, arith, List, length}
use Rattle.sequences.proofs.Basics.{drop, digits_lt, lt-one}
use Rattle.sequences.proofs.Tables.{get_d_tabulate}
use Rattle.radices.specs.Lists.{product}
use Rattle.counts.specs.Counts.{stride, radix}
use Rattle.schedule.specs.Stage.{stage_by, stage, run, plain}
use Rattle.schedule.proofs.Strides.{stride_suc, stride_length, stage_parts}
use Rattle.residues.specs.Residues.{residues, cells}
use Rattle.remainder.specs.Sums.{sum, transform, block_sum, Blocks}
use Rattle.remainder.proofs.Step.{stage_blocks}

-- the first stage stands at stride 1
pub first_stride : (rs : List ℕ) (j : ℕ) → j ≡ 0 → stride rs j ≡ 1
unfolding stride product
first_stride rs j e = rw e

-- Remainders are their own block sums at stride 1.
lone_blocks : (m w h : ℕ) (x : ℕ → ℕ) → ((j : ℕ) → j < h → x j < m) → Blocks m w h 1 x x
unfolding block_sum sum
lone_blocks m w h x below b k lb lk = rw (lt-one lk) (simp (mul-zero, mul-one, zero-add, add-zero, pow-zero) (sym (mod-eq_of_lt (below b (rw div-one at lb)))))

module _ (m w h : ℕ) (circle : w ^ h % m ≡ 1 % m) (rs : List ℕ) (whole : h ≡ product rs) where
  -- one stage of a list
  pub stage_list_blocks : (j : ℕ) → j < length rs → (x : ℕ → ℕ) (xs : List ℕ) → Blocks m w h (stride rs j) x (cells xs)
      → Blocks m w h (stride rs (suc j)) x (cells (stage plain (residues m w h) h rs j xs))
  unfolding stage stage_by residues
  stage_list_blocks j l x xs before = rw (stride_suc rs j l) (λ b k lb lk.
      get_d_tabulate h 0 _ (b * (stride rs j * radix rs j) + k) 0 (lt_of_lt_of_le (digits_lt lb lk) (div-mul-le_self h (stride rs j * radix rs j)))
      ∙ rw zero-add (stage_blocks m w h (product (drop (suc j) rs)) rs j (whole ∙ stage_parts rs j l) circle (first_stride rs j) x (cells xs) before b k lb lk))

  module _ (xs : List ℕ) (below : (j : ℕ) → j < h → cells xs j < m) where
    -- after the first j stages every block holds the shorter sum
    pub run_blocks : (j : ℕ) → j ≤ length rs → Blocks m w h (stride rs j) (cells xs) (cells (run plain (residues m w h) h rs j xs))
    unfolding run
    run_blocks zero l = rw (first_stride rs 0 refl) (lone_blocks m w h (cells xs) below)
    run_blocks (suc j) l = stage_list_blocks j l (cells xs) (run plain (residues m w h) h rs j xs) (run_blocks j (le_of_lt l))

    -- after the last, the transform
    pub run_transform : (k : ℕ) → k < h → cells (run plain (residues m w h) h rs (length rs) xs) k ≡ transform m w h (cells xs) k
    unfolding transform block_sum
    run_transform k l =
        let end : stride rs (length rs) ≡ h = stride_length rs ∙ sym whole in
        let one : h / h ≡ 1 = div_self (omega arith) in
        let all : Blocks m w h h (cells xs) (cells (run plain (residues m w h) h rs (length rs) xs)) =
        rw end at (run_blocks (length rs) (le_refl (length rs))) in
        simp (zero-mul, zero-add, one, one-mul) at (all 0 k (rw one (omega arith)) l)
