-- The bytes of samples laid into a slice, two at a time. Assumes nothing.
use Rattle.sequences.proofs.Basics.{◌≡◌, sym, ap, ◌∙◌, ℕ, ◌+◌, ◌*◌, ◌/◌, ◌%◌, ◌<◌, ◌≤◌, zero-add, arith, not-false, true, not, List, length, get_or, set, paste}
use lib.Ieee.{Float, nan}
use Rattle.sequences.specs.Lists.{pasted}
use Rattle.sequences.specs.Pairs.{At}
use Rattle.sequences.proofs.First.{none_passes}
use Rattle.sequences.proofs.Pasted.{paste_next, paste_all}
use Rattle.sequences.proofs.Pairs.{length_pairs, pairs_at, told}
use Rattle.pcm.specs.Samples.{fits, word_of, first_unfit, sample_bytes}

-- where all fit, each does
pub all_fit : (xs : List Float) → length xs ≤ first_unfit xs → (i : ℕ) → i < length xs → fits (get_or xs i nan) ≡ true
unfolding first_unfit
all_fit xs l i li = not-false _ (none_passes nan (λ (x : Float). not (fits x)) xs l i li)

-- two bytes for each sample
pub length_bytes : (xs : List Float) → length (sample_bytes xs) ≡ 2 * length xs
unfolding sample_bytes
length_bytes xs = length_pairs (length xs) 0 _

-- the two bytes of the i-th
pub bytes_at : (xs : List Float) (i : ℕ) → i < length xs → At 0 (sample_bytes xs) i (word_of (get_or xs i nan) % 256, word_of (get_or xs i nan) / 256)
unfolding sample_bytes
bytes_at xs i l = told 0 (sample_bytes xs) i _ (pairs_at 0 (length xs) 0 _ i l ∙ rw zero-add)

module _ (ys : List ℕ) (from : ℕ) (xs : List Float) (room : from + 2 * length xs ≤ length ys) where
  -- one sample more
  pub bytes_next : (i v : ℕ) (out : List ℕ) → i < length xs → v ≡ word_of (get_or xs i nan) → out ≡ paste ys from (sample_bytes xs) (2 * i)
      → set (set out (from + 2 * i) (v % 256)) (from + 2 * i + 1) (v / 256) ≡ paste ys from (sample_bytes xs) (2 * (i + 1))
  bytes_next i v out l w e =
      let at = bytes_at xs i l in let n = length_bytes xs in
      let one = paste_next ys from (sample_bytes xs) (2 * i) (v % 256) 0 out (omega arith) (omega arith) (at.first ∙ ap (λ (k : ℕ). k % 256) (sym w)) e in
      let two = paste_next ys from (sample_bytes xs) (2 * i + 1) (v / 256) 0 (set out (from + 2 * i) (v % 256)) (omega arith) (omega arith)
      (at.second ∙ ap (λ (k : ℕ). k / 256) (sym w)) one in
      ap (λ (k : ℕ). set (set out (from + 2 * i) (v % 256)) k (v / 256)) {x = from + 2 * i + 1} {y = from + (2 * i + 1)} (omega arith) ∙ two
      ∙ ap (paste ys from (sample_bytes xs)) {x = 2 * i + 1 + 1} {y = 2 * (i + 1)} (omega arith)

  -- all
  pub bytes_all : (i : ℕ) (out : List ℕ) → i ≡ length xs → out ≡ paste ys from (sample_bytes xs) (2 * i) → out ≡ pasted ys from (sample_bytes xs)
  bytes_all i out e o = o ∙ paste_all ys from (sample_bytes xs) (2 * i) (omega (arith, length_bytes xs))
