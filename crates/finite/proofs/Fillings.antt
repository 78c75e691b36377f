-- Every word of a filling is at most 1. Assumes nothing.
use Rattle.sequences.proofs.Basics.{ℕ, zero, suc, arith, List, lit≤}
use lib.Ieee.{Float, of_bits}
use Rattle.sequences.specs.Pairs.{pairs}
use Rattle.packing.specs.Places.{packed}
use Rattle.plan.specs.declared.Record.{Record}
use Rattle.schedule.specs.Stage.{Part}
use Rattle.turn.specs.Calls.{part}
use Rattle.turn.specs.Turns.{one_half, turn_of, words_of}
use Rattle.turn.proofs.Small.{words_small}
use Rattle.twiddle.specs.Calls.{filled}
use Rattle.packing.specs.Twiddles.{twiddle, stage_words, stages_words}
use Rattle.end_twiddles.specs.Ends.{directed, end_twiddle, end_words}
use Rattle.end_twiddles.specs.declared.inner.ends.Direction.{Direction}
use Rattle.end_twiddles.specs.declared.inner.ends.Direction.TheVariants.{Forward, Inverse}
use Rattle.finite.specs.Sizes.{AtMost, Words}
use Rattle.finite.proofs.Sizes.{Room, mul_most, neg_most}
use Rattle.finite.proofs.Stages.{small_most}
use Rattle.finite.proofs.Transforms.{joined_words}

-- two words at most 1
abbrev pub Ones : Float × Float → Type 0
Ones w = AtMost 1 0 w.0 × AtMost 1 0 w.1

-- those of a turn
pub turn_ones : (a : Part) → Ones (words_of (turn_of a))
turn_ones a = let w = words_small a in (small_most (words_of (turn_of a)).0 w.0, small_most (words_of (turn_of a)).1 w.1)

-- those of a direction's end twiddle
half_one : AtMost 1 0 one_half
unfolding of_bits
half_one = lit≤ tt

directed_ones : (d : Direction) (w : Float × Float) → Ones w → Ones (directed d w)
directed_ones Forward w o =
    let room : Room 14 1 0 = record { digits = lit≤ tt; kept = lit≤ tt; below = lit≤ tt } in
    (mul_most 14 1 1 0 0 room one_half w.0 half_one o.0, mul_most 14 1 1 0 0 room one_half w.1 half_one o.1)
directed_ones Inverse w o = (o.0, neg_most 1 0 w.1 o.1)

-- a row of pairs
pairs_words : (k n : ℕ) (f : ℕ → Float × Float) → ((i : ℕ) → Ones (f i)) → Words 0 (pairs k n f)
unfolding pairs
pairs_words zero n f o i l = absurd (omega arith)
pairs_words (suc k) n f o zero l = (o n).0
pairs_words (suc k) n f o (suc zero) l = (o n).1
pairs_words (suc k) n f o (suc (suc i)) l = pairs_words k (suc n) f o i (omega arith)

stage_ones : (h : ℕ) (rs : List ℕ) (W j : ℕ) → Words 0 (stage_words h rs W j)
unfolding stage_words packed twiddle
stage_ones h rs W zero = λ i l. absurd (omega arith)
stage_ones h rs W (suc j) = pairs_words _ _ _ (λ i. turn_ones _)

stages_ones : (h : ℕ) (rs : List ℕ) (W n : ℕ) → Words 0 (stages_words h rs W n)
unfolding stages_words
stages_ones h rs W zero = λ i l. absurd (omega arith)
stages_ones h rs W (suc j) = joined_words 0 (stages_words h rs W j) (stage_words h rs W j) (stages_ones h rs W j) (stage_ones h rs W j)

ends_ones : (d : Direction) (n : ℕ) → Words 0 (end_words d n)
unfolding end_words end_twiddle
ends_ones d n = pairs_words _ _ _ (λ k. directed_ones d (words_of (turn_of (part k n))) (turn_ones (part k n)))

-- both slices
pub filled_ones : (d : Direction) (p : Record) (W : ℕ) → Words 0 (filled d p W).0 × Words 0 (filled d p W).1
filled_ones d p W = (stages_ones _ _ W p.count, ends_ones d p.n)
