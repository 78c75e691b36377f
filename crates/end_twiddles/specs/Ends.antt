-- The end twiddles of a length, two words each. Assumes nothing.
use Rattle.std.specs.Prelude.{ℕ, List, Float}
use Rattle.std.specs.Float.{binary32}
use Rattle.std.specs.Float.Ieee.{mul, neg}
use Rattle.sequences.specs.Pairs.{pairs}
use Rattle.counts.specs.Counts.{end_count}
use Rattle.turn.specs.Calls.{part}
use Rattle.turn.specs.Turns.{one_half, turn_of, words_of}
use Rattle.end_twiddles.specs.declared.inner.ends.Direction.{Direction}
use Rattle.end_twiddles.specs.declared.inner.ends.Direction.TheVariants.{Forward, Inverse}

-- forward half of a turn's words; inverse the sine negated
abbrev pub directed : Direction → Float × Float → Float × Float
directed Forward w = (mul binary32 one_half w.0, mul binary32 one_half w.1)
directed Inverse w = (w.0, neg w.1)

-- end twiddle k of length n
unfoldable pub end_twiddle : Direction → (n k : ℕ) → Float × Float
end_twiddle d n k = directed d (words_of (turn_of (part k n)))

-- all of them, k from 1 on
unfoldable pub end_words : Direction → (n : ℕ) → List Float
end_words d n = pairs (end_count n) 1 (end_twiddle d n)
