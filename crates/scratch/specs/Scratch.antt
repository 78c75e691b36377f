-- The parts of a scratch: its first 2h words are Data, the next 2h the Scratchpad; h is a plan's half. Assumes nothing.
use Rattle.std.specs.Prelude.{ℕ, ◌*◌, List, ◌++◌, Float, take, drop}
use Rattle.schedule.specs.Buffers.{Two}

-- the Data and the Scratchpad of a scratch
abbrev pub data_of : (h : ℕ) → List Float → List Float
data_of h s = take (2 * h) s

abbrev pub pad_of : (h : ℕ) → List Float → List Float
pad_of h s = take (2 * h) (drop (2 * h) s)

-- a scratch with these two in it
abbrev pub with_both : (h : ℕ) → Two Float → List Float → List Float
with_both h b s = b.0 ++ b.1 ++ drop (4 * h) s
