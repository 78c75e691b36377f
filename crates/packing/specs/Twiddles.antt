-- The twiddles of the stages of a plan, two words each, in the order of their places. Assumes nothing.
use Rattle.std.specs.Prelude.{ℕ, zero, suc, ◌/◌, List, [], ◌++◌, Float}
use Rattle.packing.specs.Places.{packed}
use Rattle.counts.specs.Counts.{radix, stride}
use Rattle.schedule.specs.Stage.{twiddle_turn}
use Rattle.turn.specs.Turns.{turn_of, words_of}

-- twiddle k of iteration i, in a stage of radix r at stride s: the words of the turn that the schedule states
unfoldable pub twiddle : (s r i k : ℕ) → Float × Float
twiddle s r i k = words_of (turn_of (twiddle_turn s r i k))

-- stage j of the radices rs, for h cells: the first has no twiddles
unfoldable pub stage_words : (h : ℕ) → List ℕ → (W j : ℕ) → List Float
stage_words h rs W zero = []
stage_words h rs W (suc j) = packed (h / radix rs (suc j)) (radix rs (suc j)) W (twiddle (stride rs (suc j)) (radix rs (suc j)))

-- the first n stages, one after the other
unfoldable pub stages_words : (h : ℕ) → List ℕ → (W n : ℕ) → List Float
stages_words h rs W zero = []
stages_words h rs W (suc j) = stages_words h rs W j ++ stage_words h rs W j
