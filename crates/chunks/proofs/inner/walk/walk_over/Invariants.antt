-- `walk_over` steps over the chunks of a file; the walk that is left leads to the same end. Assumes nothing.
use Rattle.sequences.proofs.Basics.{ℕ, List, length, drop}
use Rattle.std.specs.Prelude.{Ok}
use Rattle.chunks.specs.Chunks.{walk_of}
use Rattle.chunks.proofs.Walks.{Within, Leads, room}
use Rattle.chunks.proofs.inner.walk.walk_over.Given as goal

-- what a whole file shows
abbrev rest : List ℕ → ℕ → List ℕ
rest file at = drop at file

abbrev pub invariant-loop-walk : goal.invariant-loop-walk
invariant-loop-walk l = Within (length l.file) (Ok l.walk) × Leads (rest l.file) (length l.file) (walk_of l.file) (Ok l.walk)

abbrev pub decreases-loop-walk : goal.decreases-loop-walk
decreases-loop-walk l = room (rest l.file) (length l.file) (Ok l.walk)
