-- `ends::inner::cells::Row::batch` meets its contract. Assumes nothing.
use Rattle.sequences.proofs.Basics.{◌≡◌, length}
use Rattle.ends.specs.Parts.{Batched}
use Rattle.ends.proofs.inner.cells.Row.batch.Given as goal

abbrev pub invariant-loop-j : goal.invariant-loop-j
invariant-loop-j g l = (length l.ahead ≡ length l.initial.ahead) × (length l.back ≡ length l.initial.back)
    × Batched g.D.Direction.steps l.self.h l.self.twiddles.now l.self.cells.now l.k l.j l.ahead l.back
