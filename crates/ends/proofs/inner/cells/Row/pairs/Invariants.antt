-- `ends::inner::cells::Row::pairs` meets its contract. Assumes nothing.
use Rattle.sequences.proofs.Basics.{◌≡◌, ◌-◌, ◌≤◌, ◌<◌, length}
use Rattle.ends.specs.Parts.{Stepped}
use Rattle.ends.proofs.inner.cells.Row.pairs.Given as goal

abbrev pub invariant-loop-k : goal.invariant-loop-k
invariant-loop-k g l = ((0 < l.k) × (l.k ≤ 4096) × (length l.out ≡ length l.initial.out)
    × (Stepped g.D.Direction.steps l.self.h l.self.twiddles.now l.self.cells.now l.initial.out 1
    → Stepped g.D.Direction.steps l.self.h l.self.twiddles.now l.self.cells.now l.out l.k))

abbrev pub decreases-loop-k : goal.decreases-loop-k
decreases-loop-k g l = l.end - l.k
