-- `lanes::inner::lanes::lanes` meets its contract. Assumes nothing.
use Rattle.lanes.specs.Parts.{Pairs}
use Rattle.lanes.proofs.Arms.{Kept}
use Rattle.lanes.proofs.inner.lanes.lanes.Given as goal

abbrev pub invariant-loop-j : goal.invariant-loop-j
invariant-loop-j g l = Pairs l.low.re l.low.im l.high.re l.high.im × Kept g.row.N l.i l.len l.j l.m l.r l.src l.tw l.low.re l.low.im l.high.re l.high.im
