-- `storing::inner::storing::store` meets its contract. Assumes nothing.
use Rattle.sequences.proofs.Basics.{◌-◌}
use Rattle.storing.proofs.Batches.{Storing}
use Rattle.storing.proofs.inner.storing.store.Given as goal

abbrev pub invariant-loop-next : goal.invariant-loop-next
invariant-loop-next g l = Storing l.span.even l.span.i l.span.len l.span.s l.span.r l.low.re l.low.im l.high.re l.high.im l.initial.dst l.dst
    l.next.at.block l.next.at.col l.next.j

abbrev pub decreases-loop-next : goal.decreases-loop-next
decreases-loop-next g l = l.span.len - l.next.j
