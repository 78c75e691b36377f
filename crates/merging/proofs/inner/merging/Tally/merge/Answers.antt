-- `Tally::merge` meets its contract. Assumes nothing.
use Rattle.merging.proofs.Merging.{Takes, tells_takes}
use Rattle.merging.proofs.inner.merging.Tally.merge.Goals as goal

pub overflow_sub-left : goal.overflow_sub-left
unfolding Takes
overflow_sub-left c = (rw c.in-A.is at (tells_takes c.args.self c.args.rule c.requires.0)).0

pub overflow_sub-left-in-A : goal.overflow_sub-left-in-A
unfolding Takes
overflow_sub-left-in-A c = (rw c.in-A.is at (tells_takes c.args.self c.args.rule c.requires.0)).1

pub overflow_sub-left-in-B : goal.overflow_sub-left-in-B
unfolding Takes
overflow_sub-left-in-B c = rw c.in-B.is at (tells_takes c.args.self c.args.rule c.requires.0)

pub overflow_sub-left-in-C : goal.overflow_sub-left-in-C
unfolding Takes
overflow_sub-left-in-C c = rw c.in-C.is at (tells_takes c.args.self c.args.rule c.requires.0)

pub overflow_sub-left-in-D : goal.overflow_sub-left-in-D
unfolding Takes
overflow_sub-left-in-D c = rw c.in-D.is at (tells_takes c.args.self c.args.rule c.requires.0)
