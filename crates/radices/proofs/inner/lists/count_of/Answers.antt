-- `radices::inner::lists::count_of` meets its contract. Assumes nothing.
use Rattle.sequences.proofs.Basics.{arith}
use Rattle.radices.proofs.Lists.{count_hit, count_miss, count_end}
use Rattle.radices.proofs.inner.lists.count_of.Goals as goal
use Rattle.radices.proofs.inner.lists.count_of.Goals.{then-list-i, else-list-i}

pub loop-i-preserved : goal.loop-i-preserved
loop-i-preserved c = let l = c.loop-i in let a = c.args in
    elim c.if-list-i.branch [
      | then-list-i w ↦ (omega (arith, w.n-is, l.invariant.0), rw w.n-is (count_hit a.v a.list.now l.n l.i (omega arith) w.if-list-i.true l.invariant.1))
      | else-list-i w ↦ (omega (arith, w.n-is, l.invariant.0), rw w.n-is (count_miss a.v a.list.now l.n l.i (omega arith) w.if-list-i.false l.invariant.1))
    ]

pub returns : goal.returns
returns c = count_end c.args.v c.args.list.now c.loop-i.n c.loop-i.i (omega arith) c.loop-i.invariant.1
