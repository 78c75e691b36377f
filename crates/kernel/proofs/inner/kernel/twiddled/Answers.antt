-- `kernel::inner::kernel::twiddled` meets its contract. Assumes nothing.
use Rattle.sequences.proofs.Basics.{◌∙◌, arith, false, length-set}
use Rattle.kernel.proofs.Kernel.{turned_none, turned_next}
use Rattle.kernel.proofs.inner.kernel.twiddled.Goals as goal

pub loop-q-init : goal.loop-q-init
loop-q-init c = let a = c.args in (omega arith, λ lent same. turned_none false a.m a.src.now lent a.i a.r _ (c.cells-c.ensures lent))

pub loop-q-preserved : goal.loop-q-preserved
loop-q-preserved c = let l = c.loop-q in let a = c.args in (
  rw length-set l.invariant.0,
  λ lent same. turned_next false a.m a.src.now lent a.i a.r l.c l.q _ _ (omega arith) (omega arith) (omega arith)
      (c.get.ensures ∙ same l.q (omega arith) (omega arith)) c.mul.ensures (l.invariant.1 lent same),
)
