-- `kernel::inner::kernel::cells` meets its contract. Assumes nothing.
use Rattle.sequences.proofs.Basics.{◌≡◌, arith, true, refl, length-set}
use Rattle.sequences.proofs.Tables.{set_more}
use Rattle.floats.specs.Complexes.{blank}
use Rattle.kernel.specs.Parts.{read_of}
use Rattle.kernel.proofs.Kernel.{read_plain}
use Rattle.kernel.proofs.inner.kernel.cells.Goals as goal

pub loop-q-init : goal.loop-q-init
unfolding read_of
loop-q-init c = (refl, λ lent k l. let e : k ≡ 0 = omega arith in rw e c.get-c.ensures)

pub loop-q-preserved : goal.loop-q-preserved
loop-q-preserved c = let l = c.loop-q in let a = c.args in (
  rw length-set l.invariant.0,
  λ lent. set_more (read_of true a.m a.src.now lent a.i) l.c l.q _ blank (omega arith)
      (read_plain true a.m a.src.now lent a.i l.q _ c.get.ensures) (l.invariant.1 lent),
)
