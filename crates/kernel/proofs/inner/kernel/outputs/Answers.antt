-- `kernel::inner::kernel::outputs` meets its contract. Assumes nothing.
use Rattle.kernel.proofs.Kernel.{eight_listed}
use Rattle.kernel.proofs.inner.kernel.outputs.Goals as goal

pub returns : goal.returns
returns c = eight_listed _ _ _ _ _ _ _ _ _ c.output.ensures c.output-2.ensures c.output-3.ensures c.output-4.ensures
    c.output-5.ensures c.output-6.ensures c.output-7.ensures c.output-8.ensures
