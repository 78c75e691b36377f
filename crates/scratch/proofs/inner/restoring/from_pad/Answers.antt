-- `scratch::inner::restoring::from_pad` meets its contract. Assumes nothing.
use Rattle.scratch.proofs.Scratch.{pad_restored}
use Rattle.scratch.proofs.inner.restoring.from_pad.Goals as goal

pub returns : goal.returns
returns c = let a = c.args in let o = c.conjugate_front.ensures in
    record { scratch_after = pad_restored a.h a.scratch.now a.output.now _ _ _ o c.copy_front.ensures c.copy_front-2.ensures; output_after = o }
