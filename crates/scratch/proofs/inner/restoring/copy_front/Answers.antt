-- `scratch::inner::restoring::copy_front` meets its contract. Assumes nothing.
use Rattle.sequences.proofs.Basics.{sym, arith, length-take-le}
use Rattle.scratch.proofs.inner.restoring.copy_front.Goals as goal

pub slice_bounds-paste-end : goal.slice_bounds-paste-end
slice_bounds-paste-end c = sym (length-take-le _ _ c.requires.1)

pub paste-requires : goal.paste-requires
paste-requires c = omega (arith, length-take-le _ c.args.from.now c.requires.1, c.requires.2)
