-- `scratch::inner::restoring::conjugate_front` meets its contract. Assumes nothing.
use Rattle.sequences.proofs.Basics.{sym, ap, ◌*◌, List, ◌++◌, drop, length-take-le}
use lib.Ieee.{Float}
use Rattle.scratch.proofs.inner.restoring.conjugate_front.Goals as goal

pub slice_bounds-conjugate-end-2 : goal.slice_bounds-conjugate-end-2
slice_bounds-conjugate-end-2 c = sym (length-take-le _ _ c.requires.1)

pub conjugate-requires : goal.conjugate-requires
conjugate-requires c = (c.requires.0, length-take-le _ _ c.requires.1)

pub returns : goal.returns
returns c = let a = c.args in ap (λ (u : List Float). u ++ drop (2 * a.h) a.row.now) c.conjugate.ensures
