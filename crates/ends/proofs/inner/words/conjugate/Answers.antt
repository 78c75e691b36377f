-- `ends::inner::words::conjugate` meets its contract. Assumes nothing.
use Rattle.sequences.proofs.Basics.{◌≡◌, arith}
use Rattle.ends.proofs.Cells.{conjugated_all}
use Rattle.ends.proofs.inner.words.conjugate.Goals as goal

pub returns : goal.returns
returns c = let l = c.loop-i in let e : l.i ≡ c.args.h = omega arith in
    conjugated_all c.args.h c.args.cells.now l.cells c.requires.1 (rw e at l.invariant)
