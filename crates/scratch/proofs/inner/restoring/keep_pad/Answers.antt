-- `scratch::inner::restoring::keep_pad` meets its contract. Assumes nothing.
use Rattle.sequences.proofs.Basics.{sym, ◌∙◌, length-take-le}
use Rattle.scratch.specs.Scratch.{data_of}
use Rattle.scratch.proofs.Scratch.{pad_pasted, parted}
use Rattle.scratch.proofs.inner.restoring.keep_pad.Goals as goal

pub returns-then-ran : goal.returns-then-ran
returns-then-ran c = let a = c.args in rw c.if-ran.true
    (c.copy_front.ensures ∙ pad_pasted a.h (data_of a.h a.other.now) a.scratch.now (length-take-le _ _ c.requires.2))

pub returns-else-ran : goal.returns-else-ran
returns-else-ran c = rw c.if-ran.false (sym (parted c.args.h c.args.scratch.now))
