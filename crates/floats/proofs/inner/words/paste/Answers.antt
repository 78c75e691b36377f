-- `floats::inner::words::paste` meets its contract. Assumes nothing.
use Rattle.sequences.proofs.Basics.{refl, ◌∙◌, ◌+◌, arith, length-set, paste-zero}
use Rattle.sequences.proofs.Pasted.{paste_next, paste_all}
use lib.Ieee.{nan}
use Rattle.floats.proofs.inner.words.paste.Goals as goal

pub loop-i-init : goal.loop-i-init
loop-i-init c = (refl, omega arith, paste-zero c.args.dst.now c.args.at c.args.src.now)

pub loop-i-preserved : goal.loop-i-preserved
loop-i-preserved c = let a = c.args in let l = c.loop-i in let taken = c.loop-i-test.true in (
  length-set l.dst (a.at + l.i) _ ∙ l.invariant.0,
  omega (arith, taken),
  paste_next a.dst.now a.at a.src.now l.i _ nan l.dst (omega (arith, c.requires, taken)) taken refl l.invariant.2,
)

pub shape_of-dst : goal.shape_of-dst
shape_of-dst c = c.loop-i.invariant.0

pub returns : goal.returns
returns c = let a = c.args in let l = c.loop-i in l.invariant.2 ∙ paste_all a.dst.now a.at a.src.now l.i (omega (arith, l.invariant.1, c.loop-i-test.false))
