-- `listening::inner::block::beside` meets its contract. Assumes nothing.
use Rattle.sequences.proofs.Basics.{eq-eqb, ne_eqb}
use Rattle.listening.specs.Block.{besides}
use Rattle.listening.proofs.inner.block.beside.Goals as goal

pub returns-then-band-eq0 : goal.returns-then-band-eq0
unfolding besides
returns-then-band-eq0 c = rw (eq-eqb _ 0 c.if-band-eq0.true) c.sum-above.ensures

pub returns : goal.returns
unfolding besides
returns c = rw (ne_eqb _ 0 c.if-band-eq0.false, c.sum.ensures, c.sum-above.ensures)
