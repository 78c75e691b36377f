-- `listening::inner::lengths::band` meets its contract. Assumes nothing.
use Rattle.sequences.proofs.Basics.{◌*◌}
use Rattle.listening.specs.Lengths.{band_of}
use Rattle.listening.proofs.Lengths.{first_bin}
use Rattle.listening.proofs.inner.lengths.band.Goals as goal

pub returns : goal.returns
unfolding band_of
returns c = let a = c.args in rw (c.max.ensures, c.div_ceil.ensures, first_bin (a.lo * a.n) a.rate c.requires.1)
