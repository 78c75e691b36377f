-- `listening::inner::block::full_scale` meets its contract. Assumes nothing.
use Rattle.sequences.proofs.Basics.{refl}
use lib.Ieee.{of_int}
use Rattle.listening.specs.Block.{full_scale}
use Rattle.listening.proofs.inner.block.full_scale.Goals as goal

pub returns : goal.returns
unfolding of_int full_scale
returns c = refl
