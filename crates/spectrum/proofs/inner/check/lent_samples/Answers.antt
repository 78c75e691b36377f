-- `spectrum::inner::check::lent_samples` meets its contract. Assumes nothing.
use Rattle.sequences.proofs.Basics.{refl}
use lib.Ieee.{of_bits}
use Rattle.spectrum.proofs.inner.check.lent_samples.Goals as goal

pub returns : goal.returns
unfolding of_bits
returns c = rw c.is_bins-is_output.ensures at (c.lent.ensures 32 refl)
