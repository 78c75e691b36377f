-- `pcm::inner::samples::fits` meets its contract. Assumes nothing.
use Rattle.pcm.proofs.Tests.{too_low, too_high, in_range}
use Rattle.pcm.proofs.inner.samples.fits.Goals as goal

pub returns-then-v : goal.returns-then-v
returns-then-v c = too_low _ c.well_formed.0.1 c.if-v.true

pub returns-then-v-2 : goal.returns-then-v-2
returns-then-v-2 c = too_high _ c.well_formed.0.1 c.if-v.false c.if-v-2.true

pub returns : goal.returns
returns c = in_range _ c.well_formed.0.1 c.if-v.false c.if-v-2.false
