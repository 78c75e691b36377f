-- `pcm::inner::samples::word` meets its contract. Assumes nothing.
use Rattle.pcm.proofs.Tests.{cast_whole, cast_word}
use Rattle.pcm.proofs.inner.samples.word.Goals as goal

pub float_to_int-result : goal.float_to_int-result
float_to_int-result c = cast_whole _ c.requires

pub returns : goal.returns
returns c = cast_word _ c.requires
