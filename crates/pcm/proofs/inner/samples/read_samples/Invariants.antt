-- `pcm::inner::samples::read_samples` meets its contract. Assumes nothing.
use Rattle.sequences.proofs.Basics.{◌≡◌, ℕ, ◌+◌, ◌*◌, ◌<◌, get_or}
use lib.Ieee.{nan}
use Rattle.little.specs.Numbers.{number_at}
use Rattle.pcm.specs.Samples.{sample_of}
use Rattle.pcm.proofs.inner.samples.read_samples.Given as goal

abbrev pub invariant-loop-i : goal.invariant-loop-i
invariant-loop-i l = (k : ℕ) → k < l.i → get_or l.output k nan ≡ sample_of (number_at 2 l.bytes (l.from + 2 * k))
