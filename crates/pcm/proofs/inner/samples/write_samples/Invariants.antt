-- `pcm::inner::samples::write_samples` meets its contract. Assumes nothing.
use Rattle.sequences.proofs.Basics.{◌≡◌, ◌*◌, paste}
use Rattle.pcm.specs.Samples.{sample_bytes}
use Rattle.pcm.proofs.inner.samples.write_samples.Given as goal

abbrev pub invariant-loop-i : goal.invariant-loop-i
invariant-loop-i l = l.bytes ≡ paste l.initial.bytes l.from (sample_bytes l.xs) (2 * l.i)
