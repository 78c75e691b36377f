-- `walked` is safe and ends: the walk over a chunk that goes on stands behind it, within the file.
use Rattle.std.proofs.Common.{arith}
use Rattle.listen_input.proofs.Walking.{goes_on}
use Rattle.listen_input.proofs.inner.source.walked.Goals as goal

pub loop-read-smaller : goal.loop-read-smaller
loop-read-smaller c = let a = c.in-Ok-Chunk in omega (arith, goes_on _ _ _ _ a.next a.next_rate _ c.step.ensures a.is a.field-0-is)

pub loop-read-preserved : goal.loop-read-preserved
loop-read-preserved c = let a = c.in-Ok-Chunk in (goes_on _ _ _ _ a.next a.next_rate _ c.step.ensures a.is a.field-0-is).1
