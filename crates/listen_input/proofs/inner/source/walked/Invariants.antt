-- `walked` is safe and ends: each chunk stands behind the one before, within the file.
use Rattle.std.proofs.Common.{◌≤◌, ◌-◌}
use Rattle.listen_input.proofs.inner.source.walked.Given as goal

abbrev pub invariant-loop-read : goal.invariant-loop-read
invariant-loop-read l = l.at ≤ l.total

abbrev pub decreases-loop-read : goal.decreases-loop-read
decreases-loop-read l = l.total - l.at
