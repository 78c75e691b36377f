-- `differing`: each case has three answers at most.
use Rattle.std.proofs.Common.{◌+◌, ◌*◌, ◌≤◌, length}
use Rattle.replay.proofs.spectra.differing.Given as goal

abbrev pub invariant-loop-width : goal.invariant-loop-width
invariant-loop-width g l = (l.differ ≤ 3 * l.counter + l.width-index) × (length l.width-items ≤ 3) × (l.counter ≤ 41)

abbrev pub invariant-loop : goal.invariant-loop
invariant-loop g l = l.differ ≤ 3 * l.counter
