-- `tallied`: each record has 126 answers at most.
use Rattle.std.proofs.Common.{◌*◌, ◌≤◌}
use Rattle.replay.proofs.tallied.Given as goal

abbrev pub invariant-loop-i : goal.invariant-loop-i
invariant-loop-i g l = (l.tally.answers ≤ 126 * l.i) × (l.tally.differ ≤ 126 * l.i)
