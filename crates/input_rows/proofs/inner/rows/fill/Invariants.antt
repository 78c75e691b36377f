-- `fill` ends: what was read lies within the row, and grows until a read brings nothing.
use Rattle.std.proofs.Common.{◌≤◌, ◌-◌, length}
use Rattle.input_rows.proofs.inner.rows.fill.Given as goal

abbrev pub invariant-loop-done : goal.invariant-loop-done
invariant-loop-done g l = l.done ≤ length l.row

abbrev pub decreases-loop-done : goal.decreases-loop-done
decreases-loop-done g l = length l.row - l.done
