-- `skip` meets its contract: no more is read than is to be, and each turn reads some, or is the last.
use Rattle.std.proofs.Common.{◌≤◌, ◌-◌}
use Rattle.listen_input.proofs.inner.source.skip.Given as goal

abbrev pub invariant-loop-done : goal.invariant-loop-done
invariant-loop-done l = l.done ≤ l.count

abbrev pub decreases-loop-done : goal.decreases-loop-done
decreases-loop-done l = l.count - l.done
