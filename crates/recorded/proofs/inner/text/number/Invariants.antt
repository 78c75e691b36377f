-- `number`: the bound that each turn keeps.
use Rattle.std.proofs.Common.{◌≤◌}
use Rattle.recorded.proofs.inner.text.number.Given as goal

abbrev pub invariant-loop-c : goal.invariant-loop-c
invariant-loop-c l = l.read ≤ 100000000000000
