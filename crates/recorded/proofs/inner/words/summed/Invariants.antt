-- `summed`: the bound that each turn keeps.
use Rattle.std.proofs.Common.{◌<◌}
use Rattle.recorded.proofs.inner.words.summed.Given as goal

abbrev pub invariant-loop-x : goal.invariant-loop-x
invariant-loop-x l = l.sum < 4294967291
