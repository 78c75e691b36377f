-- `fill`: the bound that each turn keeps.
use Rattle.std.proofs.Common.{◌<◌}
use Rattle.recorded.proofs.inner.words.fill.Given as goal

abbrev pub invariant-loop-word : goal.invariant-loop-word
invariant-loop-word l = l.x < 4294967291
