-- `power::inner::sum::sum` meets its contract. Assumes nothing.
use Rattle.sequences.proofs.Basics.{◌≡◌}
use Rattle.power.specs.Power.{power_from}
use Rattle.power.proofs.inner.sum.sum.Given as goal

abbrev pub invariant-loop-k : goal.invariant-loop-k
invariant-loop-k l = l.sum ≡ power_from l.spectrum l.lo l.k
