-- `levels::inner::levels::step_of` meets its contract. Assumes nothing.
use Rattle.sequences.proofs.Basics.{arith}
use Rattle.levels.specs.Levels.{step_of}
use Rattle.levels.proofs.Steps.{upper_half}
use Rattle.levels.proofs.inner.levels.step_of.Goals as goal

pub overflow_cast-result : goal.overflow_cast-result
overflow_cast-result c = omega (arith, upper_half c.args.power c.well_formed.0.1)

pub returns-then-power : goal.returns-then-power
unfolding step_of
returns-then-power c = rw c.if-power.true

pub returns : goal.returns
unfolding step_of
returns c = rw c.if-power.false
