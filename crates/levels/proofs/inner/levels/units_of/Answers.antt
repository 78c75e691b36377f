-- `levels::inner::levels::units_of` meets its contract. Assumes nothing.
use Rattle.sequences.proofs.Basics.{ap, ℕ, ◌+◌, ◌*◌, ◌/◌, arith}
use Rattle.levels.specs.Levels.{units_of}
use Rattle.levels.proofs.inner.levels.units_of.Goals as goal

pub returns : goal.returns
unfolding units_of
returns c = (ap (λ (n : ℕ). 30103 * (c.args.step / 128) + n) c.part.ensures.0, omega arith)
