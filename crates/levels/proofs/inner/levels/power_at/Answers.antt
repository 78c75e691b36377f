-- `levels::inner::levels::power_at` meets its contract. Assumes nothing.
use Rattle.levels.proofs.Steps.{finite_step}
use Rattle.levels.proofs.inner.levels.power_at.Goals as goal

pub float_from_bits-result : goal.float_from_bits-result
float_from_bits-result c = finite_step c.args.step c.requires
