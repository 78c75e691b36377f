-- `powers::inner::power::power` meets its contract: the exponent falls by halving. Assumes nothing.
use Rattle.powers.proofs.Powers.{even_step, odd_step}
use Rattle.powers.proofs.inner.power.+power.Goals as goal

pub returns-then-e-eq0-2 : goal.returns-then-e-eq0-2
returns-then-e-eq0-2 t c = let a = c.args in even_step a.w a.e a.m c.power-half.result c.if-e-eq0-2.true c.power-half.ensures

pub returns-else-e-eq0-2 : goal.returns-else-e-eq0-2
returns-else-e-eq0-2 t c = let a = c.args in odd_step a.w a.e a.m c.power-half.result c.if-e-eq0-2.false c.power-half.ensures
