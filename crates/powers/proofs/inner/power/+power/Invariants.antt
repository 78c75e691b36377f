-- `powers::inner::power::power` meets its contract: the exponent falls by halving. Assumes nothing.
use Rattle.powers.proofs.inner.power.+power.Given as goal

abbrev pub decreases-power : goal.decreases-power
decreases-power l = l.e
