-- `levels::inner::levels::is_above` meets its contract. Assumes nothing.
use Rattle.levels.proofs.Above.{too_low, high_enough, power_fits, compared}
use Rattle.levels.proofs.inner.levels.is_above.Goals as goal

pub returns-then-exponent-lt77 : goal.returns-then-exponent-lt77
returns-then-exponent-lt77 c = too_low _ _ c.if-exponent-lt77.true

pub returns-then-exponent-gt133 : goal.returns-then-exponent-gt133
returns-then-exponent-gt133 c = high_enough _ _ c.ranges.parts.fits c.if-exponent-gt133.true

pub overflow_mul-result : goal.overflow_mul-result
overflow_mul-result c = record { fits = power_fits _ c.args.parts c.if-exponent-lt77.false c.if-exponent-gt133.false }

pub returns : goal.returns
returns c = compared _ _ c.if-exponent-lt77.false c.if-exponent-gt133.false
