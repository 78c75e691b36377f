-- `house::inner::rounding::beyond` meets its contract. Assumes nothing.
use Rattle.house.proofs.Nearest.{digits_beyond}
use Rattle.house.proofs.inner.rounding.beyond.Goals as goal

pub returns : goal.returns
returns c = digits_beyond c.args.c c.saturating_sub.result c.ranges.c.fits c.saturating_sub.ensures
