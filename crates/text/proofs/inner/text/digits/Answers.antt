-- `digits` counts the digits. The invariant: those counted and those of what is left are one more than the number has. Assumes nothing.
use Rattle.sequences.proofs.Basics.{ap, arith, length}
use Rattle.text.proofs.Decimal.{decimal_small, decimal_longer, decimal_short}
use Rattle.text.proofs.inner.text.digits.Goals as goal

pub overflow_add-count : goal.overflow_add-count
overflow_add-count c = omega (arith, decimal_short 19 c.args.n (omega arith))

pub loop-left-preserved : goal.loop-left-preserved
loop-left-preserved c = omega (arith, decimal_longer c.loop-left.left (omega arith))

pub returns : goal.returns
returns c = omega (arith, ap length (decimal_small c.loop-left.left (omega arith)))
