-- `two` is the number of two bytes, each below 256. Assumes nothing.
use Rattle.sequences.proofs.Basics.{◌+◌, arith}
use Rattle.little.specs.Numbers.{number_at}
use Rattle.little.proofs.inner.numbers.two.Goals as goal

pub overflow_cast-result : goal.overflow_cast-result
overflow_cast-result c = omega (arith, c.type_inv.bytes c.args.i)

pub overflow_cast-result-2 : goal.overflow_cast-result-2
overflow_cast-result-2 c = omega (arith, c.type_inv.bytes (c.args.i + 1))

pub overflow_mul-result : goal.overflow_mul-result
overflow_mul-result c = omega (arith, c.type_inv.bytes (c.args.i + 1))

pub overflow_add-result-2 : goal.overflow_add-result-2
overflow_add-result-2 c = let a = c.args in omega (arith, c.type_inv.bytes a.i, c.type_inv.bytes (a.i + 1))

pub returns : goal.returns
unfolding number_at
returns c = let a = c.args in record { answer = omega arith; small = omega (arith, c.type_inv.bytes a.i, c.type_inv.bytes (a.i + 1)) }
