-- `push_decimal` adds at most 20 digits. Assumes nothing.
use Rattle.sequences.proofs.Basics.{refl, arith}
use Rattle.text.proofs.Decimal.{decimal_short}
use Rattle.text.proofs.Growing.{said}
use Rattle.text.proofs.Text.push_decimal.Goals as goal

pub push_digits-requires : goal.push_digits-requires
push_digits-requires c = omega (arith, decimal_short 19 c.args.n (omega arith))

pub returns : goal.returns
returns c = said refl (decimal_short 19 c.args.n (omega arith)) c.push_digits.ensures
