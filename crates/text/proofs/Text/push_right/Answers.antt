-- `push_right` adds the blanks and the digits, at most 20 together. Assumes nothing.
use Rattle.sequences.proofs.Basics.{refl, arith}
use Rattle.text.specs.Lines.{right}
use Rattle.text.proofs.Decimal.{decimal_short}
use Rattle.text.proofs.Growing.{then, said}
use Rattle.text.proofs.Text.push_right.Goals as goal

pub push_digits-requires : goal.push_digits-requires
push_digits-requires c = omega (arith, decimal_short 19 c.args.n (omega arith))

pub returns : goal.returns
unfolding right
returns c = said refl (omega (arith, decimal_short 19 c.args.n (omega arith))) (then c.push_indent.ensures c.push_digits.ensures)
