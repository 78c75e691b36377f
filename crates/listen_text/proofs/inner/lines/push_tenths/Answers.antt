-- `push_tenths` adds blanks, the sign, the whole decibels, a point and the tenth. Assumes nothing.
use Rattle.sequences.proofs.Basics.{refl, arith}
use Rattle.text.proofs.Growing.{then, said}
use Rattle.listen_text.specs.Lines.{tenths_text}
use Rattle.listen_text.proofs.inner.lines.push_tenths.Goals as goal

pub returns : goal.returns
unfolding tenths_text
returns c = said refl (omega arith) (then c.push_indent.ensures (then c.push.ensures (then c.push_decimal.ensures
    (then c.push-2.ensures c.push_digit.ensures))))
