-- `number_line` adds a name, a number and the line end. Assumes nothing.
use Rattle.sequences.proofs.Basics.{refl, arith}
use Rattle.text.proofs.Growing.{then, said}
use Rattle.plan_text.proofs.inner.lines.number_line.Goals as goal

pub returns : goal.returns
returns c = said refl (omega arith) (then c.extend_from_slice.ensures (then c.push_number.ensures c.push.ensures))
