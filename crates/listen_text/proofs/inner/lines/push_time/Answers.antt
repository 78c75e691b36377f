-- `push_time` adds the seconds, a point, three digits and the unit. Assumes nothing.
use Rattle.sequences.proofs.Basics.{refl, lit≤}
use Rattle.text.proofs.Growing.{then, said}
use Rattle.listen_text.specs.Lines.{time_text}
use Rattle.listen_text.proofs.inner.lines.push_time.Goals as goal

pub returns : goal.returns
unfolding time_text
returns c = said refl (lit≤ tt) (then c.push_right.ensures (then c.push.ensures (then c.push_digit.ensures
    (then c.push_digit-2.ensures (then c.push_digit-3.ensures c.extend_from_slice.ensures)))))
