-- `factors_line` adds the name, the words and the line end. Assumes nothing.
use Rattle.sequences.proofs.Basics.{refl, lit≤}
use Rattle.text.proofs.Growing.{then, said}
use Rattle.plan_text.proofs.inner.lines.factors_line.Goals as goal

pub returns : goal.returns
returns c = said refl (lit≤ tt) (then c.extend_from_slice.ensures (then c.factor_words.ensures c.push.ensures))
