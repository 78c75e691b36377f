-- `left_line` adds the time, the count and the words; they fit. Assumes nothing.
use Rattle.sequences.proofs.Basics.{lit≤}
use Rattle.text.proofs.Growing.{then, holds}
use Rattle.listen_text.specs.Lines.{left_line}
use Rattle.listen_text.proofs.inner.lines.left_line.Goals as goal

pub returns : goal.returns
unfolding left_line
returns c = holds c.new-text.ensures (lit≤ tt) (then c.push_time.ensures (then c.extend_from_slice.ensures
    (then c.push_decimal.ensures c.extend_from_slice-2.ensures)))
