-- `whole_line` adds the three counts, each before its words; they fit. Assumes nothing.
use Rattle.sequences.proofs.Basics.{lit≤}
use Rattle.text.proofs.Growing.{then, holds}
use Rattle.listen_text.specs.Lines.{whole_line}
use Rattle.listen_text.proofs.inner.lines.whole_line.Goals as goal

pub returns : goal.returns
unfolding whole_line
returns c = holds c.new-text.ensures (lit≤ tt) (then c.push_decimal.ensures (then c.extend_from_slice.ensures (then c.push_decimal-2.ensures
    (then c.extend_from_slice-2.ensures (then c.push_decimal-3.ensures c.extend_from_slice-3.ensures)))))
