-- `row_line` adds the frequency, the level, the bar and the line end; they fit. Assumes nothing.
use Rattle.sequences.proofs.Basics.{ap₂, lit≤, replicate}
use Rattle.text.proofs.Growing.{then, said, holds}
use Rattle.listen_text.specs.Lines.{row_line}
use Rattle.listen_text.proofs.inner.plot.row_line.Goals as goal

pub returns : goal.returns
unfolding row_line
returns c = holds c.new-text.ensures (lit≤ tt) (then c.push_right.ensures (then c.extend_from_slice.ensures (then c.push_level.ensures
    (then c.extend_from_slice-2.ensures (then {k = 60} (said (ap₂ replicate c.bar_of.ensures.0 c.sign_of.ensures)
    c.bar_of.ensures.1 c.push_times.ensures) c.push.ensures)))))
