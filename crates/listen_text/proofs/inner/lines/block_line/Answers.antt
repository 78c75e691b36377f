-- `block_line` adds the time, both powers and the decision; they fit. Assumes nothing.
use Rattle.sequences.proofs.Basics.{lit≤}
use Rattle.text.proofs.Growing.{then, holds}
use Rattle.listen_text.specs.Lines.{block_line}
use Rattle.listen_text.proofs.Powers.{power_said}
use Rattle.listen_text.proofs.inner.lines.block_line.Goals as goal

pub returns : goal.returns
unfolding block_line
returns c =
    let full = c.args.full in let b = c.args.block in
    holds c.new-text.ensures (lit≤ tt) (then c.push_time.ensures (then c.extend_from_slice.ensures
    (then (power_said full b.band c.step_of.ensures c.level_of.ensures.0 c.push_level.ensures) (then c.extend_from_slice-2.ensures
    (then (power_said full b.outside c.step_of-2.ensures c.level_of-2.ensures.0 c.push_level-2.ensures)
    (then c.extend_from_slice-3.ensures c.push_decision.ensures))))))
