-- `draw` ends: the measure is how many bins are left.
use Rattle.sequences.proofs.Basics.{◌≤◌, ◌-◌, length}
use Rattle.listen_main.proofs.drawing.draw.Given as goal

abbrev pub invariant-loop-at : goal.invariant-loop-at
invariant-loop-at l = length l.sums ≤ 3361

abbrev pub decreases-loop-at : goal.decreases-loop-at
decreases-loop-at l = length l.sums - l.at
