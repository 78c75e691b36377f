-- `digits` counts the digits. The invariant: those counted and those of what is left are one more than the number has. Assumes nothing.
use Rattle.sequences.proofs.Basics.{◌≡◌, ◌+◌, length}
use Rattle.text.specs.Lines.{decimal}
use Rattle.text.proofs.inner.text.digits.Given as goal

abbrev pub invariant-loop-left : goal.invariant-loop-left
invariant-loop-left l = l.count + length (decimal l.left) ≡ length (decimal l.n) + 1

abbrev pub decreases-loop-left : goal.decreases-loop-left
decreases-loop-left l = l.left
