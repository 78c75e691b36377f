-- `float_stage::inner::stage::first_stage` meets its contract. Assumes nothing.
use Rattle.sequences.proofs.Basics.{◌≡◌, ℕ, ◌-◌, ◌≤◌, true, length}
use Rattle.floats.specs.declared.complex.Complex.{Complex}
use Rattle.kernel.specs.Parts.{output_of}
use Rattle.storing.specs.Parts.{Done}
use Rattle.float_stage.proofs.inner.stage.first_stage.Given as goal

abbrev pub invariant-loop-i : goal.invariant-loop-i
invariant-loop-i l = (l.i ≤ l.m) × (length l.dst ≡ length l.initial.dst) × ((lent : ℕ → ℕ → Complex) → Done 1 l.r (output_of true l.m l.r l.src lent) l.dst l.i)

abbrev pub decreases-loop-i : goal.decreases-loop-i
decreases-loop-i l = l.m - l.i
