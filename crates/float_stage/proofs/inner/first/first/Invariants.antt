-- `float_stage::inner::first::first` meets its contract. Assumes nothing.
use Rattle.sequences.proofs.Basics.{ℕ, true}
use Rattle.floats.specs.declared.complex.Complex.{Complex}
use Rattle.kernel.specs.Parts.{output_of}
use Rattle.storing.specs.Parts.{Done}
use Rattle.float_stage.proofs.inner.first.first.Given as goal

abbrev pub invariant-loop-k : goal.invariant-loop-k
invariant-loop-k l =
    (lent : ℕ → ℕ → Complex) → Done 1 l.r (output_of true l.m l.r l.src lent) l.initial.dst l.i → Done 1 l.r (output_of true l.m l.r l.src lent) l.dst l.k
