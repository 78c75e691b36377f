-- `float_stage::inner::lent::gather` meets its contract. Assumes nothing.
use Rattle.sequences.proofs.Basics.{◌+◌, ◌*◌}
use Rattle.floats.specs.Complexes.{cell}
use Rattle.storing.specs.Parts.{Wrote}
use Rattle.float_stage.proofs.inner.lent.gather.Given as goal

abbrev pub invariant-loop-u : goal.invariant-loop-u
invariant-loop-u l = Wrote (λ k. cell l.tw (l.from + k * l.step)) l.at l.u l.initial.t l.t
