-- `float_stage::inner::first::spread` meets its contract. Assumes nothing.
use Rattle.sequences.proofs.Basics.{get_or}
use Rattle.floats.specs.Complexes.{blank}
use Rattle.storing.specs.Parts.{Wrote}
use Rattle.float_stage.proofs.inner.first.spread.Given as goal

abbrev pub invariant-loop-p : goal.invariant-loop-p
invariant-loop-p l = Wrote (λ n. get_or l.o n blank) l.at l.p l.initial.dst l.dst
