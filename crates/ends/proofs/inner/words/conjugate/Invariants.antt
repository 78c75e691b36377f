-- `ends::inner::words::conjugate` meets its contract. Assumes nothing.
use Rattle.floats.specs.Complexes.{conjugate}
use Rattle.ends.proofs.Cells.{Mapped}
use Rattle.ends.proofs.inner.words.conjugate.Given as goal

abbrev pub invariant-loop-i : goal.invariant-loop-i
invariant-loop-i l = Mapped conjugate l.initial.cells l.cells l.i
