-- `storing::inner::storing::row` meets its contract. Assumes nothing.
use Rattle.sequences.proofs.Basics.{◌+◌}
use Rattle.lanes.specs.Parts.{lane}
use Rattle.storing.specs.Parts.{Wrote}
use Rattle.storing.proofs.inner.storing.row.Given as goal

abbrev pub invariant-loop-t : goal.invariant-loop-t
invariant-loop-t l = Wrote (λ u. lane l.from.re l.from.im (l.k + u)) l.at l.t l.initial.dst l.dst
