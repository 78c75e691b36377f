-- `listening::inner::lengths::nearest_served` meets its contract. The invariant: what is left of the search finds the same. Assumes nothing.
use Rattle.sequences.proofs.Basics.{◌≡◌, ◌-◌}
use Rattle.listening.specs.Lengths.{served_from, nearest_served}
use Rattle.listening.proofs.inner.lengths.nearest_served.Given as goal

abbrev pub invariant-loop-apart : goal.invariant-loop-apart
invariant-loop-apart l = served_from (l.n - l.apart) l.apart l.n ≡ nearest_served l.n
