-- `radices::inner::lists::count_of` meets its contract. Assumes nothing.
use Rattle.sequences.proofs.Basics.{◌≡◌, ◌+◌, ◌≤◌, drop}
use Rattle.radices.specs.Lists.{count_of}
use Rattle.radices.proofs.inner.lists.count_of.Given as goal

abbrev pub invariant-loop-i : goal.invariant-loop-i
invariant-loop-i l = (l.n ≤ l.i) × (l.n + count_of l.v (drop l.i l.list) ≡ count_of l.v l.list)
