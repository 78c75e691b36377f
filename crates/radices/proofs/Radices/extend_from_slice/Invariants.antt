-- `Radices::extend_from_slice` meets its contract. Assumes nothing.
use Rattle.sequences.proofs.Basics.{◌≡◌, ◌+◌, ℕ, List, ◌++◌, take}
use Rattle.radices.specs.Lists.{listed}
use Rattle.radices.proofs.Radices.extend_from_slice.Given as goal

abbrev pub invariant-loop-b : goal.invariant-loop-b
invariant-loop-b l = (l.self.count ≡ l.initial.self.count + l.b-index)
    × ((xs : List ℕ) → l.initial.self ≡ listed xs → l.self ≡ listed (xs ++ take l.b-index l.list))
