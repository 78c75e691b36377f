-- `Tally::merge_all` meets its contract. Assumes nothing.
use Rattle.merging.proofs.Merging.{low, SoFar}
use Rattle.merging.proofs.inner.merging.Tally.merge_all.Given as goal

abbrev pub invariant-merging : goal.invariant-merging
invariant-merging l = SoFar l.initial.tally l.letters l.count l.tally

abbrev pub decreases-merging : goal.decreases-merging
decreases-merging l = low l.tally
