-- `Halving::of` meets its contract. Assumes nothing.
use Rattle.sequences.proofs.Basics.{lt-ltb, le-ltb}
use Rattle.halving.specs.Half.{halving}
use Rattle.halving.proofs.inner.halving.Halving.of.Goals as goal

pub returns-in-Some-clause-which : goal.returns-in-Some-clause-which
unfolding halving
returns-in-Some-clause-which c = let two = c.in-Some.ensures in rw two.0 (simp (lt-ltb _ _ (rw two.0 at two.1)))

pub returns-in-Some-index_of-clause-which : goal.returns-in-Some-index_of-clause-which
unfolding halving
returns-in-Some-index_of-clause-which c = let eight = c.in-Some-index_of.ensures in
    rw eight.0 (simp (le-ltb _ _ c.in_default.ensures, lt-ltb _ _ (rw eight.0 at eight.1)))

pub returns-in-Some-index_of-2-clause-which : goal.returns-in-Some-index_of-2-clause-which
unfolding halving
returns-in-Some-index_of-2-clause-which c = let four = c.in-Some-index_of-2.ensures in
    rw four.0 (simp (le-ltb _ _ c.in_default.ensures, le-ltb _ _ c.in_default-index_of.ensures, lt-ltb _ _ (rw four.0 at four.1)))

pub returns-clause-which : goal.returns-clause-which
unfolding halving
returns-clause-which c = simp (le-ltb _ _ c.in_default.ensures, le-ltb _ _ c.in_default-index_of.ensures, le-ltb _ _ c.in_default-index_of-2.ensures)
