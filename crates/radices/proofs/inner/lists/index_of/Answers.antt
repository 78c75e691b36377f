-- `radices::inner::lists::index_of` meets its contract. Assumes nothing.
use Rattle.sequences.proofs.Basics.{ℕ, eqb, rules}
use Rattle.std.proofs.Common.{tests}
use Rattle.std.proofs.lemmas.Iterator.{YieldsList-from_slice}
use Rattle.std.proofs.lemmas.Iterator.Search.{position_from_yields_List}
use Rattle.sequences.proofs.Found.{found_position}
use Rattle.radices.specs.Lists.{index_of}
use Rattle.radices.proofs.inner.lists.index_of.Goals as goal

pub returns : goal.returns
unfolding index_of
returns c = let p = λ (b : ℕ). eqb b c.args.v in
    found_position p c.args.list.now c.position.result
    (position_from_yields_List p _ _ c.position.result c.position.ensures.ran (YieldsList-from_slice c.args.list.now c.iter.ensures.rest)
    (λ x b q k. search (rules, tests)))
