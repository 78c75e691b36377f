-- `remainder::inner::check::first_large` meets its contract. Assumes nothing.
use Rattle.sequences.proofs.Basics.{ℕ, not, ltb, rules}
use Rattle.std.proofs.Common.{tests}
use Rattle.std.proofs.lemmas.Iterator.{YieldsList-from_slice}
use Rattle.std.proofs.lemmas.Iterator.Search.{position_from_yields_List}
use Rattle.sequences.proofs.Found.{found_position}
use Rattle.remainder.specs.Calls.{first_large}
use Rattle.remainder.proofs.inner.check.first_large.Goals as goal

pub returns : goal.returns
unfolding first_large
returns c = let p = λ (x : ℕ). not (ltb x c.args.m) in
    found_position p c.args.list.now c.position.result
    (position_from_yields_List p _ _ c.position.result c.position.ensures.ran (YieldsList-from_slice c.args.list.now c.iter.ensures.rest)
    (λ x b q k. search (rules, tests)))
