-- `levels::inner::levels::part_at_least` meets its contract. Assumes nothing.
use Rattle.std.proofs.Common.{◌<◌, ◌≤◌, rules, tests}
use Rattle.std.proofs.lemmas.Iterator.{IsFirst-from_position, YieldsList-from_slice}
use Rattle.levels.specs.Parts.{parts}
use Rattle.levels.proofs.Parts.{part_found}
use Rattle.levels.proofs.inner.levels.part_at_least.Goals as goal

pub returns : goal.returns
unfolding parts
returns c =
    let units = c.args.units in
    rw c.unwrap_or.ensures
    (part_found units c.position.result
    (IsFirst-from_position _ _ c.position.result (λ p. units ≤ p) (λ p. p < units) c.position.ensures.ran (YieldsList-from_slice parts c.iter.ensures.rest)
    (λ x q k. search (rules, tests)) (λ x q k. search (rules, tests))))
