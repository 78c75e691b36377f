-- `levels::inner::levels::lowest_above` meets its contract. Assumes nothing.
use Rattle.std.proofs.Common.{rules, tests}
use Rattle.std.proofs.lemmas.Iterator.{first_from_Range}
use Rattle.levels.proofs.Lowest.{Above, Below, lowest_found}
use Rattle.levels.proofs.inner.levels.lowest_above.Goals as goal

pub returns : goal.returns
returns c =
    let a = c.args in
    rw c.unwrap_or.ensures
    (lowest_found a.full a.parts a.level c.find.result c.requires
    (first_from_Range _ _ _ c.find.result (Above a.full a.parts) (Below a.full a.parts) c.find.ensures.ran (λ x q k. search (rules, tests))
    (λ x q k. search (rules, tests))))
