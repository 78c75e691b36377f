-- `pcm::inner::samples::first_unfit` meets its contract. Assumes nothing.
use Rattle.sequences.proofs.Basics.{Bool, not, rules}
use Rattle.std.proofs.Common.{tests}
use Rattle.std.proofs.lemmas.Iterator.{YieldsList-from_slice}
use Rattle.std.proofs.lemmas.Iterator.Search.{position_from_yields_List}
use lib.Ieee.{Float}
use Rattle.sequences.proofs.Found.{found_position}
use Rattle.pcm.specs.Samples.{fits, first_unfit}
use Rattle.pcm.proofs.inner.samples.first_unfit.Goals as goal

pub returns : goal.returns
unfolding first_unfit
returns c = let p : Float → Bool = λ x. not (fits x) in
    found_position p c.args.xs.now c.position.result
    (position_from_yields_List p _ _ c.position.result c.position.ensures.ran (YieldsList-from_slice c.args.xs.now c.iter.ensures.rest)
    (λ x b q k. search (rules, tests)))
