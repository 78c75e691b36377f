-- `stage::inner::check::numbers` meets its contract. Assumes nothing.
use Rattle.sequences.proofs.Basics.{refl}
use lib.Ieee.{of_bits}
use Rattle.refusal.proofs.Rows.{deciding}
use Rattle.stage.specs.Calls.{number_verdict}
use Rattle.stage.proofs.inner.check.numbers.Goals as goal

pub returns-in-Some : goal.returns-in-Some
unfolding of_bits number_verdict
returns-in-Some c = let large = c.in-Some.ensures 48 refl in search (deciding, large.0, large.1)

pub returns-in-Some-first_unfit : goal.returns-in-Some-first_unfit
unfolding of_bits number_verdict
returns-in-Some-first_unfit c = let none = c.in_default.ensures 48 refl in let wide = c.in-Some-first_unfit.ensures 0 refl in search
    (deciding, none, wide.0, wide.1)

pub returns : goal.returns
unfolding of_bits number_verdict
returns c = let none = c.in_default.ensures 48 refl in let least = c.in_default-first_unfit.ensures 0 refl in search (deciding, none, least)
