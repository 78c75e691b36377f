-- `power::inner::check::lent_bins` meets its contract. Assumes nothing.
use Rattle.sequences.proofs.Basics.{refl}
use lib.Ieee.{of_bits}
use Rattle.refusal.proofs.Rows.{deciding}
use Rattle.power.specs.Power.{power_verdict}
use Rattle.power.proofs.inner.check.lent_bins.Goals as goal

pub returns-then-words-ne0 : goal.returns-then-words-ne0
unfolding power_verdict of_bits
returns-then-words-ne0 c = search deciding

pub returns-then-words-lt4 : goal.returns-then-words-lt4
unfolding power_verdict of_bits
returns-then-words-lt4 c = search deciding

pub returns-then-words-gt8194 : goal.returns-then-words-gt8194
unfolding power_verdict of_bits
returns-then-words-gt8194 c = search deciding

pub returns-then-hi-lo : goal.returns-then-hi-lo
unfolding power_verdict of_bits
returns-then-hi-lo c = search deciding

pub returns-then-hi-words : goal.returns-then-hi-words
unfolding power_verdict of_bits
returns-then-hi-words c = search deciding

pub returns-in-Some : goal.returns-in-Some
unfolding power_verdict of_bits
returns-in-Some c = let large = c.in-Some.ensures 48 refl in search (deciding, large.0, large.1)

pub returns : goal.returns
unfolding power_verdict of_bits
returns c = let none = c.in_default.ensures 48 refl in search (deciding, none)
