-- `remainder::inner::check::lent` meets its contract. Assumes nothing.
use Rattle.sequences.proofs.Basics.{sym, ◌∙◌}
use Rattle.refusal.proofs.Rows.{deciding}
use Rattle.remainder.specs.Calls.{lent_verdict}
use Rattle.remainder.proofs.inner.check.lent.Goals as goal

pub returns-then-m-lt2 : goal.returns-then-m-lt2
unfolding lent_verdict
returns-then-m-lt2 c = search deciding

pub returns-then-w-m : goal.returns-then-w-m
unfolding lent_verdict
returns-then-w-m c = search deciding

pub returns-then-power-ne1 : goal.returns-then-power-ne1
unfolding lent_verdict
returns-then-power-ne1 c = let apart = rw c.power.ensures at c.if-power-ne1.true in search (deciding, apart) depth 8

pub returns-then-input-half : goal.returns-then-input-half
unfolding lent_verdict
returns-then-input-half c = let one = sym c.power.ensures ∙ c.if-power-ne1.false in search (deciding, one) depth 8

pub returns-then-room-half : goal.returns-then-room-half
unfolding lent_verdict
returns-then-room-half c = let one = sym c.power.ensures ∙ c.if-power-ne1.false in search (deciding, one) depth 8

pub returns-in-Some : goal.returns-in-Some
unfolding lent_verdict
returns-in-Some c = let one = sym c.power.ensures ∙ c.if-power-ne1.false in let large = c.in-Some.ensures in
    search (deciding, one, large.0, large.1) depth 10

pub returns : goal.returns
unfolding lent_verdict
returns c = let one = sym c.power.ensures ∙ c.if-power-ne1.false in let none = c.in_default.ensures in search (deciding, one, none) depth 10
