-- `hear::decide` meets its contract. Assumes nothing.
use Rattle.sequences.proofs.Basics.{sym, ap, Bool, cond}
use Rattle.hear.specs.Hear.{decided}
use Rattle.hear.specs.declared.Decision.TheVariants.{Fanning, Quiet}
use Rattle.hear.proofs.decide.Goals as goal

pub returns-then-power-threshold : goal.returns-then-power-threshold
unfolding decided
returns-then-power-threshold c = ap (λ (b : Bool). cond b Quiet Fanning) (sym c.if-power-threshold.true)

pub returns-else-power-threshold : goal.returns-else-power-threshold
unfolding decided
returns-else-power-threshold c = ap (λ (b : Bool). cond b Quiet Fanning) (sym c.if-power-threshold.false)
