-- `levels::inner::levels::level_of` meets its contract. Assumes nothing.
use Rattle.sequences.proofs.Basics.{ap₂, ℕ, ◌+◌, ◌-◌, ◌/◌, arith, eq-eqb, ne_eqb}
use Rattle.levels.specs.Levels.{level_of}
use Rattle.levels.proofs.inner.levels.level_of.Goals as goal

pub returns-then-step-eq0 : goal.returns-then-step-eq0
unfolding level_of
returns-then-step-eq0 c = (rw (eq-eqb c.args.step 0 c.if-step-eq0.true), omega arith)

pub returns : goal.returns
unfolding level_of
returns c = (
  rw (ne_eqb c.args.step 0 c.if-step-eq0.false)
      (ap₂ (λ (a b : ℕ). (a + 16000500 - b) / 1000) c.units_of.ensures.0 c.units_of-2.ensures.0),
  omega arith,
)
