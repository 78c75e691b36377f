-- `levels::inner::levels::least_step` meets its contract. Assumes nothing.
use Rattle.sequences.proofs.Basics.{◌≡◌, ℕ, ◌+◌, ◌-◌, ◌*◌, ◌/◌, ◌%◌, ◌≤◌, min, arith, rules}
use Rattle.levels.specs.Levels.{units_of, part_at_least, least_step}
use Rattle.levels.proofs.Least.{least_low, least_high}
use Rattle.levels.proofs.inner.levels.least_step.Goals as goal

-- the step, or 32,639 where that is less
step_is : (full level u p : ℕ) → u ≡ units_of full → 16030603 ≤ 1000 * level + u → p ≡ part_at_least ((1000 * level + u - 16000500) % 30103)
    → min (128 * ((1000 * level + u - 16000500) / 30103) + p) 32639 ≡ least_step full level
step_is full level u p e h q = rw q (least_high full level u e h)

pub returns-then-least-lt16030603 : goal.returns-then-least-lt16030603
returns-then-least-lt16030603 c = (least_low _ _ _ c.units_of.ensures.0 c.if-least-lt16030603.true, search rules)

pub returns : goal.returns
returns c =
    let u = c.units_of in let p = c.part_at_least in
    omega (arith, step_is c.args.full c.args.level u.result p.result u.ensures.0 c.if-least-lt16030603.false p.ensures.0)
