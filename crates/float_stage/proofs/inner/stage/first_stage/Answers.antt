-- `float_stage::inner::stage::first_stage` meets its contract. Assumes nothing.
use Rattle.sequences.proofs.Basics.{refl, ◌∙◌, ◌<◌, arith}
use Rattle.float_stage.proofs.inner.stage.first_stage.Goals as goal

pub loop-i-init : goal.loop-i-init
loop-i-init c = (omega arith, refl, λ lent i p li lp. absurd (omega arith))

pub first-requires : goal.first-requires
first-requires c = (c.requires.0, omega arith, omega (arith, c.requires.1, c.loop-i.invariant.1))

pub overflow_add-i : goal.overflow_add-i
overflow_add-i c = omega arith

pub loop-i-smaller : goal.loop-i-smaller
loop-i-smaller c = let n = c.min-len in let some : 0 < n.result = omega arith in
    omega arith

pub loop-i-preserved : goal.loop-i-preserved
loop-i-preserved c = let l = c.loop-i in (
  omega arith,
  c.first.auto.dst
      ∙ l.invariant.1,
  λ lent. c.first.ensures lent (l.invariant.2 lent),
)

pub shape_of-dst : goal.shape_of-dst
shape_of-dst c = c.loop-i.invariant.1

pub returns : goal.returns
returns c = λ lent i p li lp. c.loop-i.invariant.2 lent i p (omega arith) lp
