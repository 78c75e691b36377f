-- `float_stage::inner::stage::work` meets its contract. Assumes nothing.
use Rattle.sequences.proofs.Basics.{refl, arith}
use Rattle.plan.proofs.Bounds.{plan_order, plan_radix_bounds}
use Rattle.float_stage.proofs.Works.{work_sized, work_room, work_lending, work_blocks, first_made, later_made}
use Rattle.float_stage.proofs.inner.stage.work.Goals as goal

pub bounds-plan-j : goal.bounds-plan-j
bounds-plan-j c = omega (arith, c.requires.known, (plan_order c.args.plan c.requires.planned).few)

pub nonzero_div-m : goal.nonzero_div-m
nonzero_div-m c = omega (arith, plan_radix_bounds c.args.plan c.requires.planned c.args.j c.requires.known)

pub first_stage-requires : goal.first_stage-requires
first_stage-requires c = (work_sized c.args.plan c.args.j c.args.w _ _ _ c.requires, work_room c.args.plan c.args.j c.args.w _ _ _ c.requires)

pub later_stage-requires : goal.later_stage-requires
later_stage-requires c = (
  work_sized c.args.plan c.args.j c.args.w _ _ _ c.requires,
  work_lending c.args.plan c.args.j c.args.w _ _ _ c.requires c.if-j-eq0.false,
  c.requires.width,
  rw c.stride.ensures (work_blocks c.args.plan c.args.j c.args.w _ _ _ c.requires),
)

pub returns-then-j-eq0 : goal.returns-then-j-eq0
returns-then-j-eq0 c = let made = c.first_stage in first_made c.args.plan c.args.j c.args.w _ _ _ c.requires c.args.src.now c.args.tw.now _ refl made.auto.dst
    c.if-j-eq0.true made.ensures

pub returns-else-j-eq0 : goal.returns-else-j-eq0
returns-else-j-eq0 c = let made = c.later_stage in later_made c.args.plan c.args.j c.args.w _ _ _ c.requires c.args.src.now c.args.tw.now _ refl made.auto.dst
    c.if-j-eq0.false
    (rw (← c.stride.ensures) made.ensures)
