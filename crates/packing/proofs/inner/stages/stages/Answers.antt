-- `packing::inner::stages::stages` meets its contract. Assumes nothing.
use Rattle.sequences.proofs.Basics.{refl, arith}
use Rattle.plan.proofs.Bounds.{plan_order, plan_long}
use Rattle.schedule.specs.Plans.{in_use}
use Rattle.packing.proofs.Stages.{stages_none, stage_fillable, stage_packs, part_room, stages_next, stages_done}
use Rattle.packing.proofs.inner.stages.stages.Goals as goal

pub loop-j-init : goal.loop-j-init
loop-j-init c = let a = c.args in (refl, stages_none a.plan.half a.plan.radices (in_use a.plan) a.width a.out.now)

pub bounds-plan-j : goal.bounds-plan-j
bounds-plan-j c = omega (arith, (plan_order c.args.plan c.requires.planned).few, plan_long c.args.plan c.requires.planned, c.loop-j-test.true)

pub invariant_of-packing : goal.invariant_of-packing
invariant_of-packing c =
    let l = c.loop-j in
    record { small = stage_packs _ _ _ c.requires l.j l.auto.j c.loop-j-test.true _ _ c.stride-s.ensures refl }

pub stage-requires : goal.stage-requires
stage-requires c =
    let l = c.loop-j in
    let known = c.loop-j-test.true in
    let room = part_room _ _ _ c.requires l.j known _ _ c.twiddle_start-from.ensures c.twiddle_start-to.ensures l.out l.invariant.0 in
    stage_fillable _ _ _ c.requires l.j l.auto.j known _ _ c.stride-s.ensures refl _ room

pub loop-j-preserved : goal.loop-j-preserved
loop-j-preserved c =
    let l = c.loop-j in
    stages_next _ _ _ c.requires l.j l.auto.j c.loop-j-test.true _ _ c.stride-s.ensures refl _ _ c.twiddle_start-from.ensures
    c.twiddle_start-to.ensures l.out _ _ l.invariant.0 l.invariant.1 c.stage.ensures refl

pub returns : goal.returns
returns c =
    let l = c.loop-j in
    stages_done _ _ _ c.requires l.j l.out l.invariant.0 (λ some. omega arith) c.loop-j-test.false l.invariant.1
