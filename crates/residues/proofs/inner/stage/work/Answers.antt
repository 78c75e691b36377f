-- `residues::inner::stage::work` meets its contract. Assumes nothing.
use Rattle.sequences.proofs.Basics.{◌<◌, arith}
use Rattle.plan.proofs.Bounds.{plan_order}
use Rattle.schedule.proofs.Plans.{found_some, found_stride}
use Rattle.residues.specs.Residues.{Under}
use Rattle.residues.proofs.Stage.{work_staged, work_lent, work_done}
use Rattle.powers.proofs.Powers.{below_mod}
use Rattle.residues.proofs.inner.stage.work.Goals as goal

pub bounds-plan-j : goal.bounds-plan-j
bounds-plan-j c = omega (arith, c.requires.1, (plan_order c.args.plan c.requires.0.planned).few)

pub nonzero_div-apart : goal.nonzero_div-apart
nonzero_div-apart c = found_some c.args.plan c.requires.0.planned c.args.j c.requires.1

pub nonzero_div-apart-2 : goal.nonzero_div-apart-2
nonzero_div-apart-2 c = rw c.stride-s.ensures (found_stride c.args.plan c.requires.0.planned c.args.j c.requires.1)

pub invariant_of-stage : goal.invariant_of-stage
invariant_of-stage c =
    let a = c.args in
    let some : 0 < a.m = omega (arith, c.requires.0.modulus.two) in
    let turning : Under a.m 8 c.powers-turns.result = λ q l. below_mod _ _ a.m (c.powers-turns.ensures q l) some in
    let base = below_mod _ _ a.m c.power-step.ensures some in
    record { lent = rw c.stride-s.ensures (work_lent a.plan a.j a.m a.w a.src.now _ c.requires.0 c.requires.1 _ _ base turning) }

pub run-requires : goal.run-requires
run-requires c = let a = c.args in rw c.stride-s.ensures (work_staged a.plan a.j a.m a.w a.src.now _ c.requires.0 c.requires.1)

pub returns : goal.returns
returns c =
    let a = c.args in
    let e = c.stride-s.ensures in
    work_done a.plan a.j a.m a.w a.src.now _ c.requires.0 c.requires.1 _ _ _ c.run.new.dst (rw e at c.power-step.ensures) c.power-root.ensures
    c.powers-turns.ensures c.run.auto.dst (rw e at c.run.ensures)
