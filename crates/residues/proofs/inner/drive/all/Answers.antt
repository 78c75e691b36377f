-- `residues::inner::drive::all` meets its contract. Assumes nothing.
use Rattle.schedule.proofs.Buffers.{driven_copied, driven_kept}
use Rattle.residues.specs.Residues.{stage_of}
use Rattle.residues.proofs.inner.drive.all.Goals as goal

pub returns-then-plan-eq1 : goal.returns-then-plan-eq1
returns-then-plan-eq1 c = let a = c.args in
    let both = driven_copied (λ j. stage_of a.plan j a.m a.w) (a.«data».now, a.scratch.now) a.plan.count
    c.if-plan-eq1.true _ _ c.copy.ensures c.drive.ensures.scratch_after in
    record { data_after = both.0; scratch_after = both.1 }

pub returns-else-plan-eq1 : goal.returns-else-plan-eq1
returns-else-plan-eq1 c = let a = c.args in
    let both = driven_kept (λ j. stage_of a.plan j a.m a.w) (a.«data».now, a.scratch.now) a.plan.count c.if-plan-eq1.false _ _
    c.drive.ensures.data_after c.drive.ensures.scratch_after in
    record { data_after = both.0; scratch_after = both.1 }
