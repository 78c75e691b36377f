-- `twiddle::inner::fill::fill` meets its contract. Assumes nothing.
use Rattle.plan.proofs.Bounds.{plan_some}
use Rattle.refusal.proofs.Rows.{thrown}
use Rattle.twiddle.proofs.Verdicts.{taken, fill_refused, fill_accepted}
use Rattle.twiddle.proofs.inner.fill.fill.Goals as goal

pub stages-requires : goal.stages-requires
stages-requires c =
    let a = c.args in
    let t = taken a.plan a.width _ _ _ c.lent.ensures c.in_ok-lent.was in
    record { planned = t.planned; housed = t.housed; width = t.width; long = t.stages }

pub ends-requires : goal.ends-requires
ends-requires c =
    let a = c.args in
    let t = taken a.plan a.width _ _ _ c.lent.ensures c.in_ok-lent.was in
    record { some = plan_some a.plan t.planned; housed = t.housed; long = t.ends }

pub returns : goal.returns
returns c = let a = c.args in let told = c.lent.ensures in let accepted = c.in_ok-lent.was in fill_accepted a.direction a.plan a.width
    (a.stage_twiddles.now, a.end_twiddles.now) _ told accepted _ _ c.stages.ensures
    c.ends.ensures

pub returns-in_err-lent : goal.returns-in_err-lent
returns-in_err-lent c = let a = c.args in rw (thrown _ _ c.from_residual.ensures.1) (fill_refused a.direction a.plan a.width
    (a.stage_twiddles.now, a.end_twiddles.now) _ c.lent.ensures _
    c.in_err-lent.was)
