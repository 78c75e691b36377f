-- `twiddle::inner::check::lent` meets its contract. Assumes nothing.
use Rattle.sequences.proofs.Basics.{◌≡◌, le_refl, arith, true}
use Rattle.refusal.proofs.Rows.{deciding, accepted}
use Rattle.plan.specs.Record.{is_planned}
use Rattle.twiddle.specs.Calls.{fill_verdict}
use Rattle.plan.proofs.Bounds.{plan_some, plan_few}
use Rattle.counts.proofs.Counts.{start_few, end_few}
use Rattle.twiddle.proofs.inner.check.lent.Goals as goal

pub returns-then-not-is_planned : goal.returns-then-not-is_planned
unfolding fill_verdict
returns-then-not-is_planned c = search deciding

pub returns-then-not-is_width : goal.returns-then-not-is_width
unfolding fill_verdict
returns-then-not-is_width c = search deciding

pub returns-then-not-is_housed : goal.returns-then-not-is_housed
unfolding fill_verdict
returns-then-not-is_housed c = search deciding

pub twiddle_start-requires : goal.twiddle_start-requires
unfolding fill_verdict
twiddle_start-requires c = (search accepted, omega arith)

pub overflow_mul-twiddle_start : goal.overflow_mul-twiddle_start
unfolding fill_verdict
overflow_mul-twiddle_start c = let p = c.args.plan in let planned : is_planned p ≡ true = search accepted in
    omega (arith, c.twiddle_start.ensures, start_few p planned p.count (le_refl _))

pub returns-then-stage-twiddle_start : goal.returns-then-stage-twiddle_start
unfolding fill_verdict
returns-then-stage-twiddle_start c = search deciding depth 8

pub end_count-requires : goal.end_count-requires
unfolding fill_verdict
end_count-requires c = search (plan_some, accepted)

pub overflow_mul-end_count : goal.overflow_mul-end_count
unfolding fill_verdict
overflow_mul-end_count c = let p = c.args.plan in let planned : is_planned p ≡ true = search accepted in
    omega (arith, c.end_count.ensures, end_few p.n (plan_some p planned), plan_few p planned)

pub returns-then-end-end_count : goal.returns-then-end-end_count
unfolding fill_verdict
returns-then-end-end_count c = search deciding depth 8

pub returns : goal.returns
unfolding fill_verdict
returns c = search deciding depth 8
