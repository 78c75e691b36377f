-- `stage::inner::check::sizes` meets its contract. Assumes nothing.
use Rattle.sequences.proofs.Basics.{◌≡◌, arith, true}
use Rattle.refusal.proofs.Rows.{deciding, accepted}
use Rattle.plan.specs.Record.{is_planned}
use Rattle.plan.proofs.Bounds.{plan_half}
use Rattle.counts.proofs.Counts.{count_small}
use Rattle.stage.specs.Calls.{size_verdict}
use Rattle.stage.proofs.inner.check.sizes.Goals as goal

pub returns-then-not-is_planned : goal.returns-then-not-is_planned
unfolding size_verdict
returns-then-not-is_planned c = search deciding

pub returns-then-number-plan : goal.returns-then-number-plan
unfolding size_verdict
returns-then-number-plan c = search deciding

pub returns-then-not-is_width : goal.returns-then-not-is_width
unfolding size_verdict
returns-then-not-is_width c = search deciding depth 8

pub overflow_mul-plan : goal.overflow_mul-plan
unfolding size_verdict
overflow_mul-plan c = omega (arith, plan_half c.args.plan (search accepted))

pub returns-then-input-plan : goal.returns-then-input-plan
unfolding size_verdict
returns-then-input-plan c = search deciding depth 8

pub returns-then-output-plan : goal.returns-then-output-plan
unfolding size_verdict
returns-then-output-plan c = search deciding depth 8

pub twiddle_count-requires : goal.twiddle_count-requires
unfolding size_verdict
twiddle_count-requires c = (search accepted, c.if-number-plan.false)

pub overflow_mul-twiddle_count : goal.overflow_mul-twiddle_count
unfolding size_verdict
overflow_mul-twiddle_count c = let a = c.args in let planned : is_planned a.plan ≡ true = search accepted in
    omega (arith, c.twiddle_count.ensures, count_small a.plan planned a.number c.if-number-plan.false)

pub returns-then-twiddles-twiddle_count : goal.returns-then-twiddles-twiddle_count
unfolding size_verdict
returns-then-twiddles-twiddle_count c = search deciding depth 10

pub returns : goal.returns
unfolding size_verdict
returns c = search deciding depth 10
