-- `spectrum::inner::check::sizes` meets its contract. Assumes nothing.
use Rattle.sequences.proofs.Basics.{◌≡◌, le_refl, arith, true}
use Rattle.refusal.proofs.Rows.{deciding, accepted}
use Rattle.plan.specs.Record.{is_planned}
use Rattle.plan.proofs.Bounds.{plan_some, plan_few}
use Rattle.counts.proofs.Counts.{start_few, end_few}
use Rattle.spectrum.specs.Calls.{size_verdict}
use Rattle.spectrum.proofs.inner.check.sizes.Goals as goal

pub returns-then-not-is_planned : goal.returns-then-not-is_planned
unfolding size_verdict
returns-then-not-is_planned c = search deciding

pub returns-then-not-is_width : goal.returns-then-not-is_width
unfolding size_verdict
returns-then-not-is_width c = search deciding

pub returns-then-not-input : goal.returns-then-not-input
unfolding size_verdict
returns-then-not-input c = search deciding

pub returns-then-not-output : goal.returns-then-not-output
unfolding size_verdict
returns-then-not-output c = search deciding depth 8

pub overflow_mul-plan : goal.overflow_mul-plan
unfolding size_verdict
overflow_mul-plan c = omega (arith, plan_few c.args.tables.plan (search accepted))

pub returns-then-scratch-plan : goal.returns-then-scratch-plan
unfolding size_verdict
returns-then-scratch-plan c = search deciding depth 8

pub twiddle_start-requires : goal.twiddle_start-requires
unfolding size_verdict
twiddle_start-requires c = (search accepted, omega arith)

pub overflow_mul-twiddle_start : goal.overflow_mul-twiddle_start
unfolding size_verdict
overflow_mul-twiddle_start c = let p = c.args.tables.plan in let planned : is_planned p ≡ true = search accepted in
    omega (arith, c.twiddle_start.ensures, start_few p planned p.count (le_refl _))

pub returns-then-tables-twiddle_start : goal.returns-then-tables-twiddle_start
unfolding size_verdict
returns-then-tables-twiddle_start c = search deciding depth 10

pub end_count-requires : goal.end_count-requires
unfolding size_verdict
end_count-requires c = search (plan_some, accepted)

pub overflow_mul-end_count : goal.overflow_mul-end_count
unfolding size_verdict
overflow_mul-end_count c = let p = c.args.tables.plan in let planned : is_planned p ≡ true = search accepted in
    omega (arith, c.end_count.ensures, end_few p.n (plan_some p planned), plan_few p planned)

pub returns-then-tables-end_count : goal.returns-then-tables-end_count
unfolding size_verdict
returns-then-tables-end_count c = search deciding depth 12

pub returns : goal.returns
unfolding size_verdict
returns c = search deciding depth 12
