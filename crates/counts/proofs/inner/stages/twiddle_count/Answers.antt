-- `counts::inner::stages::twiddle_count` meets its contract. Assumes nothing.
use Rattle.plan.proofs.Bounds.{plan_order, plan_radix_bounds}
use Rattle.counts.proofs.Counts.{count_later, count_small, count_first}
use Rattle.sequences.proofs.Basics.{arith}
use Rattle.counts.proofs.inner.stages.twiddle_count.Goals as goal

pub returns-then-j-eq0 : goal.returns-then-j-eq0
returns-then-j-eq0 c = count_first c.args.plan.half c.args.plan.radices c.args.j c.if-j-eq0.true

pub bounds-plan-j : goal.bounds-plan-j
bounds-plan-j c = omega (arith, (plan_order c.args.plan c.requires.0).few)

pub nonzero_div-result : goal.nonzero_div-result
nonzero_div-result c = omega (arith, plan_radix_bounds c.args.plan c.requires.0 c.args.j c.requires.1)

pub overflow_sub-result : goal.overflow_sub-result
overflow_sub-result c = omega (arith, plan_radix_bounds c.args.plan c.requires.0 c.args.j c.requires.1)

pub overflow_mul-result : goal.overflow_mul-result
overflow_mul-result c = omega (
  arith,
  count_later c.args.plan c.requires.0 c.args.j c.if-j-eq0.false c.requires.1,
  count_small c.args.plan c.requires.0 c.args.j c.requires.1,
)

pub returns : goal.returns
returns c = count_later c.args.plan c.requires.0 c.args.j c.if-j-eq0.false c.requires.1
