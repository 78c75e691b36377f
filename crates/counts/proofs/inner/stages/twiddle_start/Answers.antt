-- `counts::inner::stages::twiddle_start` meets its contract. Assumes nothing.
use Rattle.sequences.proofs.Basics.{arith}
use Rattle.plan.proofs.Bounds.{plan_order}
use Rattle.counts.proofs.Counts.{count_small, start_next, start_none}
use Rattle.counts.proofs.inner.stages.twiddle_start.Goals as goal

pub loop-i-init : goal.loop-i-init
loop-i-init c = record { small = omega arith; start = start_none c.args.plan.half c.args.plan.radices }

pub overflow_add-sum : goal.overflow_add-sum
overflow_add-sum c =
    let few = count_small c.args.plan c.requires.0 c.loop-i.i (omega arith) in
    omega (arith, few, c.twiddle_count-sum.ensures, (plan_order c.args.plan c.requires.0).few)

pub loop-i-preserved : goal.loop-i-preserved
loop-i-preserved c = record {
  small = omega (arith, c.twiddle_count-sum.ensures, count_small c.args.plan c.requires.0 c.loop-i.i (omega arith));
  start = omega (arith, c.twiddle_count-sum.ensures, start_next c.args.plan.half c.args.plan.radices c.loop-i.i);
}
