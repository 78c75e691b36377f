-- `counts::inner::stages::stride` meets its contract. Assumes nothing.
use Rattle.sequences.proofs.Basics.{arith}
use Rattle.plan.proofs.Bounds.{plan_order}
use Rattle.counts.proofs.Counts.{stride_within}
use Rattle.counts.specs.Counts.{stride}
use Rattle.counts.proofs.inner.stages.stride.Goals as goal

pub shared_ref_as_front-product : goal.shared_ref_as_front-product
shared_ref_as_front-product c = omega (arith, (plan_order c.args.plan c.requires.0).few)

pub product-requires : goal.product-requires
product-requires c = stride_within c.args.plan c.requires.0 c.args.j c.requires.1

pub returns : goal.returns
unfolding stride
returns c = c.product.ensures
