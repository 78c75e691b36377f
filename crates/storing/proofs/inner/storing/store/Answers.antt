-- `storing::inner::storing::store` meets its contract. Assumes nothing.
use Rattle.sequences.proofs.Basics.{arith}
use Rattle.storing.proofs.Batches.{storing_none, storing_asks, storing_next, storing_all}
use Rattle.storing.proofs.inner.storing.store.Goals as goal

pub loop-next-init : goal.loop-next-init
loop-next-init g c = let p = c.requires in storing_none c.args.span.evenly p.2

pub step-next-requires : goal.step-next-requires
step-next-requires g c = let p = c.requires in storing_asks c.loop-next.invariant p.0 c.loop-next-test.true

pub loop-next-smaller : goal.loop-next-smaller
loop-next-smaller g c = omega (arith, c.step-next.ensures.0.fits)

pub loop-next-preserved : goal.loop-next-preserved
loop-next-preserved g c = storing_next c.loop-next.invariant c.step-next.auto.dst c.step-next.ensures

pub shape_of-dst : goal.shape_of-dst
shape_of-dst g c = c.loop-next.invariant.size

pub returns : goal.returns
returns g c = storing_all c.loop-next.invariant (omega arith)
