-- `float_stage::inner::first::spread` meets its contract. Assumes nothing.
use Rattle.sequences.proofs.Basics.{◌≡◌, refl, ◌+◌, ◌*◌, ◌<◌, arith, length}
use Rattle.storing.proofs.Writes.{wrote_none, wrote_step, wrote_all}
use Rattle.float_stage.proofs.inner.first.spread.Goals as goal

pub loop-p-init : goal.loop-p-init
loop-p-init c = wrote_none _ _ _

pub loop-p-preserved : goal.loop-p-preserved
loop-p-preserved c = let l = c.loop-p in let room : 2 * (c.args.at + l.p) + 1 < length c.args.dst.now = omega arith in
    wrote_step _ _ _ l.p l.dst _ _ room l.invariant refl c.put.ensures

pub returns : goal.returns
returns c = let all : c.loop-p.p ≡ c.args.r = omega arith in wrote_all _ _ _ all c.loop-p.invariant
