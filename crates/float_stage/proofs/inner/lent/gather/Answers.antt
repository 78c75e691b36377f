-- `float_stage::inner::lent::gather` meets its contract. Assumes nothing.
use Rattle.sequences.proofs.Basics.{◌≡◌, ◌+◌, ◌*◌, ◌<◌, arith, length}
use Rattle.storing.proofs.Writes.{wrote_none, wrote_step, wrote_all}
use Rattle.float_stage.proofs.inner.lent.gather.Goals as goal

pub loop-u-init : goal.loop-u-init
loop-u-init c = wrote_none _ _ _

pub overflow_mul-u : goal.overflow_mul-u
overflow_mul-u c = omega (arith, c.requires.1 c.loop-u.u (omega arith))

pub overflow_add-from : goal.overflow_add-from
overflow_add-from c = omega (arith, c.requires.1 c.loop-u.u (omega arith))

pub loop-u-preserved : goal.loop-u-preserved
loop-u-preserved c = let l = c.loop-u in let room : 2 * (c.args.at + l.u) + 1 < length c.args.t.now = omega arith in
    wrote_step _ _ _ l.u l.t _ _ room l.invariant c.get.ensures c.put.ensures

pub returns : goal.returns
returns c = let all : c.loop-u.u ≡ c.args.n = omega arith in wrote_all _ _ _ all c.loop-u.invariant
