-- `storing::inner::storing::row` meets its contract. Assumes nothing.
use Rattle.sequences.proofs.Basics.{◌≡◌, refl, ◌+◌, ◌*◌, ◌<◌, arith, length}
use Rattle.storing.proofs.Writes.{wrote_none, wrote_step, wrote_all}
use Rattle.storing.proofs.inner.storing.row.Goals as goal

pub loop-t-init : goal.loop-t-init
loop-t-init c = wrote_none _ _ _

pub loop-t-preserved : goal.loop-t-preserved
loop-t-preserved c = let l = c.loop-t in let room : 2 * (c.args.at + l.t) + 1 < length c.args.dst.now = omega arith in
    wrote_step _ _ _ l.t l.dst _ _ room l.invariant refl c.put.ensures

pub returns : goal.returns
returns c = let all : c.loop-t.t ≡ c.args.n = omega arith in wrote_all _ _ _ all c.loop-t.invariant
