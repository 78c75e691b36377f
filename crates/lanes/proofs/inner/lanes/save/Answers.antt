-- `lanes::inner::lanes::save` meets its contract. Assumes nothing.
use Rattle.lanes.proofs.Writes.{saved_both}
use Rattle.lanes.proofs.inner.lanes.save.Goals as goal

pub returns : goal.returns
returns c = saved_both _ _ _ _ c.args.r c.every_second.ensures c.every_second-2.ensures
