-- `ladlespindle::ladlespindle_stage` meets its contract. Assumes nothing.
use Rattle.ladlespindle.proofs.Crossing.{crossed_over}
use Rattle.ladlespindle.proofs.ladlespindle_stage.Goals as goal

pub returns : goal.returns
returns c = let o = c.stage in crossed_over _ _ _ o.result o.new.output _ o.ensures c.from.ensures
