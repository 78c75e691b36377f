-- `ladlespindle::ladlespindle_remainder_stage` meets its contract. Assumes nothing.
use Rattle.ladlespindle.proofs.Crossing.{crossed_over}
use Rattle.ladlespindle.proofs.ladlespindle_remainder_stage.Goals as goal

pub returns : goal.returns
returns c = let o = c.stage in crossed_over _ _ _ o.result o.new.other _ o.ensures c.from.ensures
