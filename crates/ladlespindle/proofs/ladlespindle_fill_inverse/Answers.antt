-- `ladlespindle::ladlespindle_fill_inverse` meets its contract. Assumes nothing.
use Rattle.ladlespindle.proofs.Crossing.{crossed_over}
use Rattle.ladlespindle.proofs.ladlespindle_fill_inverse.Goals as goal

pub returns : goal.returns
returns c = let o = c.fill_inverse in crossed_over _ _ _ o.result (o.new.stage_twiddles, o.new.end_twiddles) _ o.ensures c.from.ensures
