-- `ladlespindle::ladlespindle_forward` meets its contract. Assumes nothing.
use Rattle.ladlespindle.proofs.Crossing.{crossed_over}
use Rattle.ladlespindle.proofs.ladlespindle_forward.Goals as goal

pub returns : goal.returns
returns c = let o = c.forward in crossed_over _ _ _ o.result (o.new.output, o.new.scratch) _ o.ensures c.from.ensures
