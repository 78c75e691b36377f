-- `ladlespindle::ladlespindle_remainder_run` meets its contract. Assumes nothing.
use Rattle.ladlespindle.proofs.Crossing.{run_crossed}
use Rattle.ladlespindle.proofs.ladlespindle_remainder_run.Goals as goal

pub returns : goal.returns
returns c = let a = c.args in let o = c.run-verdict in run_crossed a.plan a.m a.w (a.«data».now, a.scratch.now) o.result (o.new.«data», o.new.scratch) _ _
    _ o.ensures
    c.number.ensures.answer c.place.ensures.answer c.holder.ensures
