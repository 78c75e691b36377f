-- `ladlespindle_accepts` meets its promise: each arm answers as `accepts` does. Assumes nothing.
use Rattle.ladlespindle.proofs.Answers.{accepts_one, accepts_none}
use Rattle.ladlespindle.proofs.ladlespindle_accepts.Goals as goal

pub returns-then-accepts : goal.returns-then-accepts
returns-then-accepts c = accepts_one _ _ c.accepts.ensures c.if-accepts.true

pub returns-else-accepts : goal.returns-else-accepts
returns-else-accepts c = accepts_none _ _ c.accepts.ensures c.if-accepts.false
