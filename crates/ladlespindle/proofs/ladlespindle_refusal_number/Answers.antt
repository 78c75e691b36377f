-- `ladlespindle::ladlespindle_refusal_number` meets its contract. Assumes nothing.
use Rattle.sequences.proofs.Basics.{subst}
use Rattle.plan.specs.Record.{Plans}
use Rattle.ladlespindle.proofs.Answers.{number_made, number_refused}
use Rattle.ladlespindle.proofs.ladlespindle_refusal_number.Goals as goal

pub returns-in-Ok : goal.returns-in-Ok
returns-in-Ok c = number_made c.args.list.now _ (subst (Plans c.args.list.now) c.in-Ok.is c.plan.ensures)

pub returns-in-Err : goal.returns-in-Err
returns-in-Err c = number_refused c.args.list.now _ _ (subst (Plans c.args.list.now) c.in-Err.is c.plan.ensures) c.number.ensures.answer
