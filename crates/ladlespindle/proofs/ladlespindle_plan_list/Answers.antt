-- `ladlespindle::ladlespindle_plan_list` meets its contract. Assumes nothing.
use Rattle.sequences.proofs.Basics.{refl, subst}
use Rattle.plan.specs.Record.{Plans}
use Rattle.ladlespindle.proofs.Answers.{list_made, list_refused}
use Rattle.ladlespindle.proofs.ladlespindle_plan_list.Goals as goal

pub returns-in-Ok : goal.returns-in-Ok
returns-in-Ok c = list_made c.args.list.now _ (subst (Plans c.args.list.now) c.in-Ok.is c.plan.ensures)

pub returns-in-Err : goal.returns-in-Err
returns-in-Err c = list_refused c.args.list.now _ _ _ _ (subst (Plans c.args.list.now) c.in-Err.is c.plan.ensures) c.number.ensures.answer
    c.place.ensures.answer refl
