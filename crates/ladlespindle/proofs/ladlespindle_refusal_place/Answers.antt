-- `ladlespindle::ladlespindle_refusal_place` meets its contract. Assumes nothing.
use Rattle.sequences.proofs.Basics.{subst}
use Rattle.plan.specs.Record.{Plans}
use Rattle.ladlespindle.proofs.Answers.{place_made, place_refused}
use Rattle.ladlespindle.proofs.ladlespindle_refusal_place.Goals as goal

pub returns-in-Ok : goal.returns-in-Ok
returns-in-Ok c = place_made c.args.list.now _ (subst (Plans c.args.list.now) c.in-Ok.is c.plan.ensures)

pub returns-in-Err : goal.returns-in-Err
returns-in-Err c = place_refused c.args.list.now _ _ (subst (Plans c.args.list.now) c.in-Err.is c.plan.ensures) c.place.ensures.answer
