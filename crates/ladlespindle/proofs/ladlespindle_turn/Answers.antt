-- `ladlespindle::ladlespindle_turn` meets its contract. Assumes nothing.
use Rattle.sequences.proofs.Basics.{subst}
use Rattle.turn.specs.Calls.{Turns}
use Rattle.ladlespindle.proofs.Crossing.{turn_accepted, turn_refused}
use Rattle.ladlespindle.proofs.ladlespindle_turn.Goals as goal

pub returns-in-Ok : goal.returns-in-Ok
returns-in-Ok c = let a = c.args in turn_accepted a.t a.l _ _ _ (subst (Turns a.t a.l) c.in-Ok.is c.turn_of.ensures) c.from-words.ensures

pub returns-in-Err : goal.returns-in-Err
returns-in-Err c = let a = c.args in turn_refused a.t a.l _ _ _ (subst (Turns a.t a.l) c.in-Err.is c.turn_of.ensures) c.number.ensures.answer
    c.place.ensures.answer
