-- `ladlespindle::ladlespindle_scale` meets its contract. Assumes nothing.
use Rattle.sequences.proofs.Basics.{subst}
use Rattle.scaling.specs.Scaling.{Scales}
use Rattle.ladlespindle.proofs.Answers.{scale_made, scale_refused}
use Rattle.ladlespindle.proofs.ladlespindle_scale.Goals as goal

pub returns-in-Ok : goal.returns-in-Ok
returns-in-Ok c = let a = c.args in scale_made a.in_list.now a.out_list.now _ _ (subst (Scales a.in_list.now a.out_list.now) c.in-Ok.is c.scale.ensures)
    c.scaling_as.ensures

pub returns-in-Err : goal.returns-in-Err
returns-in-Err c = let a = c.args in scale_refused a.in_list.now a.out_list.now _ _ _ _ (subst
    (Scales a.in_list.now a.out_list.now) c.in-Err.is c.scale.ensures)
    c.number.ensures.answer c.place.ensures.answer c.scaling_as-in-Err.ensures
