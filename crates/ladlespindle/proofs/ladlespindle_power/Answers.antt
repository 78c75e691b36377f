-- `ladlespindle::ladlespindle_power` meets its contract. Assumes nothing.
use Rattle.sequences.proofs.Basics.{subst}
use Rattle.power.specs.Power.{Powers}
use Rattle.ladlespindle.proofs.Crossing.{power_accepted, power_refused}
use Rattle.ladlespindle.proofs.ladlespindle_power.Goals as goal

pub returns-in-Ok : goal.returns-in-Ok
returns-in-Ok c = let a = c.args in power_accepted a.spectrum.now a.lo a.hi _ (subst (Powers a.spectrum.now a.lo a.hi) c.in-Ok.is c.power.ensures)

pub returns-in-Err : goal.returns-in-Err
returns-in-Err c = let a = c.args in power_refused a.spectrum.now a.lo a.hi _ _ _ (subst (Powers a.spectrum.now a.lo a.hi) c.in-Err.is c.power.ensures)
    c.number.ensures.answer c.place.ensures.answer
