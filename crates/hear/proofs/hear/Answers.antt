-- `hear::hear` meets its contract. Assumes nothing.
use Rattle.sequences.proofs.Basics.{arith}
use Rattle.hear.proofs.Verdicts.{hear_forward, hear_room, hears_accepted, hears_refused}
use Rattle.hear.proofs.hear.Goals as goal

pub forward-requires : goal.forward-requires
forward-requires c = let a = c.args in hear_forward a.tables.plan a.tables.width a.tables.stage_twiddles.now a.tables.end_twiddles.now a.input.now a.lo
    a.hi a.threshold
    (a.output.now, a.scratch.now) _ c.lent_band.ensures c.in-Ok.is

pub overflow_add-hi : goal.overflow_add-hi
overflow_add-hi c = let a = c.args in
    let room = hear_room a.tables.plan a.tables.width a.tables.stage_twiddles.now a.tables.end_twiddles.now a.input.now a.lo a.hi a.threshold
    (a.output.now, a.scratch.now) _ c.lent_band.ensures c.in-Ok.is in
    omega (arith, room.1, room.2)

pub overflow_sub-hi : goal.overflow_sub-hi
overflow_sub-hi c = let a = c.args in
    let room = hear_room a.tables.plan a.tables.width a.tables.stage_twiddles.now a.tables.end_twiddles.now a.input.now a.lo a.hi a.threshold
    (a.output.now, a.scratch.now) _ c.lent_band.ensures c.in-Ok.is in
    omega (arith, room.0)

pub sum-power-requires : goal.sum-power-requires
sum-power-requires c = let a = c.args in
    let room = hear_room a.tables.plan a.tables.width a.tables.stage_twiddles.now a.tables.end_twiddles.now a.input.now a.lo a.hi a.threshold
    (a.output.now, a.scratch.now) _ c.lent_band.ensures c.in-Ok.is in
    let long = c.forward.auto.output in
    (omega (arith, long, room.0, room.1), omega (arith, long, room.2))

pub returns-in-Ok : goal.returns-in-Ok
returns-in-Ok c = let a = c.args in
    hears_accepted a.tables.plan a.tables.width a.tables.stage_twiddles.now a.tables.end_twiddles.now a.input.now a.lo a.hi a.threshold
    (a.output.now, a.scratch.now) _ _ _ _ _ c.lent_band.ensures c.in-Ok.is c.forward.ensures.output_after c.forward.ensures.scratch_after
    c.sum-power.ensures c.decide.ensures

pub returns-in-Err : goal.returns-in-Err
returns-in-Err c = let a = c.args in hears_refused a.tables.plan a.tables.width a.tables.stage_twiddles.now a.tables.end_twiddles.now a.input.now a.lo a.hi
    a.threshold
    (a.output.now, a.scratch.now) _ _ c.lent_band.ensures c.in-Err.is
