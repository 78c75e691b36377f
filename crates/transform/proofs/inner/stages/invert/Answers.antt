-- `transform::inner::stages::invert` meets its contract. Assumes nothing.
use Rattle.sequences.proofs.Basics.{sym, ◌∙◌, arith, length-take-le}
use Rattle.scratch.proofs.Scratch.{front_room}
use Rattle.plan.proofs.Bounds.{plan_half}
use Rattle.transform.proofs.Transforms.{from_data, from_pad}
use Rattle.transform.proofs.inner.stages.invert.Goals as goal

pub slice_bounds-all-end-2 : goal.slice_bounds-all-end-2
slice_bounds-all-end-2 c = sym (length-take-le _ _ (omega (arith, c.requires.room)))

pub slice_bounds-all-end-4 : goal.slice_bounds-all-end-4
slice_bounds-all-end-4 c = sym (length-take-le _ _ c.requires.other)

pub all-requires : goal.all-requires
all-requires c = record { long = length-take-le _ _ (omega (arith, c.requires.room)); wide = length-take-le _ _ c.requires.other }

pub from_data-requires : goal.from_data-requires
from_data-requires c = let o = c.all in
    let a = front_room c.args.tables.plan.half o.new.«data» c.args.scratch.now o.auto.«data» (omega (arith, c.requires.room)) in
    let b = front_room c.args.tables.plan.half o.new.scratch c.args.output.now o.auto.scratch c.requires.other in
    ((plan_half c.args.tables.plan c.requires.planned).1, omega (arith, a.0, c.requires.room), omega (arith, b.0, c.requires.other))

pub from_pad-requires : goal.from_pad-requires
from_pad-requires c = let o = c.all in
    let a = front_room c.args.tables.plan.half o.new.«data» c.args.scratch.now o.auto.«data» (omega (arith, c.requires.room)) in
    let b = front_room c.args.tables.plan.half o.new.scratch c.args.output.now o.auto.scratch c.requires.other in
    ((plan_half c.args.tables.plan c.requires.planned).1, omega (arith, a.0, c.requires.room), omega (arith, b.0, c.requires.other))

pub returns-in-Data : goal.returns-in-Data
returns-in-Data c = let a = c.args in let o = c.all.ensures in let f = c.from_data.ensures in
    let both = from_data a.tables.plan a.tables.width a.tables.stage_twiddles.now a.scratch.now a.output.now c.requires.room c.requires.other _ _
    o.data_after o.scratch_after _ _
    (sym o.value ∙ c.in-Data.is) f.scratch_after f.output_after in
    record { scratch_after = both.0; output_after = both.1 }

pub returns-in-Scratchpad : goal.returns-in-Scratchpad
returns-in-Scratchpad c = let a = c.args in let o = c.all.ensures in let f = c.from_pad.ensures in
    let both = from_pad a.tables.plan a.tables.width a.tables.stage_twiddles.now a.scratch.now a.output.now c.requires.room c.requires.other _ _
    o.data_after o.scratch_after _ _
    (sym o.value ∙ c.in-Scratchpad.is) f.scratch_after f.output_after in
    record { scratch_after = both.0; output_after = both.1 }
