-- `transform::inner::stages::stages_from` meets its contract. Assumes nothing.
use Rattle.sequences.proofs.Basics.{sym, ◌∙◌, arith, length-take-le}
use Rattle.scratch.proofs.Scratch.{front_room}
use Rattle.transform.proofs.Stages.{stages_made, stages_none}
use Rattle.transform.proofs.inner.stages.stages_from.Goals as goal

pub slice_bounds-all_from-end-2 : goal.slice_bounds-all_from-end-2
slice_bounds-all_from-end-2 c = sym (length-take-le _ _ (omega (arith, c.requires.0.room)))

pub slice_bounds-all_from-end-4 : goal.slice_bounds-all_from-end-4
slice_bounds-all_from-end-4 c = sym (length-take-le _ _ c.requires.0.other)

pub all_from-which-requires : goal.all_from-which-requires
all_from-which-requires c = (
  record { long = c.requires.1; wide = length-take-le _ _ c.requires.0.other },
  length-take-le _ _ (omega (arith, c.requires.0.room)) ∙ sym c.requires.1,
)

pub slice_bounds-paste-end-then-tables-gt0 : goal.slice_bounds-paste-end-then-tables-gt0
slice_bounds-paste-end-then-tables-gt0 c = let o = c.all_from-which in
    sym (front_room c.args.tables.plan.half o.new.scratch c.args.other.now o.auto.scratch c.requires.0.other).1

pub paste-requires : goal.paste-requires
paste-requires c = let o = c.all_from-which in
    let a = front_room c.args.tables.plan.half o.new.«data» c.args.scratch.now o.auto.«data» (omega (arith, c.requires.0.room)) in
    let b = front_room c.args.tables.plan.half o.new.scratch c.args.other.now o.auto.scratch c.requires.0.other in
    omega (arith, a.0, b.1, c.requires.0.room)

pub returns-then-tables-gt0 : goal.returns-then-tables-gt0
returns-then-tables-gt0 c = let a = c.args in let o = c.all_from-which.ensures in record {
  value = o.value;
  scratch_after = stages_made a.tables.plan a.tables.width a.tables.stage_twiddles.now a.input.now a.scratch.now a.other.now c.requires.1 c.requires.0.room
      c.requires.0.other c.if-tables-gt0.true _ _ _ o.data_after o.scratch_after c.paste.ensures;
}

pub returns-else-tables-gt0 : goal.returns-else-tables-gt0
returns-else-tables-gt0 c = let a = c.args in let o = c.all_from-which.ensures in record {
  value = o.value;
  scratch_after = stages_none a.tables.plan a.tables.width a.tables.stage_twiddles.now a.input.now a.scratch.now a.other.now c.requires.1 c.requires.0.room
      c.requires.0.other (omega (arith, c.if-tables-gt0.false)) _ o.data_after;
}
