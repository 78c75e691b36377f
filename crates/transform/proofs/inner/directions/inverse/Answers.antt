-- `transform::inner::directions::inverse` meets its contract. Assumes nothing.
use Rattle.sequences.proofs.Basics.{refl, ◌*◌, ◌≤◌, arith, length}
use Rattle.plan.proofs.Bounds.{plan_half, plan_twice}
use Rattle.transform.proofs.Transforms.{plan_endable, invert_made, inverse_made}
use Rattle.transform.proofs.inner.directions.inverse.Goals as goal

pub prepare-requires : goal.prepare-requires
prepare-requires c = (plan_endable c.args.tables.plan c.requires.planned _ _ c.requires.bins c.requires.ends, c.requires.room)

pub invert-requires : goal.invert-requires
invert-requires c = record {
  planned = c.requires.planned;
  width = c.requires.width;
  room = omega (arith, c.prepare.auto.scratch, c.requires.room);
  other = omega (arith, c.requires.samples, plan_twice c.args.tables.plan c.requires.planned);
  lent = c.requires.stages;
}

pub slice_bounds-clear-count : goal.slice_bounds-clear-count
slice_bounds-clear-count c = omega (arith, c.invert.auto.output, c.requires.samples, plan_twice c.args.tables.plan c.requires.planned)

pub slice_bounds-clear-start : goal.slice_bounds-clear-start
slice_bounds-clear-start c = omega (arith, c.invert.auto.output, c.requires.samples, plan_twice c.args.tables.plan c.requires.planned)

pub returns : goal.returns
returns c = let a = c.args in let i = c.invert in let n = length a.output.now in let some = (plan_half a.tables.plan c.requires.planned).0 in
    let many : 2 * a.tables.plan.half ≤ n = omega (arith, c.requires.samples, plan_twice a.tables.plan c.requires.planned) in
    let p = c.prepare.ensures in record {
      output_after = inverse_made a.tables.plan a.tables.width a.tables.stage_twiddles.now a.tables.end_twiddles.now a.input.now a.scratch.now some
          c.requires.room _ p
          a.output.now i.new.output c.clear.new.words n refl many i.ensures.output_after c.clear.ensures;
      scratch_after = invert_made a.tables.plan a.tables.width a.tables.stage_twiddles.now a.tables.end_twiddles.now a.input.now a.scratch.now some
          c.requires.room _ p
          i.new.scratch n i.ensures.scratch_after;
    }
