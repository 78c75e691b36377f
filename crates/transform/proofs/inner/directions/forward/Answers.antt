-- `transform::inner::directions::forward` meets its contract. Assumes nothing.
use Rattle.sequences.proofs.Basics.{◌∙◌, arith}
use Rattle.plan.proofs.Bounds.{plan_twice}
use Rattle.transform.proofs.Transforms.{plan_endable, forward_made}
use Rattle.transform.proofs.inner.directions.forward.Goals as goal

pub stages_from-which-requires : goal.stages_from-which-requires
stages_from-which-requires c = (
  record { planned = c.requires.planned; width = c.requires.width; room = c.requires.room; other = omega (arith, c.requires.bins); lent = c.requires.stages },
  c.requires.samples ∙ plan_twice c.args.tables.plan c.requires.planned,
)

pub finish-requires : goal.finish-requires
finish-requires c = let o = c.stages_from-which in (
  plan_endable c.args.tables.plan c.requires.planned _ _ (o.auto.other ∙ c.requires.bins) c.requires.ends,
  omega (arith, o.auto.scratch, c.requires.room),
)

pub returns : goal.returns
returns c = let a = c.args in let o = c.stages_from-which in
    let both = forward_made a.tables.plan a.tables.width a.tables.stage_twiddles.now a.tables.end_twiddles.now a.input.now a.scratch.now
    (c.requires.samples ∙ plan_twice a.tables.plan c.requires.planned) c.requires.room _ _ _ o.ensures.scratch_after o.ensures.value c.finish.ensures in
    record { output_after = both.0; scratch_after = both.1 }
