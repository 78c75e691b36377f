-- `stage::inner::drive::Stages::all_from` meets its contract. Assumes nothing.
use Rattle.sequences.proofs.Basics.{◌≡◌, ap, ◌∙◌, arith, length}
use lib.Ieee.{Float}
use Rattle.sequences.proofs.Pasted.{whole_pasted}
use Rattle.counts.proofs.Counts.{start_none}
use Rattle.schedule.specs.Buffers.{Two}
use Rattle.stage.specs.Runs.{stage_in, run_of}
use Rattle.stage.proofs.Runs.{drivable_as, gone_none}
use Rattle.stage.proofs.inner.drive.Stages.all_from.Goals as goal
use Rattle.stage.proofs.inner.drive.Stages.all_from.Goals.{then-self-gt0, else-self-gt0}

pub one-requires : goal.one-requires
one-requires c = record {
  known = omega (arith, c.if-self-gt0.true);
  source = c.requires.0.long;
  target = c.requires.0.wide;
  starts = start_none c.args.self.plan.half c.args.self.plan.radices;
}

pub later-requires : goal.later-requires
later-requires c = (
  drivable_as c.requires.0 c.requires.1 c.one.auto.dst,
  omega (arith, c.if-self-gt0.true),
)

pub shape_of-data : goal.shape_of-data
shape_of-data c = elim c.if-self-gt0.branch [
  | then-self-gt0 w ↦ ap length w.data-is ∙ w.later.auto.«data»
  | else-self-gt0 w ↦ ap length w.data-is ∙ w.paste.auto.dst
]

pub shape_of-scratch : goal.shape_of-scratch
shape_of-scratch c = elim c.if-self-gt0.branch [
  | then-self-gt0 w ↦ ap length w.scratch-is ∙ w.later.auto.scratch ∙ w.one.auto.dst
  | else-self-gt0 w ↦ ap length w.scratch-is
]

pub returns : goal.returns
returns c = let a = c.args in let b : Two Float = (a.input.now, a.scratch.now) in let f = stage_in a.self.plan a.self.width a.self.twiddles.now in
    let left : (c.if-self-gt0.«data» ≡ (run_of a.self.plan a.self.width a.self.twiddles.now b).0)
    × (c.if-self-gt0.scratch ≡ (run_of a.self.plan a.self.width a.self.twiddles.now b).1) =
    elim c.if-self-gt0.branch [
      | then-self-gt0 w ↦ let g = w.later.ensures a.input.now a.scratch.now w.one.ensures in (w.data-is ∙ g.0, w.scratch-is ∙ g.1)
      | else-self-gt0 w ↦ let g = gone_none f a.self.plan.count (omega (arith, w.if-self-gt0.false)) b in
          (w.data-is ∙ w.paste.ensures ∙ whole_pasted _ _ c.requires.1 ∙ g.0, w.scratch-is ∙ g.1)
    ] in
    record { data_after = left.0; scratch_after = left.1; value = c.result_in.ensures }
