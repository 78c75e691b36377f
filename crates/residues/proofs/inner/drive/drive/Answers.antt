-- `residues::inner::drive::drive` meets its contract. Assumes nothing.
use Rattle.sequences.proofs.Basics.{refl, ◌∙◌, ℕ, List}
use Rattle.schedule.specs.Buffers.{Two, alternated}
use Rattle.schedule.proofs.Buffers.{even_next, odd_next}
use Rattle.residues.specs.Residues.{stage_of}
use Rattle.residues.proofs.Runs.{even_workable, odd_workable}
use Rattle.residues.proofs.inner.drive.drive.Goals as goal
use Rattle.residues.proofs.inner.drive.drive.Goals.{then-k-eq0, else-k-eq0}

pub loop-k-init : goal.loop-k-init
unfolding alternated
loop-k-init c = (refl, refl)

pub work-requires : goal.work-requires
work-requires c = let l = c.loop-k in
    even_workable c.args.scratch.now c.requires l.«data» l.scratch l.k l.invariant c.loop-k-test.true c.if-k-eq0.true

pub work-requires-else-k-eq0 : goal.work-requires-else-k-eq0
work-requires-else-k-eq0 c = let l = c.loop-k in
    odd_workable c.args.scratch.now c.requires l.«data» l.scratch l.k l.invariant c.loop-k-test.true c.if-k-eq0.false

pub loop-k-preserved : goal.loop-k-preserved
loop-k-preserved c =
    let a = c.args in
    let l = c.loop-k in
    let f : ℕ → List ℕ → List ℕ = λ j. stage_of a.plan j a.m a.w in
    let b : Two ℕ = (a.«data».now, a.scratch.now) in
    elim c.if-k-eq0.branch [
      | then-k-eq0 w ↦ even_next f b l.k l.«data» l.scratch _ _ w.if-k-eq0.true l.invariant.0 w.data-is (w.scratch-is ∙ w.work.ensures)
      | else-k-eq0 w ↦ odd_next f b l.k l.«data» l.scratch _ _ w.if-k-eq0.false l.invariant.1 (w.data-is ∙ w.work-else-k-eq0.ensures) w.scratch-is
    ]
