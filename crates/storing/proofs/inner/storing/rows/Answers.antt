-- `storing::inner::storing::rows` meets its contract. Assumes nothing.
use Rattle.sequences.proofs.Basics.{refl, ap, ◌∙◌, ℕ, ◌+◌, ◌*◌, ◌<◌, arith, length}
use Rattle.schedule.specs.Stage.{index}
use Rattle.schedule.proofs.Fill.{wrote_as, rowed_none, rowed_step}
use Rattle.floats.specs.Complexes.{cell}
use Rattle.storing.proofs.Writes.{wrote_from}
use Rattle.storing.proofs.Places.{row_room}
use Rattle.storing.proofs.inner.storing.rows.Goals as goal

pub loop-p-init : goal.loop-p-init
loop-p-init c = let a = c.args in (refl, λ v held done. rowed_none a.s a.r v a.i a.n (cell a.dst.now) done)

pub overflow_mul-p-in-loop-p : goal.overflow_mul-p-in-loop-p
overflow_mul-p-in-loop-p c = omega (
  arith,
  row_room c.args.i c.args.n c.args.s c.args.r (length c.args.dst.now) c.loop-p.p c.requires.0
      (omega arith),
)

pub overflow_add-at : goal.overflow_add-at
overflow_add-at c = omega (
  arith,
  row_room c.args.i c.args.n c.args.s c.args.r (length c.args.dst.now) c.loop-p.p c.requires.0
      (omega arith),
)

pub piece-requires : goal.piece-requires
piece-requires c = (
  c.requires.2,
  omega arith,
  omega arith,
  omega (
    arith,
    row_room c.args.i c.args.n c.args.s c.args.r (length c.args.dst.now) c.loop-p.p c.requires.0 (omega arith),
    c.loop-p.invariant.0,
  ),
)

pub loop-p-preserved : goal.loop-p-preserved
unfolding index
loop-p-preserved c = let a = c.args in let b = c.requires.0 in let l = c.loop-p in let piece = c.piece in let lp : l.p < a.r = omega arith in
    let here = wrote_from _ _ _ (ap (λ (k : ℕ). k + l.p * a.s) c.requires.1) piece.ensures in (
      piece.ensures.size ∙ l.invariant.0,
      λ v held done.
          rowed_step a.s a.r v a.i a.n b.stride b.one l.p lp (wrote_as (λ t lt. (refl, held t l.p lt lp)) here.cells)
          (l.invariant.1 v held done),
    )

pub shape_of-dst : goal.shape_of-dst
shape_of-dst c = c.loop-p.invariant.0

pub returns : goal.returns
returns c = λ v held done i p li lp. c.loop-p.invariant.1 v held done i p (li, λ x. omega arith) lp
