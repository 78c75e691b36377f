-- `ends::inner::cells::Row::batch` meets its contract. Assumes nothing.
use Rattle.sequences.proofs.Basics.{◌≡◌, refl, ap, subst, ◌∙◌, ℕ, ◌+◌, ◌-◌, ◌<◌, arith}
use Rattle.floats.specs.Complexes.{cell}
use Rattle.ends.specs.Parts.{Batched}
use Rattle.ends.proofs.Batches.{batched_none, batched_next}
use Rattle.ends.proofs.inner.cells.Row.batch.Goals as goal

pub loop-j-init : goal.loop-j-init
loop-j-init g c = (refl, refl, batched_none _ _ _ _ _ _ _)

pub get-t-requires : goal.get-t-requires
get-t-requires g c = let l = c.loop-j in omega (arith, c.requires.some, c.requires.lent (c.args.k + l.j) (omega (arith, c.requires.room, c.loop-j-test.true)))

pub loop-j-preserved : goal.loop-j-preserved
loop-j-preserved g c = let l = c.loop-j in let lt : l.j < c.args.len = c.loop-j-test.true in let x = c.args.self.cells.now in
    let at : c.args.self.h - c.args.k - l.j ≡ c.args.self.h - (c.args.k + l.j) = omega (arith, lt, c.requires.room) in
    let a = c.get-a.ensures in let b = c.get-b.ensures ∙ ap (cell x) at in
    let t = c.get-t.ensures in (
      c.put.auto.xs ∙ l.invariant.0,
      c.put-in-loop-j.auto.xs ∙ l.invariant.1,
      batched_next g.D.Direction.steps c.args.self.h c.args.self.twiddles.now x c.args.k l.j l.ahead
          l.back _ _ _ _ (omega (arith, lt, c.requires.short)) (omega arith) (omega arith) l.invariant.2
          (c.near.ensures ∙ rw (a, b, t)) (c.far.ensures ∙ rw (a, b, t)) c.put.ensures c.put-in-loop-j.ensures,
    )

pub returns : goal.returns
returns g c = let l = c.loop-j in let e : l.j ≡ c.args.len = omega arith in (
  omega arith,
  omega arith,
  subst (λ (n : ℕ). Batched g.D.Direction.steps c.args.self.h c.args.self.twiddles.now c.args.self.cells.now c.args.k n l.ahead l.back) e l.invariant.2,
)
