-- `float_stage::inner::first::first` meets its contract. Assumes nothing.
use Rattle.sequences.proofs.Basics.{◌≡◌, refl, ℕ, ◌+◌, ◌*◌, arith, true, length}
use Rattle.radices.specs.Lists.{is_radix}
use Rattle.floats.specs.declared.complex.Complex.{Complex}
use Rattle.kernel.specs.Parts.{output_of}
use Rattle.kernel.proofs.Kernel.{sized_at}
use Rattle.storing.specs.Parts.{Wrote}
use Rattle.float_stage.proofs.First.{first_step, other, room_at, first_arm}
use Rattle.float_stage.proofs.inner.first.first.Goals as goal
use Rattle.float_stage.proofs.inner.first.first.Goals.{in-2, in-3, in-4, in-5, in-7, in_default}

pub cells-requires-in_default : goal.cells-requires-in_default
cells-requires-in_default c = let h = c.requires.0 in let r = c.args.r in (
  sized_at 8 (other h (
    ((((tt {0}, λ (e : r ≡ 2). omega arith), λ (e : r ≡ 3). omega arith), λ (e : r ≡ 4). omega arith), λ (e : r ≡ 5). omega arith),
    λ
        (e : r ≡ 7). omega arith,
  )) h,
  omega arith,
)

pub outputs-requires-in_default : goal.outputs-requires-in_default
unfolding is_radix
outputs-requires-in_default c = (refl, omega arith, omega arith)

pub spread-requires-in_default : goal.spread-requires-in_default
spread-requires-in_default c = let r = c.args.r in (
  omega arith,
  omega (
    arith,
    room_at c.args.m r c.loop-k.k (length c.args.dst.now) (omega arith) c.requires.2 8
        (other c.requires.0 (
          (
            (((tt {0}, λ (e : r ≡ 2). omega arith), λ (e : r ≡ 3). omega arith), λ (e : r ≡ 4). omega arith),
            λ
                (e : r ≡ 5). omega arith,
          ),
          λ (e : r ≡ 7). omega arith,
        )),
  ),
)

pub loop-k-preserved : goal.loop-k-preserved
loop-k-preserved c =
    let a = c.args in let l = c.loop-k in let r = a.r in
    let arm = first_arm c.requires.0 a.src.now l.k l.dst c.match-r.dst in
    let w : (lent : ℕ → ℕ → Complex) → Wrote (output_of true a.m r a.src.now lent l.k) (l.k * r) r l.dst c.match-r.dst =
    elim c.match-r.branch [
      | in-2 w ↦ arm 2 w.in-2.is w.cells.result w.outputs.result w.cells.ensures w.outputs.ensures _ w.spread.ensures w.dst-is
      | in-3 w ↦ arm 3 w.in-3.is w.cells-in-3.result w.outputs-in-3.result w.cells-in-3.ensures w.outputs-in-3.ensures _ w.spread-in-3.ensures w.dst-is
      | in-4 w ↦ arm 4 w.in-4.is w.cells-in-4.result w.outputs-in-4.result w.cells-in-4.ensures w.outputs-in-4.ensures _ w.spread-in-4.ensures w.dst-is
      | in-5 w ↦ arm 5 w.in-5.is w.cells-in-5.result w.outputs-in-5.result w.cells-in-5.ensures w.outputs-in-5.ensures _ w.spread-in-5.ensures w.dst-is
      | in-7 w ↦ arm 7 w.in-7.is w.cells-in-7.result w.outputs-in-7.result w.cells-in-7.ensures w.outputs-in-7.ensures _ w.spread-in-7.ensures w.dst-is
      | in_default w ↦ arm 8 (other c.requires.0 (
        ((((tt {0}, λ (e : r ≡ 2). omega arith), λ (e : r ≡ 3). omega arith), λ (e : r ≡ 4). omega arith), λ (e : r ≡ 5). omega arith),
        λ
            (e : r ≡ 7). omega arith,
      ))
          w.cells-in_default.result w.outputs-in_default.result w.cells-in_default.ensures w.outputs-in_default.ensures _ w.spread-in_default.ensures w.dst-is
    ] in
    λ lent done. first_step r l.k _ l.dst c.match-r.dst (w lent) (l.invariant lent done)

pub returns : goal.returns
returns c = let l = c.loop-k in let e : l.k ≡ c.args.i + c.args.len = omega arith in λ lent done. rw e at (l.invariant lent done)
