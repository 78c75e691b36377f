-- `lanes::inner::lanes::lanes` meets its contract. Assumes nothing.
use Rattle.sequences.proofs.Basics.{◌≡◌, ap, arith, refl, List}
use lib.Ieee.{Float}
use Rattle.radices.specs.Lists.{is_radix}
use Rattle.kernel.proofs.Kernel.{sized_at}
use Rattle.lanes.specs.declared.inner.lanes.Outputs.{Outputs}
use Rattle.lanes.proofs.Arms.{later_other, slot_room, kept_none, low_arm, high_arm}
use Rattle.lanes.proofs.inner.lanes.lanes.Goals as goal
use Rattle.lanes.proofs.inner.lanes.lanes.Goals.{in-3, in-4, in-5, in-7, in_default}

-- the two arrays
abbrev real : Outputs → List Float
real o = o.re

abbrev imaginary : Outputs → List Float
imaginary o = o.im

pub loop-j-init : goal.loop-j-init
loop-j-init g c = let a = c.args in (
  record { size_ra = omega arith; size_ia = omega arith; size_rb = omega arith; size_ib = omega arith },
  kept_none
      g.row.N a.i a.len a.m a.r a.src.now a.tw.now a.low.now.re a.low.now.im a.high.now.re a.high.now.im,
)

pub read-requires-in_default : goal.read-requires-in_default
unfolding is_radix
read-requires-in_default g c =
    let p = c.requires in let r = c.args.r in
    let e : r ≡ 8 =
    later_other p.0 p.5 ((((tt {0}, λ (e : r ≡ 3). omega arith), λ (e : r ≡ 4). omega arith), λ (e : r ≡ 5). omega arith), λ (e : r ≡ 7). omega arith) in
    (sized_at 8 e p.0, omega arith, omega arith, rw e at (slot_room g.row.N r c.loop-j.j c.args.len _ (omega arith) p.2 p.4))

pub save-requires-in_default : goal.save-requires-in_default
unfolding is_radix
save-requires-in_default g c = (refl, omega arith, omega arith, omega arith)

pub loop-j-preserved : goal.loop-j-preserved
loop-j-preserved g c =
    let a = c.args in let l = c.loop-j in let p = c.requires in
    let low = low_arm g.row.N a.i a.len l.j a.m a.r a.src.now a.tw.now l.low.re l.low.im l.high.re l.high.im l.invariant.0 l.invariant.1 (omega arith)
    (omega arith) in
    let high = high_arm g.row.N a.i a.len l.j a.m a.r a.src.now a.tw.now l.low.re l.low.im l.high.re l.high.im l.invariant.0 l.invariant.1 (omega arith)
    (omega arith) in
    elim c.match-r.branch [
      | in-3 w ↦ low 3 w.in-3.is _ _ _ _ _ _ _ (omega arith) (omega arith) (w.read.ensures, w.save.ensures) (ap real w.low-is) (ap imaginary w.low-is)
          (ap real w.high-is) (ap imaginary w.high-is)
      | in-4 w ↦ low 4 w.in-4.is _ _ _ _ _ _ _ (omega arith) (omega arith) (w.read-in-4.ensures, w.save-in-4.ensures) (ap real w.low-is)
          (ap imaginary w.low-is) (ap real w.high-is) (ap imaginary w.high-is)
      | in-5 w ↦ low 5 w.in-5.is _ _ _ _ _ _ _ (omega arith) (omega arith) (w.read-in-5.ensures, w.save-in-5.ensures) (ap real w.low-is)
          (ap imaginary w.low-is) (ap real w.high-is) (ap imaginary w.high-is)
      | in-7 w ↦ high 7 w.in-7.is _ _ _ _ _ _ _ (omega arith) (omega arith) (w.read-in-7.ensures, w.save-in-7.ensures) (ap real w.low-is)
          (ap imaginary w.low-is) (ap real w.high-is) (ap imaginary w.high-is)
      | in_default w ↦ high 8 (later_other p.0 p.5 (
        (
          ((tt {0}, λ (e : a.r ≡ 3). omega arith), λ (e : a.r ≡ 4). omega arith),
          λ (e : a.r ≡ 5). omega arith,
        ),
        λ (e : a.r ≡ 7). omega arith,
      )) _ _ _ _ _ _ _ (omega arith) (omega arith)
          (w.read-in_default.ensures, w.save-in_default.ensures) (ap real w.low-is) (ap imaginary w.low-is) (ap real w.high-is) (ap imaginary w.high-is)
    ]

pub returns : goal.returns
returns g c = let l = c.loop-j in let e : l.j ≡ c.args.len = omega arith in
    (l.invariant.0, rw e at l.invariant.1)
