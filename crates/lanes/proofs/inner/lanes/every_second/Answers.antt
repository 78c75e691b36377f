-- `lanes::inner::lanes::every_second` meets its contract. Assumes nothing.
use Rattle.sequences.proofs.Basics.{◌≡◌, ◌+◌, ◌*◌, ◌%◌, arith}
use Rattle.lanes.proofs.Writes.{every_none, every_step, every_end}
use Rattle.lanes.proofs.inner.lanes.every_second.Goals as goal

pub loop-n-init : goal.loop-n-init
loop-n-init c = let a = c.args in let first : a.from + 2 * 0 ≡ a.from = omega arith in rw first (every_none _ _ _ _ _ (omega arith))

pub loop-n-preserved : goal.loop-n-preserved
loop-n-preserved c =
    let a = c.args in
    let l = c.loop-n in
    let p = a.from + 2 * l.n in
    let parity : p % 2 ≡ a.from = omega arith in
    let next : a.from + 2 * (l.n + 1) ≡ p + 2 = omega arith in
    rw next
    (every_step _ _ _ _ _ p l.to.re l.to.im _ parity (omega (arith, l.invariant.size_re)) (omega (arith, l.invariant.size_im)) l.invariant c.output-z.ensures)

pub returns : goal.returns
returns c =
    let a = c.args in
    let p = a.from + 2 * c.loop-n.n in
    let parity : p % 2 ≡ a.from = omega arith in
    every_end _ _ _ _ _ p a.r parity (omega arith) (omega arith) c.loop-n.invariant
