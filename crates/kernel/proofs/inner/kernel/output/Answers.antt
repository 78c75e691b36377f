-- `kernel::inner::kernel::output` meets its contract. Assumes nothing.
use Rattle.sequences.proofs.Basics.{◌≡◌, refl, ap, ◌∙◌, ◌+◌, ◌-◌, ◌*◌, ◌≤◌, mod-lt, mul-le-mul, arith}
use Rattle.schedule.specs.Stage.{plain, total}
use Rattle.kernel.proofs.Kernel.{total_next}
use Rattle.kernel.proofs.inner.kernel.output.Goals as goal

pub loop-q-init : goal.loop-q-init
unfolding total
loop-q-init c = refl

pub overflow_mul-p : goal.overflow_mul-p
overflow_mul-p c = let p : c.args.p ≤ 8 = omega arith in let q : c.loop-q.q ≤ 8 = omega arith in
    omega (arith, mul-le-mul p q)

pub kernel_turn-requires : goal.kernel_turn-requires
kernel_turn-requires c = record { radix = c.requires.0; below = mod-lt (c.args.p * c.loop-q.q) {m = c.args.r} (omega arith) }

pub loop-q-preserved : goal.loop-q-preserved
loop-q-preserved c = let l = c.loop-q in let e : l.q + 1 - 1 ≡ l.q = omega arith in
    rw e (total_next _ _ _ l.q _ _ _ _ (omega arith) l.invariant c.kernel_turn.ensures c.turned.ensures c.add-acc.ensures)

pub returns : goal.returns
unfolding plain
returns c = let e : c.loop-q.q - 1 ≡ c.args.r - 1 = omega arith in
    c.loop-q.invariant ∙ ap (total _ _ _ _) e
