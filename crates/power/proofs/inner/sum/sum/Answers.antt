-- `power::inner::sum::sum` meets its contract. Assumes nothing.
use Rattle.sequences.proofs.Basics.{◌≡◌, refl, ap, ◌∙◌, arith}
use Rattle.power.specs.Power.{power_from}
use Rattle.power.proofs.Sums.{power_next}
use Rattle.power.proofs.inner.sum.sum.Goals as goal

pub loop-k-init : goal.loop-k-init
unfolding power_from
loop-k-init c = refl

pub loop-k-preserved : goal.loop-k-preserved
loop-k-preserved c = let l = c.loop-k in let a = c.args in power_next a.spectrum.now a.lo l.k l.sum _ l.invariant c.get-z.ensures

pub returns : goal.returns
returns c = let l = c.loop-k in let a = c.args in let e : l.k ≡ a.count = omega (arith, l.auto.k-end, c.loop-k-test.false) in
    l.invariant ∙ ap (power_from a.spectrum.now a.lo) e
