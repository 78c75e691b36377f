-- `powers::inner::power::powers` meets its contract. Assumes nothing.
use Rattle.sequences.proofs.Basics.{◌≡◌, refl, ◌∙◌, ◌+◌, ◌-◌, arith, length-set}
use Rattle.sequences.proofs.Tables.{set_more}
use Rattle.powers.proofs.Powers.{power_none, next_power}
use Rattle.powers.proofs.inner.power.powers.Goals as goal

pub loop-t-init : goal.loop-t-init
loop-t-init c = (refl, λ k l. let e : k ≡ 0 = omega arith in rw e (power_none c.args.w c.args.m c.requires.0))

pub loop-t-preserved : goal.loop-t-preserved
loop-t-preserved c =
    let l = c.loop-t in
    let a = c.args in
    let e : l.t - 1 + 1 ≡ l.t = omega arith in (
      rw length-set l.invariant.0,
      set_more _ l.all l.t _ 0 (omega arith) (next_power a.w a.m (l.t - 1) _ (l.invariant.1 (l.t - 1) (omega arith)) ∙ rw e) l.invariant.1,
    )
