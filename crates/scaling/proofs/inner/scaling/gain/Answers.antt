-- `scaling::inner::scaling::gain` meets its contract. Assumes nothing.
use Rattle.sequences.proofs.Basics.{sym, one-mul, arith}
use Rattle.scaling.proofs.Scaling.{twice_more, gain_start, gain_skip, gain_stop}
use Rattle.scaling.proofs.inner.scaling.gain.Goals as goal

pub loop-reached-init : goal.loop-reached-init
loop-reached-init c = (c.requires.0, (c.requires.1.1, (c.requires.1.0, (sym (one-mul c.args.base), gain_start c.args.target c.args.base))))

pub loop-reached-preserved : goal.loop-reached-preserved
loop-reached-preserved c = let l = c.loop-reached in let a = c.args in (
  l.invariant.0,
  (
    omega arith,
    (
      omega arith,
      (
        omega (arith, l.invariant.1.1.1.0, twice_more l.g a.base),
        gain_skip a.target a.base l.g (omega (arith, l.invariant.1.1.1.0)) (omega arith) l.invariant.1.1.1.1,
      ),
    ),
  ),
)

pub returns : goal.returns
returns c = let l = c.loop-reached in let a = c.args in sym (gain_stop a.target a.base l.g (omega (arith, l.invariant.1.1.1.0)) l.invariant.1.1.1.1)
