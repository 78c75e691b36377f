-- `float_stage::inner::lent::fetch` meets its contract. Assumes nothing.
use Rattle.sequences.proofs.Basics.{refl, ◌∙◌, arith}
use Rattle.kernel.specs.Floats.{lent_at}
use Rattle.float_stage.proofs.Widths.{fetched_step, unlike}
use Rattle.float_stage.proofs.inner.lent.fetch.Goals as goal

pub loop-j-init : goal.loop-j-init
loop-j-init c = (refl, λ j q lj l lq. absurd (omega arith))

pub fetch_one-requires : goal.fetch_one-requires
fetch_one-requires c = (rw c.loop-j.invariant.0 c.requires.0, c.requires.1 c.in-Apart.is, omega arith, omega arith)

pub loop-j-preserved : goal.loop-j-preserved
loop-j-preserved c = let a = c.args in let l = c.loop-j in let one = c.fetch_one in (
  one.auto.t ∙ l.invariant.0,
  fetched_step a.i l.j a.r
      (lent_at a.m a.r a.w a.tw.now) l.t _ one.ensures l.invariant.1,
)

pub returns-in-Beside : goal.returns-in-Beside
returns-in-Beside c = λ e. absurd (unlike c.in-Beside.is e)

pub returns-after-loop-j : goal.returns-after-loop-j
returns-after-loop-j c = λ e j q lj l lq. c.loop-j.invariant.1 j q (omega arith) l lq
