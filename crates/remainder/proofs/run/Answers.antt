-- `remainder::run` meets its contract. Assumes nothing.
use Rattle.sequences.proofs.Basics.{sym, ◌∙◌, length, rules}
use Rattle.refusal.proofs.Rows.{deciding, settles_refused, settles_thrown, settles_accepted}
use Rattle.remainder.specs.Calls.{lent_verdict, run_verdict}
use Rattle.remainder.proofs.Verdicts.{taken}
use Rattle.remainder.proofs.run.Goals as goal

pub returns-then-not-is_planned : goal.returns-then-not-is_planned
unfolding lent_verdict run_verdict
returns-then-not-is_planned c = settles_refused _ _ _ _ (search deciding)

pub all-requires : goal.all-requires
unfolding lent_verdict run_verdict
all-requires c = let a = c.args in
    taken a.plan a.m a.w a.«data».now (length a.scratch.now) (sym c.is_planned.ensures ∙ c.if-not-is_planned.false)
    (search rules)
    (sym c.lent.ensures ∙ c.in_ok-lent.was)

pub returns : goal.returns
unfolding lent_verdict run_verdict
returns c = let told = sym c.in_ok-lent.was ∙ c.lent.ensures in
    settles_accepted _ _ _ _ (search (deciding, told)) (λ i. (c.all.ensures.data_after i, c.all.ensures.scratch_after i))

pub returns-in_err-lent : goal.returns-in_err-lent
unfolding lent_verdict run_verdict
returns-in_err-lent c = let told = sym c.in_err-lent.was ∙ c.lent.ensures in settles_thrown _ _ _ _ _ c.from_residual.ensures.1 (search (deciding, told))
