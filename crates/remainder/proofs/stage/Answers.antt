-- `remainder::stage` meets its contract. Assumes nothing.
use Rattle.sequences.proofs.Basics.{sym, ◌∙◌, length, rules}
use Rattle.refusal.proofs.Rows.{deciding, settles_refused, settles_thrown, settles_accepted}
use Rattle.remainder.specs.Calls.{lent_verdict, stage_verdict}
use Rattle.remainder.proofs.Verdicts.{taken}
use Rattle.remainder.proofs.stage.Goals as goal

pub returns-then-not-is_planned : goal.returns-then-not-is_planned
unfolding lent_verdict stage_verdict
returns-then-not-is_planned c = settles_refused _ _ _ _ (search deciding)

pub returns-then-number-plan : goal.returns-then-number-plan
unfolding lent_verdict stage_verdict
returns-then-number-plan c = settles_refused _ _ _ _ (search deciding)

pub work-requires : goal.work-requires
unfolding lent_verdict stage_verdict
work-requires c = let a = c.args in (
  taken a.plan a.m a.w a.input.now (length a.other.now) (sym c.is_planned.ensures ∙ c.if-not-is_planned.false)
      (search rules)
      (sym c.lent.ensures ∙ c.in_ok-lent.was),
  c.if-number-plan.false,
)

pub returns : goal.returns
unfolding lent_verdict stage_verdict
returns c = let told = sym c.in_ok-lent.was ∙ c.lent.ensures in
    settles_accepted _ _ _ _ (search (deciding, told)) c.work.ensures

pub returns-in_err-lent : goal.returns-in_err-lent
unfolding lent_verdict stage_verdict
returns-in_err-lent c = let told = sym c.in_err-lent.was ∙ c.lent.ensures in settles_thrown _ _ _ _ _ c.from_residual.ensures.1 (search (deciding, told))
