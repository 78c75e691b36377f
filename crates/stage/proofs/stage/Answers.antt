-- `stage::stage` meets its contract. Assumes nothing.
use Rattle.sequences.proofs.Basics.{sym, ◌∙◌, length}
use Rattle.refusal.proofs.Rows.{settles_thrown, settles_accepted}
use Rattle.stage.proofs.Verdicts.{stage_workable}
use Rattle.stage.proofs.stage.Goals as goal

pub work-requires : goal.work-requires
work-requires c = let a = c.args in stage_workable a.plan a.number a.width a.input.now (length a.output.now) a.twiddles.now _ c.lent.ensures
    c.in_ok-lent.was

pub returns : goal.returns
returns c = settles_accepted _ _ _ _ (sym c.in_ok-lent.was ∙ c.lent.ensures) c.work.ensures

pub returns-in_err-lent : goal.returns-in_err-lent
returns-in_err-lent c = settles_thrown _ _ _ _ _ c.from_residual.ensures.1 (sym c.in_err-lent.was ∙ c.lent.ensures)
