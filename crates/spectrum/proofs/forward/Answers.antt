-- `spectrum::forward` meets its contract. Assumes nothing.
use Rattle.sequences.proofs.Basics.{sym, ◌∙◌, length}
use Rattle.refusal.proofs.Rows.{settles_thrown, settles_accepted}
use Rattle.spectrum.proofs.Verdicts.{forwardable}
use Rattle.spectrum.proofs.forward.Goals as goal

pub forward-requires : goal.forward-requires
forward-requires c = let a = c.args in let t = a.tables in forwardable t.plan t.width a.input.now (length a.output.now) (length a.scratch.now)
    t.stage_twiddles.now t.end_twiddles.now _ c.lent_samples.ensures c.in_ok-lent_samples.was

pub returns : goal.returns
returns c = let made = c.forward.ensures in settles_accepted _ _ _ _ (sym c.in_ok-lent_samples.was ∙ c.lent_samples.ensures)
    (λ i. (made.output_after i, made.scratch_after i))

pub returns-in_err-lent_samples : goal.returns-in_err-lent_samples
returns-in_err-lent_samples c = settles_thrown _ _ _ _ _ c.from_residual.ensures.1 (sym c.in_err-lent_samples.was ∙ c.lent_samples.ensures)
