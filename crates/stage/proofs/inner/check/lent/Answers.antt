-- `stage::inner::check::lent` meets its contract. Assumes nothing.
use Rattle.sequences.proofs.Basics.{sym, ◌∙◌, length}
use Rattle.refusal.proofs.Rows.{thrown, refused_on, accepted_on}
use Rattle.stage.specs.Calls.{size_rows, number_rows, size_verdict, number_verdict, stage_verdict}
use Rattle.stage.proofs.inner.check.lent.Goals as goal

pub returns : goal.returns
unfolding size_verdict number_verdict stage_verdict
returns c = let a = c.args in let rows = size_rows a.plan a.number a.width (length a.input.now) a.output (length a.twiddles.now) in
    c.numbers.ensures
    ∙ sym (accepted_on rows (number_rows a.input.now a.twiddles.now) (sym c.sizes.ensures ∙ c.in_ok-sizes.was))

pub returns-in_err-sizes : goal.returns-in_err-sizes
unfolding size_verdict stage_verdict
returns-in_err-sizes c = let a = c.args in let rows = size_rows a.plan a.number a.width (length a.input.now) a.output (length a.twiddles.now) in
    thrown _ _ c.from_residual.ensures.1 ∙ sym (refused_on rows (number_rows a.input.now a.twiddles.now) _ (sym c.sizes.ensures ∙ c.in_err-sizes.was))
