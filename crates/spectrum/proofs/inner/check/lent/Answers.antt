-- `spectrum::inner::check::lent` meets its contract. Assumes nothing.
use Rattle.sequences.proofs.Basics.{sym, ◌∙◌, length}
use Rattle.refusal.proofs.Rows.{thrown, refused_on, accepted_on}
use Rattle.spectrum.specs.Calls.{size_rows, number_rows, size_verdict, number_verdict, lent_verdict}
use Rattle.spectrum.proofs.inner.check.lent.Goals as goal

pub returns : goal.returns
unfolding size_verdict number_verdict lent_verdict
returns c = λ k e.
    let a = c.args in let rows = size_rows a.tables.plan a.tables.width a.is_input a.is_output a.scratch (length a.tables.stage_twiddles.now)
    (length a.tables.end_twiddles.now) in
    c.numbers.ensures k e
    ∙ sym (accepted_on rows (number_rows k a.input.now a.tables.stage_twiddles.now a.tables.end_twiddles.now)
    (sym c.sizes.ensures ∙ c.in_ok-sizes.was))

pub returns-in_err-sizes : goal.returns-in_err-sizes
unfolding size_verdict lent_verdict
returns-in_err-sizes c = λ k e.
    let a = c.args in let rows = size_rows a.tables.plan a.tables.width a.is_input a.is_output a.scratch (length a.tables.stage_twiddles.now)
    (length a.tables.end_twiddles.now) in
    thrown _ _ c.from_residual.ensures.1 ∙ sym (refused_on rows (number_rows k a.input.now a.tables.stage_twiddles.now a.tables.end_twiddles.now) _
    (sym c.sizes.ensures
    ∙ c.in_err-sizes.was))
