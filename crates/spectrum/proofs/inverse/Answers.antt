-- `spectrum::inverse` meets its contract. Assumes nothing.
use Rattle.sequences.proofs.Basics.{refl, sym, ◌∙◌, length}
use lib.Ieee.{of_bits}
use Rattle.refusal.proofs.Rows.{settles_thrown, settles_accepted}
use Rattle.spectrum.proofs.Verdicts.{invertible}
use Rattle.spectrum.proofs.inverse.Goals as goal

pub inverse-requires : goal.inverse-requires
unfolding of_bits
inverse-requires c = let a = c.args in invertible a.tables.plan a.tables.width _ _ (length a.input.now) (length a.output.now)
    (length a.scratch.now) 48 a.input.now
    a.tables.stage_twiddles.now a.tables.end_twiddles.now _ c.is_bins-is_input.ensures refl
    (c.lent.ensures 48 refl) c.in_ok-lent.was

pub returns : goal.returns
unfolding of_bits
returns c = let made = c.inverse.ensures in let told = rw c.is_bins-is_input.ensures at (c.lent.ensures 48 refl) in
    settles_accepted _ _ _ _ (sym c.in_ok-lent.was ∙ told) (λ i. (made.output_after i, made.scratch_after i))

pub returns-in_err-lent : goal.returns-in_err-lent
unfolding of_bits
returns-in_err-lent c = let told = rw c.is_bins-is_input.ensures at (c.lent.ensures 48 refl) in
    settles_thrown _ _ _ _ _ c.from_residual.ensures.1 (sym c.in_err-lent.was ∙ told)
