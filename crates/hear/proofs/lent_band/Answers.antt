-- `hear::lent_band` meets its contract. Assumes nothing.
use Rattle.sequences.proofs.Basics.{refl, sym, ◌∙◌}
use Rattle.refusal.proofs.Rows.{deciding, thrown}
use Rattle.hear.specs.Hear.{hear_verdict}
use Rattle.hear.proofs.Verdicts.{band_after}
use Rattle.hear.proofs.lent_band.Goals as goal

pub returns-then-hi-lo : goal.returns-then-hi-lo
unfolding hear_verdict
returns-then-hi-lo c = band_after _ _ _ _ _ _ (sym c.in_ok-lent_samples.was ∙ c.lent_samples.ensures) (search deciding)

pub returns-then-hi-tables : goal.returns-then-hi-tables
unfolding hear_verdict
returns-then-hi-tables c = band_after _ _ _ _ _ _ (sym c.in_ok-lent_samples.was ∙ c.lent_samples.ensures) (search deciding)

pub returns : goal.returns
unfolding hear_verdict
returns c = band_after _ _ _ _ _ _ (sym c.in_ok-lent_samples.was ∙ c.lent_samples.ensures) (search deciding)

pub returns-in_err-lent_samples : goal.returns-in_err-lent_samples
unfolding hear_verdict
returns-in_err-lent_samples c = thrown _ _ c.from_residual.ensures.1 ∙ band_after _ _ _ _ _ _ (sym c.in_err-lent_samples.was ∙ c.lent_samples.ensures) refl
