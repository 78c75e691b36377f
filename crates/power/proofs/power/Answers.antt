-- `power::power` meets its contract. Assumes nothing.
use Rattle.sequences.proofs.Basics.{sym, ◌∙◌, arith}
use Rattle.refusal.proofs.Rows.{refuses, grants, thrown}
use Rattle.power.proofs.Sums.{bins_told}
use Rattle.power.proofs.power.Goals as goal

pub overflow_add-hi : goal.overflow_add-hi
overflow_add-hi c = let a = c.args in let t = bins_told a.spectrum.now a.lo a.hi _ c.lent_bins.ensures c.in_ok-lent_bins.was in
    omega (arith, t.1, t.2)

pub overflow_sub-hi : goal.overflow_sub-hi
overflow_sub-hi c = let a = c.args in let t = bins_told a.spectrum.now a.lo a.hi _ c.lent_bins.ensures c.in_ok-lent_bins.was in
    omega (arith, t.0)

pub sum-requires : goal.sum-requires
sum-requires c = let a = c.args in let t = bins_told a.spectrum.now a.lo a.hi _ c.lent_bins.ensures c.in_ok-lent_bins.was in
    (omega (arith, t.0, t.1), t.2)

pub returns : goal.returns
returns c = record { answer = grants _ _ _ (sym c.in_ok-lent_bins.was ∙ c.lent_bins.ensures) c.sum.ensures }

pub returns-in_err-lent_bins : goal.returns-in_err-lent_bins
returns-in_err-lent_bins c = record { answer = thrown _ _ c.from_residual.ensures.1 ∙ refuses _ _ _ (sym c.in_err-lent_bins.was ∙ c.lent_bins.ensures) }
