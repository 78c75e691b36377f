-- `float_stage::inner::lent::laid_out` meets its contract. Assumes nothing.
use Rattle.sequences.proofs.Basics.{refl, inl, inr, ⊎_elim, ne_eqb}
use Rattle.float_stage.proofs.Widths.{two_left, unlike}
use Rattle.float_stage.proofs.inner.lent.laid_out.Goals as goal

pub returns-then-w-eq4 : goal.returns-then-w-eq4
returns-then-w-eq4 c = (λ e. ⊎_elim (λ x. inl x) (λ x. inr x.1) c.if-w-eq4.either, λ e. absurd (unlike refl e))

pub returns-else-w-eq4 : goal.returns-else-w-eq4
returns-else-w-eq4 c = (
  λ e. absurd (unlike e refl),
  λ e. two_left _ c.requires c.if-w-eq4.false.0 (ne_eqb _ 4 c.if-w-eq4.false.1),
)
