-- `float_stage::inner::lent::lent` meets its contract. Assumes nothing.
use Rattle.sequences.proofs.Basics.{refl}
use Rattle.float_stage.proofs.Widths.{rest, unlike}
use Rattle.float_stage.proofs.inner.lent.lent.Goals as goal

pub returns-in-Beside : goal.returns-in-Beside
returns-in-Beside c = let a = c.args in (λ e. rest a.from a.tw.now, λ e. absurd (unlike c.in-Beside.is e))

pub returns-in-Apart : goal.returns-in-Apart
returns-in-Apart c = (λ e. absurd (unlike e c.in-Apart.is), λ e. refl)
