-- `storing::inner::storing::pick` meets its contract. Assumes nothing.
use Rattle.sequences.proofs.Basics.{refl, arith}
use Rattle.storing.proofs.inner.storing.pick.Goals as goal

pub returns-then-r-lt7 : goal.returns-then-r-lt7
returns-then-r-lt7 c = (λ l. refl, λ l. absurd (omega (arith, c.if-r-lt7.true)))

pub returns-else-r-lt7 : goal.returns-else-r-lt7
returns-else-r-lt7 c = (λ l. absurd (omega (arith, c.if-r-lt7.false)), λ l. refl)
