-- `storing::inner::storing::batch` meets its contract. Assumes nothing.
use Rattle.storing.proofs.Batches.{even_le, even_self}
use Rattle.storing.proofs.inner.storing.batch.Goals as goal

pub returns-then-even-gt0 : goal.returns-then-even-gt0
returns-then-even-gt0 c = let a = c.args in let p = c.requires in (
  p.0,
  c.if-even-gt0.true,
  even_le a.even a.a p.0 p.1 c.if-even-gt0.true p.3,
  even_le a.even a.b p.0 p.2 c.if-even-gt0.true p.4,
  even_self a.even a.a p.1,
)
