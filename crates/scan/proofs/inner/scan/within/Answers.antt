-- `scan::inner::scan::within` meets its contract. Assumes nothing.
use Rattle.scan.proofs.Scan.{first_decides, second_decides}
use Rattle.scan.proofs.inner.scan.within.Goals as goal

pub returns-then-x-b : goal.returns-then-x-b
returns-then-x-b c = second_decides _ _ c.if-x-b.true

pub returns-else-x-b : goal.returns-else-x-b
returns-else-x-b c = first_decides _ _ c.if-x-b.false
