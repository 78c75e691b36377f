-- `scan::inner::scan::passed_to_end` meets its contract. Assumes nothing.
use Rattle.sequences.proofs.Basics.{rules}
use Rattle.scan.proofs.Scan.{pass_end}
use Rattle.scan.proofs.inner.scan.passed_to_end.Goals as goal

pub returns : goal.returns
returns c = let a = c.args in (
  search rules,
  λ q. pass_end a.b a.xs.now _ 64 c.passed-i.ensures.0 (search rules) (search rules)
      (c.all_within.ensures c.if-not-all_within.false q) (c.passed-i.ensures.1 q),
)
