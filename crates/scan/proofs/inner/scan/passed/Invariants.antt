-- `scan::inner::scan::passed` meets its contract. Assumes nothing.
use Rattle.sequences.proofs.Basics.{◌*◌}
use Rattle.scan.specs.Scan.{SquaresTell, Passed}
use Rattle.scan.proofs.inner.scan.passed.Given as goal

abbrev pub invariant-loop-block : goal.invariant-loop-block
invariant-loop-block l = SquaresTell l.b → Passed l.b l.xs (64 * l.block)
