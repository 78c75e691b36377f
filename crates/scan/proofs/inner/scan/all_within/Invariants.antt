-- `scan::inner::scan::all_within` meets its contract. Assumes nothing.
use Rattle.sequences.proofs.Basics.{◌≡◌, true}
use Rattle.scan.specs.Scan.{SquaresTell, AllWithin}
use Rattle.scan.proofs.inner.scan.all_within.Given as goal

abbrev pub invariant-loop-k : goal.invariant-loop-k
invariant-loop-k l = l.all ≡ true → SquaresTell l.b → AllWithin l.b l.xs l.i l.k
