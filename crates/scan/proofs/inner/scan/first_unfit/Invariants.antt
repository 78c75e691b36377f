-- `scan::inner::scan::first_unfit` meets its contract. Assumes nothing.
use Rattle.sequences.proofs.Basics.{◌≡◌, ℕ, ◌≤◌, ◌-◌, length}
use Rattle.scan.specs.Scan.{bound, Passed}
use Rattle.scan.proofs.inner.scan.first_unfit.Given as goal

abbrev pub invariant-loop-i : goal.invariant-loop-i
invariant-loop-i l = (l.i ≤ length l.xs) × ((k : ℕ) → l.b ≡ bound k → Passed l.b l.xs l.i)

abbrev pub decreases-loop-i : goal.decreases-loop-i
decreases-loop-i l = length l.xs - l.i
