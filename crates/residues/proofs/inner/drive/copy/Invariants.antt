-- `residues::inner::drive::copy` meets its contract. Assumes nothing.
use Rattle.sequences.proofs.Basics.{◌≡◌, ◌-◌, ◌≤◌, length, get_or, ◌<◌, ℕ}
use Rattle.residues.proofs.inner.drive.copy.Given as goal

abbrev pub invariant-loop-i : goal.invariant-loop-i
invariant-loop-i l = (length l.dst ≡ length l.src) × ((l.i ≤ length l.src) × ((q : ℕ) → q < l.i → get_or l.dst q 0 ≡ get_or l.src q 0))
