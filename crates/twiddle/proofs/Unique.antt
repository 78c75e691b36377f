-- Two outcomes that meet the promise are equal. Assumes nothing.
use Rattle.sequences.proofs.Basics.{◌≡◌, ℕ}
use Rattle.refusal.specs.Refusal.{Verdict}
use Rattle.refusal.proofs.Unique.{Settles_one}
use Rattle.plan.specs.declared.Record.{Record}
use Rattle.twiddle.specs.Calls.{Slices, Fills}
use Rattle.end_twiddles.specs.declared.inner.ends.Direction.{Direction}

pub Fills_one : (d : Direction) (p : Record) (W : ℕ) (before : Slices) {r s : Verdict} {xs ys : Slices} → Fills d p W before r xs → Fills d p W before s ys
    → (r ≡ s) × (xs ≡ ys)
Fills_one d p W before a b = Settles_one a b
