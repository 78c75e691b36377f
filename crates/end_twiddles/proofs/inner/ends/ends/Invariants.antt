-- `end_twiddles::inner::ends::ends` meets its contract. Assumes nothing.
use Rattle.sequences.proofs.Basics.{◌≡◌, ◌+◌, ◌<◌, ℕ, length}
use Rattle.sequences.specs.Pairs.{pair_at}
use lib.Ieee.{nan}
use Rattle.end_twiddles.specs.Ends.{end_twiddle}
use Rattle.end_twiddles.proofs.inner.ends.ends.Given as goal

abbrev pub invariant-loop-k : goal.invariant-loop-k
invariant-loop-k l = (length l.out ≡ length l.initial.out) × ((p : ℕ) → p < l.k → pair_at nan l.out p ≡ end_twiddle l.direction l.n (p + 1))
