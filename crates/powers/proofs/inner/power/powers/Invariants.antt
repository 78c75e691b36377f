-- `powers::inner::power::powers` meets its contract. Assumes nothing.
use Rattle.sequences.proofs.Basics.{◌≡◌, ℕ, ◌^◌, ◌%◌, ◌<◌, length, get_or}
use Rattle.powers.proofs.inner.power.powers.Given as goal

abbrev pub invariant-loop-t : goal.invariant-loop-t
invariant-loop-t l = (length l.all ≡ 8) × ((k : ℕ) → k < l.t → get_or l.all k 0 ≡ l.w ^ k % l.m)
