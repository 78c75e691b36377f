-- `kernel::inner::kernel::twiddled` meets its contract. Assumes nothing.
use Rattle.sequences.proofs.Basics.{◌≡◌, ℕ, ◌+◌, ◌-◌, ◌*◌, ◌<◌, false, length}
use Rattle.floats.specs.declared.complex.Complex.{Complex}
use Rattle.floats.specs.Complexes.{cell}
use Rattle.kernel.proofs.Kernel.{Turned}
use Rattle.kernel.proofs.inner.kernel.twiddled.Given as goal

abbrev pub invariant-loop-q : goal.invariant-loop-q
invariant-loop-q l = (length l.c ≡ 8) × ((lent : ℕ → ℕ → Complex) → ((k : ℕ) → 0 < k → k < l.r → cell l.tw (l.at + (k - 1) * l.apart) ≡ lent l.i k)
    → Turned false l.m l.src lent l.i l.r l.c l.q)
