-- `kernel::inner::kernel::cells` meets its contract. Assumes nothing.
use Rattle.sequences.proofs.Basics.{◌≡◌, ℕ, ◌<◌, true, get_or, length}
use Rattle.floats.specs.declared.complex.Complex.{Complex}
use Rattle.floats.specs.Complexes.{blank}
use Rattle.kernel.specs.Parts.{read_of}
use Rattle.kernel.proofs.inner.kernel.cells.Given as goal

abbrev pub invariant-loop-q : goal.invariant-loop-q
invariant-loop-q l = (length l.c ≡ 8) × ((lent : ℕ → ℕ → Complex) (k : ℕ) → k < l.q → get_or l.c k blank ≡ read_of true l.m l.src lent l.i k)
