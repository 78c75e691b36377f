-- Cells whose words pass a test. Assumes nothing.
use Rattle.sequences.proofs.Basics.{◌≡◌, subst, ℕ, ◌+◌, ◌*◌, ◌/◌, ◌%◌, ◌<◌, ◌≤◌, arith, ℕ_discrete, Bool, true, List, length, get_or}
use lib.Ieee.{Float, nan}
use Rattle.scan.specs.Scan.{first_not}
use Rattle.scan.proofs.Scan.{all_pass, none_fails}
use Rattle.floats.specs.declared.complex.Complex.{Complex}
use Rattle.floats.specs.Complexes.{cell}

-- both words of a cell pass
abbrev pub BothPass : (Float → Bool) → Complex → Type 0
BothPass f z = (f z.re ≡ true) × (f z.im ≡ true)

-- those of each cell do
pub cell_passes : (f : Float → Bool) (xs : List Float) → length xs ≤ first_not f xs → (n : ℕ) → 2 * n + 1 < length xs → BothPass f (cell xs n)
cell_passes f xs l n ln = (all_pass f xs l (2 * n) (omega arith), all_pass f xs l (2 * n + 1) ln)

-- and where those of each cell do there is none
pub no_cell_fails : (f : Float → Bool) (xs : List Float) (m : ℕ) → length xs ≡ 2 * m → ((n : ℕ) → n < m → BothPass f (cell xs n)) → length xs ≤ first_not f xs
no_cell_fails f xs m e each = none_fails f xs (λ i li. pick i li (ℕ_discrete (i % 2) 0))
  where
    pick : (i : ℕ) → i < length xs → Dec (i % 2 ≡ 0) → f (get_or xs i nan) ≡ true
    pick i li (yes z) = subst (λ (k : ℕ). f (get_or xs k nan) ≡ true) {x = 2 * (i / 2)} {y = i} (omega arith) (each (i / 2) (omega arith)).0
    pick i li (no z) = subst (λ (k : ℕ). f (get_or xs k nan) ≡ true) {x = 2 * (i / 2) + 1} {y = i} (omega arith) (each (i / 2) (omega arith)).1
