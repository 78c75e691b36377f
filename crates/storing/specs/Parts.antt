-- The way of outputs from the lanes to their cells: the cells written, and the places where outputs go. Assumes nothing.
use Rattle.std.specs.Prelude.{◌≡◌, List, ℕ, ◌+◌, ◌*◌, ◌/◌, ◌%◌, ◌<◌, ◌≤◌, length, Float}
use Rattle.schedule.specs.Parts as Loop
use Rattle.floats.specs.declared.complex.Complex.{Complex}
use Rattle.floats.specs.Complexes.{cell}

-- ---- cells written

-- ys' is ys with the cells g 0, .., g (n - 1) from cell `at` on
pub record Wrote (g : ℕ → Complex) (at n : ℕ) (ys ys' : List Float) : Type 0 where
  pub size : length ys' ≡ length ys
  pub cells : Loop.Wrote (λ t. t < n) (λ t. at + t) g (cell ys) (cell ys')

-- the outputs v i p of the iterations below n are in their cells
abbrev pub Done : (s r : ℕ) → (ℕ → ℕ → Complex) → List Float → ℕ → Type 0
Done s r v ys n = Loop.Done s r v (cell ys) (λ i p. i < n)

-- ---- where the outputs go

-- n iterations from i on are of one block, which lies within nd words
pub record InBlock (i n s r nd : ℕ) : Type 0 where
  pub stride : 0 < s
  pub some : 0 < r
  pub few : r ≤ 8
  pub one : i % s + n ≤ s
  pub room : 2 * (i / s * (s * r) + s * r) ≤ nd

-- M iterations are whole blocks of s, and have room in nd words
pub record Blocks (M s r nd : ℕ) : Type 0 where
  pub stride : 0 < s
  pub some : 0 < r
  pub few : r ≤ 8
  pub whole : M ≡ M / s * s
  pub room : 2 * (M * r) ≤ nd

-- so many iterations from i on are in lanes, to be stored
pub record Stored (i M len s r nd : ℕ) : Type 0 where
  pub blocks : Blocks M s r nd
  pub within : i + len ≤ M
  pub lanes : len ≤ 16

-- so many cells are stored at once; 0 where it is found anew each time
abbrev pub Batch : ℕ → Type 0
Batch e = (e ≤ 4) × (e ≡ 3 → ⊥)

-- where that is 2 or 4, it divides n
abbrev pub Even : (e n : ℕ) → Type 0
Even e n = (e ≡ 1 → ⊥) × (e ≡ 2 → n % 2 ≡ 0) × (e ≡ 4 → n % 4 ≡ 0)

-- .. the iterations in lanes and the stride
pub record Evenly (e len s : ℕ) : Type 0 where
  pub batch : Batch e
  pub lanes : Even e len
  pub stride : Even e s

-- the first output of iteration i goes to column `col` of the block that starts at `block`
pub record Placed (e i s r block col : ℕ) : Type 0 where
  pub starts : block ≡ i / s * (s * r)
  pub column : col ≡ i % s
  pub even : Even e col

-- of the len iterations from i on those below lane j are stored, and the next goes to column `col` of the block that starts at `block`
pub record Waiting (e i len s r block col j : ℕ) : Type 0 where
  pub fits : j ≤ len
  pub even : Even e j
  pub placed : Placed e (i + j) s r block col
