-- What the loops of a stage make of its cells, for any arithmetic and any way to read a cell. Assumes nothing.
use Rattle.std.specs.Prelude.{◌≡◌, ℕ, ◌%◌, ◌<◌}
use Rattle.schedule.specs.Stage.{index}

-- the cells c' have g t at `at t` for every t of T, and elsewhere what c has
pub record Wrote {A : Type 0} (T : ℕ → Type 0) (at : ℕ → ℕ) (g : ℕ → A) (c c' : ℕ → A) : Type 0 where
  pub inside : (t : ℕ) → T t → c' (at t) ≡ g t
  pub outside : (k : ℕ) → ((t : ℕ) → T t → k ≡ at t → ⊥) → c' k ≡ c k

-- t is below n and of parity b
abbrev pub Every : (b n t : ℕ) → Type 0
Every b n t = (t < n) × (t % 2 ≡ b)

-- of radix r at stride s, the outputs v i p that D tells are in their cells
abbrev pub Done : {A : Type 0} → (s r : ℕ) → (ℕ → ℕ → A) → (ℕ → A) → (ℕ → ℕ → Type 0) → Type 0
Done s r v c D = (i p : ℕ) → D i p → p < r → c (index s r i p) ≡ v i p
