-- Stages in turn, from one buffer to the other and back, and which buffer is meant. Assumes nothing.
use Rattle.std.specs.Prelude.{ℕ, zero, suc, ◌%◌, Bool, true, false, List, eqb}
use Rattle.counts.specs.declared.Buffer.{Buffer}
use Rattle.counts.specs.declared.Buffer.TheVariants.{Data, Scratchpad}

-- Data, then Scratchpad
abbrev pub Two : Type 0 → Type 0
Two A = List A × List A

-- that of the buffer so named
abbrev pub held_in {ℓ} : {A : Type ℓ} → Buffer → A × A → A
held_in Data b = b.0
held_in Scratchpad b = b.1

module _ {A : Type 0} where
  -- a stage g, from Data to Scratchpad or back
  abbrev pub across : Bool → (List A → List A) → Two A → Two A
  across true g b = (b.0, g b.0)
  across false g b = (g b.1, b.1)

  -- what stage calls 0 to k - 1, written alternately, leave
  unfoldable pub alternated : (ℕ → List A → List A) → ℕ → Two A → Two A
  alternated f zero b = b
  alternated f (suc k) b = across (eqb (k % 2) 0) (f k) (alternated f k b)

  -- a single stage is copied back
  abbrev pub copied_by : Bool → Two A → Two A
  copied_by true b = (b.1, b.1)
  copied_by false b = b

  -- what a run of so many stages leaves
  unfoldable pub driven : (ℕ → List A → List A) → ℕ → Two A → Two A
  driven f count b = copied_by (eqb count 1) (alternated f count b)
