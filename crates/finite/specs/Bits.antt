-- The bits of floats: which 32 bits a word of memory may hold for a float. A finite float has one such pattern; a NaN has many. Assumes nothing.
use Rattle.std.specs.Prelude.{ℕ, ◌^◌, ◌≤◌, ◌<◌, ◌≡◌, List, [], ◌∷◌, Float}
use Rattle.std.specs.Float.{binary32}
use Rattle.std.specs.Float.Ieee.{of_bits}
use Rattle.plan.specs.declared.Record.{Record}
use Rattle.scratch.specs.Scratch.{data_of, pad_of}
use Rattle.transform.specs.Transforms.{Slices}

-- these bits are read as this float
pub record Holds (b : ℕ) (x : Float) : Type 0 where
  pub word : b < 2 ^ 32
  pub value : of_bits binary32 b ≡ x

-- word by word
unfoldable pub HoldAll : List ℕ → List Float → Type 0
HoldAll [] [] = Unit {0}
HoldAll [] (x ∷ xs) = ⊥
HoldAll (b ∷ bs) [] = ⊥
HoldAll (b ∷ bs) (x ∷ xs) = Holds b x × HoldAll bs xs

-- whatever bits two memories hold for these rows, they hold the same
abbrev pub SameBits : List Float → List Float → Type 0
SameBits xs ys = (bs cs : List ℕ) → HoldAll bs xs → HoldAll cs ys → bs ≡ cs

-- the words that a direction writes: the output, Data and, where there are at least so many stages, the Scratchpad
abbrev pub SameWritten : (stages : ℕ) → Record → Slices → Slices → Type 0
SameWritten stages p s s' =
    SameBits s.0 s'.0 × SameBits (data_of p.half s.1) (data_of p.half s'.1)
    × (stages ≤ p.count → SameBits (pad_of p.half s.1) (pad_of p.half s'.1))
