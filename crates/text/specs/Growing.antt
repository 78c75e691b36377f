-- A text that grows at its end. Assumes nothing.
use Rattle.std.specs.Prelude.{ℕ, ◌+◌, ◌≤◌, ◌≡◌, List, [], ◌∷◌, ◌++◌, length}
use Rattle.text.specs.Lines.{spaced}

-- a line whose name is given by its bytes
abbrev pub line_of : List ℕ → List (List ℕ) → List ℕ
line_of name words = name ++ (spaced words ++ (10 ∷ []))

-- r has no bytes
pub record Starts (r : List ℕ) : Type 0 where
  pub text : r ≡ []
  pub none : length r ≡ 0

-- r is t with the bytes s behind it, at most k of them
pub record Adds (t s : List ℕ) (k : ℕ) (r : List ℕ) : Type 0 where
  pub text : r ≡ t ++ s
  pub short : length r ≤ length t + k

-- r is the text of these bytes, and they fit
pub record Holds (xs r : List ℕ) : Type 0 where
  pub text : r ≡ xs
  pub fits : length xs ≤ 256
