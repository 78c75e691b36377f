-- Lines of words and numbers, in ASCII, and their bytes as a text. Assumes nothing.
use Rattle.std.specs.Prelude.{ℕ, zero, suc, ◌+◌, ◌/◌, ◌%◌, ◌-◌, cond, List, [], ◌∷◌, ◌++◌, ltb, length, replicate}
use Prim.Native.String.{String}
use Rattle.little.specs.Numbers.{ascii}

-- the last k decimal digits of a number, or all that it has
unfoldable pub last_digits : ℕ → ℕ → List ℕ
last_digits zero n = []
last_digits (suc k) n = cond (ltb n 10) ((48 + n) ∷ []) (last_digits k (n / 10) ++ ((48 + n % 10) ∷ []))

-- a number in decimal, which has at most n + 1 digits
unfoldable pub decimal : ℕ → List ℕ
unfolding last_digits
decimal n = last_digits (suc n) n

-- words, each after a blank
abbrev pub spaced : List (List ℕ) → List ℕ
spaced [] = []
spaced (w ∷ ws) = 32 ∷ (w ++ spaced ws)

-- the blanks that bring a number in decimal to a width
unfoldable pub indent : (width n : ℕ) → List ℕ
indent width n = replicate (width - length (decimal n)) 32

-- a number in decimal, behind blanks where it is shorter than a width
unfoldable pub right : (width n : ℕ) → List ℕ
right width n = indent width n ++ decimal n

-- a line: its name, its words, and the line end
abbrev pub line : String → List (List ℕ) → List ℕ
line name words = ascii name ++ (spaced words ++ (10 ∷ []))
