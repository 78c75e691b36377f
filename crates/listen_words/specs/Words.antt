-- The numbers that words stand for. Assumes nothing.
use Rattle.std.specs.Prelude.{ℕ, ◌+◌, ◌-◌, ◌*◌, cond, not, ◌||◌, List, [], ◌∷◌, eqb, ltb, length, get_or, take, drop, Option, Some, None}
use Rattle.std.specs.Char.{is_ascii_digit}

-- the digits of a word behind a number, or none where one is no digit
unfoldable pub digits_from : (value : ℕ) → List ℕ → Option ℕ
digits_from value [] = Some value
digits_from value (b ∷ bs) = cond (is_ascii_digit b) (digits_from (10 * value + (b - 48)) bs) None

-- the number of a word of one to nine digits
abbrev pub number_of : List ℕ → Option ℕ
number_of word = cond (eqb (length word) 0 || ltb 9 (length word)) None (digits_from 0 word)

-- whole ones and tenths together, below 1,600
abbrev pub joined_of : Option ℕ → Option ℕ → Option ℕ
joined_of None tenths = None
joined_of (Some whole) None = None
joined_of (Some whole) (Some tenths) = cond (ltb 1599 whole || ltb 9 tenths) None (Some (10 * whole + tenths))

-- the tenths of a word of digits, of which the last may stand behind a point
abbrev pub tenths_of : List ℕ → Option ℕ
tenths_of word =
    cond (ltb (length word) 3 || not (eqb (get_or word (length word - 2) 0) 46)) (joined_of (number_of word) (Some 0))
    (joined_of (number_of (take (length word - 2) word)) (number_of (drop (length word - 1) word)))

-- so many tenths below full scale, which is 16,000
abbrev pub below_of : Option ℕ → Option ℕ
below_of None = None
below_of (Some tenths) = cond (ltb 15999 tenths) None (Some (16000 - tenths))

-- so many tenths above it
abbrev pub above_of : Option ℕ → Option ℕ
above_of None = None
above_of (Some tenths) = cond (ltb 15999 tenths) None (Some (16000 + tenths))

-- the level of a word that says decibels, with one decimal or none
abbrev pub level_of : List ℕ → Option ℕ
level_of [] = None
level_of (b ∷ bs) = cond (eqb b 45) (below_of (tenths_of bs)) (above_of (tenths_of (b ∷ bs)))
