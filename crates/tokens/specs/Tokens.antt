-- From the bytes that were read to a list of radices. Assumes nothing.
use Rattle.std.specs.Prelude.{ℕ, ◌-◌, Bool, cond, ◌||◌, List, [], ◌∷◌, ◌++◌, map, eqb, take}
use Rattle.radices.specs.Lists.{is_radix}

-- the bytes that part tokens: blank, tab, line feed and carriage return
unfoldable pub is_blank : ℕ → Bool
is_blank b = eqb b 32 || eqb b 9 || eqb b 10 || eqb b 13

-- a token before the others, unless it is empty
abbrev pub ended : List ℕ → List (List ℕ) → List (List ℕ)
ended [] rest = rest
ended (b ∷ t) rest = (b ∷ t) ∷ rest

-- the tokens of a text whose first token has begun with t
unfoldable pub tokens_from : List ℕ → List ℕ → List (List ℕ)
unfolding is_blank
tokens_from t [] = ended t []
tokens_from t (b ∷ bs) = cond (is_blank b) (ended t (tokens_from [] bs)) (tokens_from (t ++ (b ∷ [])) bs)

-- the tokens of a text
unfoldable pub tokens : List ℕ → List (List ℕ)
unfolding tokens_from
tokens bs = tokens_from [] bs

-- the radix of which a byte is the ASCII digit, or 0, which is no radix
unfoldable pub digit_value : ℕ → ℕ
digit_value b = cond (is_radix (b - 48)) (b - 48) 0

-- the radix that a token is: one digit, or no radix
unfoldable pub radix_of : List ℕ → ℕ
unfolding digit_value
radix_of [] = 0
radix_of (b ∷ []) = digit_value b
radix_of (b ∷ (a ∷ t)) = 0

-- the list of radices that a text gives
unfoldable pub radices : List ℕ → List ℕ
unfolding tokens radix_of
radices bs = map radix_of (tokens bs)

-- how many bytes are read
abbrev pub most : ℕ
most = 4096

-- the bytes that are read of an input
abbrev pub first_read : List ℕ → List ℕ
first_read input = take most input
