-- Reading tokens byte by byte: what is kept of a token, and each step. Assumes nothing.
use Rattle.std.specs.Prelude.{ℕ, ◌+◌, ◌*◌, ◌≤◌, ◌≡◌, Bool, true, false, List, length, take, set}
use Rattle.tokens.specs.Tokens.{is_blank, digit_value, radices}
use Rattle.tokens.specs.declared.inner.tokens.Token.{Token}
use Rattle.tokens.specs.declared.inner.tokens.Token.TheVariants.{Nothing, One, More}
use Rattle.tokens.specs.declared.inner.tokens.Reading.{Reading}

-- a token with one byte more
abbrev pub grown : Token → ℕ → Token
grown Nothing b = One b
grown (One a) b = More
grown More b = More

-- a token counts as one byte at least
abbrev pub size : Token → ℕ
size Nothing = 0
size (One a) = 1
size More = 1

-- no more bytes than these were read
abbrev pub room : Reading → ℕ
room s = 2 * s.count + size s.token

-- the token ends as this radix
abbrev pub pushed : Reading → ℕ → Reading
pushed s v = record { list = set s.list s.count v; count = s.count + 1; token = Nothing }

-- so for each case of the token
abbrev pub ended_by : Token → Reading → Reading
ended_by Nothing s = s
ended_by (One b) s = pushed s (digit_value b)
ended_by More s = pushed s 0

-- the token ends, if there is one
abbrev pub ended_token : Reading → Reading
ended_token s = ended_by s.token s

-- the token goes on
abbrev pub continued : Reading → ℕ → Reading
continued s b = record { list = s.list; count = s.count; token = grown s.token b }

-- a blank ends the token
abbrev pub step_by : Bool → Reading → ℕ → Reading
step_by true s b = ended_token s
step_by false s b = continued s b

-- one byte more
abbrev pub stepped : Reading → ℕ → Reading
stepped s b = step_by (is_blank b) s b

-- the radices that ended are those of the text
pub record ReadsRadices (bs : List ℕ) (r : Reading) : Type 0 where
  pub fits : r.count ≤ length r.list
  pub answer : take r.count r.list ≡ radices bs
