-- The fields of a recording's mark and of its chunks: which is at fault first, in the order of the file, each judged when it is whole. Assumes nothing.
use Rattle.std.specs.Prelude.{ℕ, ◌+◌, ◌-◌, ◌*◌, ◌%◌, Bool, not, ◌||◌, List, [], ◌∷◌, ◌++◌, eqb, ltb}
use Prim.Native.String.{String}
use Rattle.refusal.specs.Refusal.{Row, ◌⇒◌}
use Rattle.refusal.specs.declared.Refusal.TheVariants.{Wav}
use Rattle.little.specs.Numbers.{number_at, ascii}

-- the number that four letters are
abbrev pub mark : String → ℕ
mark letters = number_at 4 (ascii letters) 0

-- two numbers differ
abbrev pub is_not : (a b : ℕ) → Bool
is_not a b = not (eqb a b)

-- a rate is from 1 to 192,000
abbrev pub no_rate : ℕ → Bool
no_rate rate = eqb rate 0 || ltb 192000 rate

-- a chunk of odd size has one byte more
abbrev pub padded : ℕ → ℕ
padded size = size + size % 2

-- A chunk is seen through a window: the bytes w that stand in a file of L bytes from place `at` on, where so many are left.
module _ (w : List ℕ) (at left L : ℕ) where
  -- a field of k bytes, i bytes from there on: 17 at the file's length where it is not whole, and at its first byte where it is wrong
  abbrev pub field : (i k : ℕ) (wrong : Bool) → List Row
  field i k wrong = ltb left (i + k) ⇒ Wav L ∷ wrong ⇒ Wav (at + i) ∷ []

  -- the file's own mark: its size is its length less 8
  abbrev pub head_rows : List Row
  head_rows = field 0 4 (is_not (number_at 4 w 0) (mark "RIFF")) ++ field 4 4 (is_not (number_at 4 w 4) (L - 8)) ++ field 8 4 (is_not (number_at 4 w 8)
      (mark "WAVE"))

  -- a format: 16 bytes, PCM, one channel
  abbrev pub kind_rows : List Row
  kind_rows = field 4 4 (is_not (number_at 4 w 4) 16) ++ field 8 2 (is_not (number_at 2 w 8) 1) ++ field 10 2 (is_not (number_at 2 w 10) 1)

  -- and the rate, its bytes a second, 2 bytes a sample, 16 bits
  abbrev pub rate_rows : List Row
  rate_rows = field 12 4 (no_rate (number_at 4 w 12)) ++ field 16 4 (is_not (number_at 4 w 16) (2 * number_at 4 w 12)) ++ field 20 2 (is_not (number_at 2
      w 20) 2)
      ++ field 22 2 (is_not (number_at 2 w 22) 16)

  abbrev pub format_rows : List Row
  format_rows = kind_rows ++ rate_rows

  -- samples: of even size, and all there
  abbrev pub data_rows : List Row
  data_rows = field 4 4 (is_not (number_at 4 w 4 % 2) 0) ++ (ltb (left - 8) (number_at 4 w 4) ⇒ Wav L ∷ [])

  -- any other chunk: all there, with its pad byte
  abbrev pub other_rows : List Row
  other_rows = ltb left 8 ⇒ Wav L ∷ ltb (left - 8) (padded (number_at 4 w 4)) ⇒ Wav L ∷ []
