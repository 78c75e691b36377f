-- Numbers of several bytes, the lowest first, read at a place and as bytes; and the codes of a text. Assumes nothing.
use Rattle.std.specs.Prelude.{ℕ, zero, suc, ◌+◌, ◌*◌, ◌/◌, ◌%◌, ◌<◌, ◌≡◌, List, [], ◌∷◌, get_or}
use Prim.Native.Char.{code}
use Prim.Native.String.{String, [] as []ˢ, ◌∷◌ as ◌∷ˢ◌}

-- the number of the n bytes from i on
unfoldable pub number_at : (n : ℕ) → List ℕ → (i : ℕ) → ℕ
number_at zero bs i = 0
number_at (suc n) bs i = get_or bs i 0 + 256 * number_at n bs (i + 1)

-- each of a list's numbers is a byte
abbrev pub Bytes : List ℕ → Type 0
Bytes bs = (i : ℕ) → get_or bs i 0 < 256

-- what a call that reads a number v promises of its answer r
pub record Reads (v bound r : ℕ) : Type 0 where
  pub answer : r ≡ v
  pub small : r < bound

-- the n lowest bytes of a number
abbrev pub bytes_of : (n v : ℕ) → List ℕ
bytes_of zero v = []
bytes_of (suc n) v = v % 256 ∷ bytes_of n (v / 256)

-- the codes of a text
abbrev pub ascii : String → List ℕ
ascii []ˢ = []
ascii (c ∷ˢ s) = code c ∷ ascii s
