-- The table that the theorems speak of: the house table's own. Assumes nothing.
use Rattle.std.specs.Prelude.{ℕ, List, get_or}
use Rattle.house.specs.House.{cosines, sines}

-- its cosines and sines
abbrev pub house_cosines : List ℕ
house_cosines = cosines

abbrev pub house_sines : List ℕ
house_sines = sines

-- entry b of each
abbrev pub house_cosine : ℕ → ℕ
house_cosine b = get_or house_cosines b 0

abbrev pub house_sine : ℕ → ℕ
house_sine b = get_or house_sines b 0
