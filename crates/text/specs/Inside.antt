-- The array and the length that hold a text. Assumes nothing.
use Rattle.std.specs.Prelude.{ℕ, ◌-◌, ◌≤◌, ◌≡◌, List, ◌++◌, length, take, replicate}
use Rattle.text.specs.declared.Text.TheInside.{Inside}

-- the bytes in use
abbrev pub used : Inside → List ℕ
used t = take t.len t.bytes

-- they are at most as many as there is room for, and the others are 0
pub record IsText (t : Inside) : Type 0 where
  pub room : t.len ≤ 256
  pub long : length t.bytes ≡ 256
  pub clear : t.bytes ≡ take t.len t.bytes ++ replicate (256 - t.len) 0

-- this array and this length
abbrev pub held : List ℕ → ℕ → Inside
held bytes len = record { bytes = bytes; len = len }
