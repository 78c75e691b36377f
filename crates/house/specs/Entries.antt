-- The unrounded cosine and sine of an index of the house table, times 2 ^ 60, but for its whole quarters. Assumes nothing.
use Rattle.std.specs.Prelude.{ℕ, ◌-◌, ◌/◌, ◌%◌, cond, ltb}
use Rattle.house.specs.declared.inner.entries.Entry.{Entry}
use Rattle.house.specs.Rule.{cosine, sine}

-- entry b of the table after q quarters, or with cosine and sine exchanged
unfoldable pub plain : (q b : ℕ) → Entry
plain q b = record { quarter = q; cosine = cosine b; sine = sine b }

unfoldable pub exchanged : (q b : ℕ) → Entry
exchanged q b = record { quarter = q; cosine = sine b; sine = cosine b }

-- q quarters and a rest b below 1,680: above 840 it takes (s, c) of 1,680 - b
unfoldable pub mirrored : (q b : ℕ) → Entry
mirrored q b = cond (ltb 840 b) (exchanged q (1680 - b)) (plain q b)

-- an index is a quarter number and a rest
unfoldable pub entry_of : ℕ → Entry
entry_of index = mirrored (index / 1680) (index % 1680)
