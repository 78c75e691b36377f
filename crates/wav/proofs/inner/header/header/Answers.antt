-- `header` is the flat definition, byte by byte. Assumes nothing.
use Rattle.sequences.proofs.Basics.{ℕ, List, [], ◌∷◌, ◌++◌, get_or}
use Rattle.little.specs.Numbers.{ascii}
use Rattle.wav.specs.Header.{header_of}
use Rattle.wav.proofs.inner.header.header.Goals as goal

-- the first four numbers of a list
abbrev four : List ℕ → List ℕ
four xs = get_or xs 0 0 ∷ get_or xs 1 0 ∷ get_or xs 2 0 ∷ get_or xs 3 0 ∷ []

-- the 44 bytes from the four of each number
abbrev flat : (w h b s : List ℕ) → List ℕ
flat w h b s = ascii "RIFF" ++ four w ++ ascii "WAVEfmt " ++ (16 ∷ 0 ∷ 0 ∷ 0 ∷ 1 ∷ 0 ∷ 1 ∷ 0 ∷ []) ++ four h ++ four b ++ (2 ∷ 0 ∷ 16 ∷ 0 ∷ [])
    ++ ascii "data" ++ four s

pub returns : goal.returns
unfolding header_of
returns c = λ i. flat (c.four_bytes-whole.ensures i) (c.four_bytes-hertz.ensures i) (c.four_bytes-second.ensures i) (c.four_bytes-size.ensures i)
