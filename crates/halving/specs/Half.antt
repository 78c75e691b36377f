-- The half list: which entry of the lent list goes or changes, and what is left. Assumes nothing.
use Rattle.std.specs.Prelude.{ℕ, suc, ◌<◌, Bool, cond, List, ◌++◌, ltb, length, take, drop, set}
use Rattle.radices.specs.Lists.{index_of}
use Rattle.halving.specs.declared.inner.halving.Halving.{Halving}
use Rattle.halving.specs.declared.inner.halving.Halving.TheVariants.{Goes, Becomes, Stays}

-- the list has a v
abbrev pub has : ℕ → List ℕ → Bool
has v xs = ltb (index_of v xs) (length xs)

-- the first 2 goes; if none, the first 8 becomes 4; if none, the first 4 becomes 2
unfoldable pub halving : List ℕ → Halving
halving xs =
    cond (has 2 xs) (Goes (index_of 2 xs))
    (cond (has 8 xs) (Becomes (index_of 8 xs) 4)
    (cond (has 4 xs) (Becomes (index_of 4 xs) 2)
    Stays))

-- the entry that goes or changes is one of the list
abbrev pub Touches : List ℕ → Halving → Type 0
Touches xs (Goes at) = at < length xs
Touches xs (Becomes at to) = at < length xs
Touches xs Stays = Unit {0}

-- the list after that
unfoldable pub halved : Halving → List ℕ → List ℕ
halved (Goes at) xs = take at xs ++ drop (suc at) xs
halved (Becomes at to) xs = set xs at to
halved Stays xs = xs

unfoldable pub half : List ℕ → List ℕ
half xs = halved (halving xs) xs
