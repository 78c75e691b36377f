-- Complex arithmetic in binary32, each operation rounded once, and complex cells in a flat list: cell n is words 2 * n and 2 * n + 1.
-- Assumes nothing.
use Rattle.std.specs.Prelude.{ℕ, ◌≡◌, List, [], ◌∷◌, Float}
use Rattle.std.specs.Float.{nan, binary32}
use Rattle.std.specs.Float.Ieee.{add, sub, mul, neg}
use Rattle.sequences.specs.Pairs.{pair_at, put_pair}
use Rattle.turn.specs.Turns.{words_of}
use Rattle.turn.specs.declared.Turn.{Turn}
use Rattle.turn.specs.declared.Turn.TheVariants.{Zero, Quarter, Half, ThreeQuarter, General}
use Rattle.floats.specs.declared.complex.Complex.{Complex}

abbrev pub cx : Float → Float → Complex
cx a b = record { re = a; im = b }

-- a cell past the end of a list
abbrev pub blank : Complex
blank = cx nan nan

abbrev pub plus : Complex → Complex → Complex
plus x y = cx (add binary32 x.re y.re) (add binary32 x.im y.im)

abbrev pub minus : Complex → Complex → Complex
minus x y = cx (sub binary32 x.re y.re) (sub binary32 x.im y.im)

-- in full: four products, a difference and a sum, each rounded
abbrev pub times : Complex → Complex → Complex
times x y =
    cx (sub binary32 (mul binary32 x.re y.re) (mul binary32 x.im y.im))
    (add binary32 (mul binary32 x.re y.im) (mul binary32 x.im y.re))

abbrev pub conjugate : Complex → Complex
conjugate x = cx x.re (neg x.im)

-- whole quarters exchange and flip signs, any other turn multiplies in full
abbrev pub turned_by : Turn → Complex → Complex
turned_by Zero x = x
turned_by Quarter x = cx x.im (neg x.re)
turned_by Half x = cx (neg x.re) (neg x.im)
turned_by ThreeQuarter x = cx (neg x.im) x.re
turned_by (General c s) x = times x (cx c s)

-- ---- cells

abbrev pub cell : List Float → ℕ → Complex
cell xs n = let w = pair_at nan xs n in cx w.0 w.1

abbrev pub put_cell : List Float → ℕ → Complex → List Float
put_cell xs n z = put_pair xs n (z.re, z.im)

-- the cells of a flat list, and back
unfoldable pub paired : List Float → List Complex
paired [] = []
paired (x ∷ []) = []
paired (x ∷ (y ∷ xs)) = cx x y ∷ paired xs

unfoldable pub flat : List Complex → List Float
flat [] = []
flat (z ∷ zs) = z.re ∷ (z.im ∷ flat zs)

-- ---- what the calls promise of their answer r

abbrev pub GivesWords : Turn → (r : Complex) → Type 0
GivesWords t r = (r.re, r.im) ≡ words_of t

abbrev pub Adds : (x y r : Complex) → Type 0
Adds x y r = r ≡ plus x y

abbrev pub Subtracts : (x y r : Complex) → Type 0
Subtracts x y r = r ≡ minus x y

abbrev pub Multiplies : (x y r : Complex) → Type 0
Multiplies x y r = r ≡ times x y

abbrev pub Conjugates : (x r : Complex) → Type 0
Conjugates x r = r ≡ conjugate x

abbrev pub TurnsBy : Turn → (x r : Complex) → Type 0
TurnsBy t x r = r ≡ turned_by t x
