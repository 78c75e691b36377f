-- Which numbers are taken, and the first that is not. Assumes nothing.
use Rattle.std.specs.Prelude.{ℕ, ◌+◌, ◌*◌, ◌^◌, ◌<◌, ◌≡◌, Bool, true, false, not, ◌&&◌, List, T, leb, drop, get_or, Float, pos}
use Rattle.std.specs.Float.{nan, inf, fin, binary32}
use Rattle.std.specs.Float.Ieee.{fits as ieee_fits, le, mul, neg, up, down}
use Rattle.sequences.specs.Lists.{first_that}

-- finite, and at most 2 ^ k in magnitude: a finite number is m * 2 ^ e in size, which is m * up e over down e
unfoldable pub fits : (k : ℕ) → Float → Bool
fits k nan = false
fits k (inf s) = false
fits k (fin s m e) = leb (m * up e) (2 ^ k * down e)

-- numbers of bins, and those that a stage is given, are at most 2 ^ 48
abbrev pub ceiling : ℕ
ceiling = 48

-- the index of the first number at which the test fails, or the length
abbrev pub first_not : (Float → Bool) → List Float → ℕ
first_not f xs = first_that (λ x. not (f x)) xs

-- the index of the first number that is not finite or above 2 ^ k in magnitude, or the length
unfoldable pub first_unfit : (k : ℕ) → List Float → ℕ
first_unfit k xs = first_not (fits k) xs

-- 2 ^ k
abbrev pub bound : ℕ → Float
bound k = fin false 1 (pos k)

-- at most b in magnitude as a program tests it, false at a NaN
abbrev pub within : (b x : Float) → Bool
within b x = le x b && le (neg b) x

-- the first i numbers are within b, so that the scan may go on from there
abbrev pub Passed : (b : Float) → List Float → (i : ℕ) → Type 0
Passed b xs i = first_not (within b) xs ≡ i + first_not (within b) (drop i xs)

-- an f32 whose square is at most that of b is within b
abbrev pub SquaresTell : (b : Float) → Type 0
SquaresTell b = (x : Float) → T (ieee_fits binary32 x) → le (mul binary32 x x) (mul binary32 b b) ≡ true → within b x ≡ true

-- the n numbers from i on are within b
abbrev pub AllWithin : (b : Float) → List Float → (i n : ℕ) → Type 0
AllWithin b xs i n = (k : ℕ) → k < n → within b (get_or xs (i + k) nan) ≡ true
