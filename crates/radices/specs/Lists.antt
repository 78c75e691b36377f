-- Lists of radices: which bytes are radices, products, first places, counts. Assumes nothing.
use Rattle.std.specs.Prelude.{ℕ, suc, ◌-◌, ◌*◌, Bool, true, false, cond, not, ◌&&◌, ◌||◌, List, [], ◌∷◌, ◌++◌, eqb, ltb, length, replicate}
use Rattle.sequences.specs.Lists.{first_that}
use Rattle.radices.specs.declared.Radices.{Radices}

-- a byte that is a radix
unfoldable pub is_radix : ℕ → Bool
is_radix b = eqb b 2 || eqb b 3 || eqb b 4 || eqb b 5 || eqb b 7 || eqb b 8

-- the product of a list, 1 of an empty one
unfoldable pub product : List ℕ → ℕ
product [] = 1
product (b ∷ bs) = b * product bs

-- the index of the first byte that is no radix, or the length
unfoldable pub first_bad : List ℕ → ℕ
first_bad xs = first_that (λ b. not (is_radix b)) xs

-- the index of the first v, or the length
unfoldable pub index_of : ℕ → List ℕ → ℕ
index_of v xs = first_that (λ b. eqb b v) xs

-- the largest length
abbrev pub largest : ℕ
largest = 8192

-- the first index where the running product, p before the list, is above the largest length, or the length of the list
unfoldable pub first_over : ℕ → List ℕ → ℕ
first_over p [] = 0
first_over p (b ∷ bs) = cond (ltb largest (p * b)) 0 (suc (first_over (p * b) bs))

-- how many elements are v
unfoldable pub count_of : ℕ → List ℕ → ℕ
count_of v [] = 0
count_of v (b ∷ bs) = cond (eqb b v) (suc (count_of v bs)) (count_of v bs)

-- a list in an array of 13, unused entries 0
unfoldable pub padded : List ℕ → List ℕ
padded xs = xs ++ replicate (13 - length xs) 0

-- the same list
unfoldable pub eq_list : List ℕ → List ℕ → Bool
eq_list [] [] = true
eq_list [] (y ∷ ys) = false
eq_list (x ∷ xs) [] = false
eq_list (x ∷ xs) (y ∷ ys) = eqb x y && eq_list xs ys

-- a list with its count, in an array
unfoldable pub listed : List ℕ → Radices
listed xs = record { count = length xs; entries = padded xs }
