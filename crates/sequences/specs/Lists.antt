-- Lists: the first element that passes a test, a list made place by place, and one pasted into another. Assumes nothing.
use Rattle.std.specs.Prelude.{ℕ, zero, suc, ◌+◌, Bool, cond, List, [], ◌∷◌, ◌++◌, length, take, drop}

-- the index of the first element that passes the test, or the length
unfoldable pub first_that : {A : Type 0} → (A → Bool) → List A → ℕ
first_that p [] = 0
first_that p (x ∷ xs) = cond (p x) 0 (suc (first_that p xs))

-- f n, f (n + 1), ..: k cells
unfoldable pub tabulate {ℓ} : {A : Type ℓ} → (k n : ℕ) → (ℕ → A) → List A
tabulate zero n f = []
tabulate (suc k) n f = f n ∷ tabulate k (suc n) f

-- a row with the words of another from `at` on
abbrev pub pasted : {A : Type 0} → List A → (at : ℕ) → List A → List A
pasted ys at xs = take at ys ++ xs ++ drop (at + length xs) ys
