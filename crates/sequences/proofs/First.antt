-- Laws of the first element that passes a test: step by step, of two lists joined, and where none passes. Assumes nothing.
use Rattle.sequences.proofs.Basics.{◌≡◌, refl, sym, ap, ◌∙◌, ℕ, zero, suc, ◌+◌, ◌<◌, ◌≤◌, add-zero, zero-add, suc-add, lt_of_not-le, le_of_suc-le-suc}
use Rattle.sequences.proofs.Basics.{add-one, arith, dec_le, Bool, true, false, cond, List, [], ◌∷◌, ◌++◌, length, get_or, drop, drop_of_length-le}
use Rattle.sequences.proofs.Basics.{length-append, drop-cons}
use Rattle.sequences.specs.Lists.{first_that}

module _ {A : Type 0} (d : A) (p : A → Bool) (xs : List A) (i : ℕ) where
  -- the first i do not pass, and neither does the next
  pub first_skip : i < length xs → p (get_or xs i d) ≡ false → first_that p xs ≡ i + first_that p (drop i xs)
      → first_that p xs ≡ i + 1 + first_that p (drop (i + 1) xs)
  unfolding first_that
  first_skip h t e = e ∙ ap (λ (l : List A). i + first_that p l) (drop-cons xs i d h) ∙ simp (t, add-one) (omega arith)

  -- the first i do not pass, and the next does
  pub first_here : i < length xs → p (get_or xs i d) ≡ true → first_that p xs ≡ i + first_that p (drop i xs) → first_that p xs ≡ i
  unfolding first_that
  first_here h t e = e ∙ ap (λ (l : List A). i + first_that p l) (drop-cons xs i d h) ∙ simp (t, add-zero)

-- none passes
pub first_none : {A : Type 0} (p : A → Bool) (xs : List A) (i : ℕ) → i ≤ length xs → length xs ≤ i
    → first_that p xs ≡ i + first_that p (drop i xs) → first_that p xs ≡ length xs
unfolding first_that
first_none {A} p xs i g h e = e ∙ ap (λ (l : List A). i + first_that p l) (drop_of_length-le xs h) ∙ omega arith

pub first_most : {A : Type 0} (p : A → Bool) (xs : List A) → first_that p xs ≤ length xs
unfolding first_that
first_most p [] = omega arith
first_most p (x ∷ xs) = go (p x) (first_most p xs)
  where
    go : (t : Bool) → first_that p xs ≤ length xs → cond t 0 (suc (first_that p xs)) ≤ suc (length xs)
    go true h = omega arith
    go false h = omega arith

-- the same test at each element, the same answer
pub first_same : {A : Type 0} (p q : A → Bool) (xs : List A) → ((x : A) → p x ≡ q x) → first_that p xs ≡ first_that q xs
unfolding first_that
first_same p q [] h = refl
first_same p q (x ∷ xs) h = rw (h x, first_same p q xs h)

-- ---- two lists joined: the first of the one, or where none of it passes that of the other

pub joined_first : {A : Type 0} (p : A → Bool) (xs ys : List A) → first_that p xs < length xs → first_that p (xs ++ ys) ≡ first_that p xs
unfolding first_that
joined_first p [] ys l = absurd (omega arith)
joined_first p (x ∷ xs) ys l = go (p x) l (λ m. joined_first p xs ys m)
  where
    go : (b : Bool) → cond b 0 (suc (first_that p xs)) < suc (length xs) → (first_that p xs < length xs → first_that p (xs ++ ys) ≡ first_that p xs)
        → cond b 0 (suc (first_that p (xs ++ ys))) ≡ cond b 0 (suc (first_that p xs))
    go true l e = refl
    go false l e = ap suc (e (omega arith))

pub joined_second : {A : Type 0} (p : A → Bool) (xs ys : List A) → length xs ≤ first_that p xs → first_that p (xs ++ ys) ≡ length xs + first_that p ys
unfolding first_that
joined_second p [] ys l = sym (zero-add (first_that p ys))
joined_second p (x ∷ xs) ys l = go (p x) l (λ m. joined_second p xs ys m)
  where
    go : (b : Bool) → suc (length xs) ≤ cond b 0 (suc (first_that p xs)) → (length xs ≤ first_that p xs → first_that p (xs ++ ys) ≡ length xs + first_that p ys)
        → cond b 0 (suc (first_that p (xs ++ ys))) ≡ suc (length xs) + first_that p ys
    go true l e = absurd (omega arith)
    go false l e = ap suc (e (omega arith)) ∙ sym (suc-add (length xs) (first_that p ys))

-- where none of both passes, none of either does
pub joined_none : {A : Type 0} (p : A → Bool) (xs ys : List A) → length (xs ++ ys) ≤ first_that p (xs ++ ys)
    → (length xs ≤ first_that p xs) × (length ys ≤ first_that p ys)
joined_none p xs ys l = pick (dec_le (length xs) (first_that p xs))
  where
    pick : Dec (length xs ≤ first_that p xs) → (length xs ≤ first_that p xs) × (length ys ≤ first_that p ys)
    pick (yes m) = (m, omega (arith, length-append xs ys, joined_second p xs ys m))
    pick (no m) = absurd (omega (arith, length-append xs ys, joined_first p xs ys (lt_of_not-le m)))

-- ---- where none passes

-- each fails
pub none_passes : {A : Type 0} (d : A) (p : A → Bool) (xs : List A) → length xs ≤ first_that p xs → (i : ℕ) → i < length xs → p (get_or xs i d) ≡ false
unfolding first_that
none_passes d p [] l i li = absurd (omega arith)
none_passes d p (x ∷ xs) l i li = go (p x) refl l i li (λ m j lj. none_passes d p xs m j lj)
  where
    go : (b : Bool) → p x ≡ b → suc (length xs) ≤ cond b 0 (suc (first_that p xs)) → (i : ℕ) → i < suc (length xs)
        → (length xs ≤ first_that p xs → (j : ℕ) → j < length xs → p (get_or xs j d) ≡ false) → p (get_or (x ∷ xs) i d) ≡ false
    go true e l i li rest = absurd (omega arith)
    go false e l zero li rest = e
    go false e l (suc i) li rest = rest (le_of_suc-le-suc l) i (le_of_suc-le-suc li)

-- and where each fails, none does
pub each_fails : {A : Type 0} (d : A) (p : A → Bool) (xs : List A) → ((i : ℕ) → i < length xs → p (get_or xs i d) ≡ false) → length xs ≤ first_that p xs
unfolding first_that
each_fails d p [] each = omega arith
each_fails d p (x ∷ xs) each =
    let rest : length xs ≤ first_that p xs = each_fails d p xs (λ i li. each (suc i) (omega arith)) in
    let here : p x ≡ false = each 0 (omega arith) in
    rw here (omega arith)
