-- Laws of what a search answers: that of `position`, for the first element that passes a test. Assumes nothing.
use Rattle.sequences.proofs.Basics.{◌≡◌, refl, ap, ℕ, arith, Bool, true, false, cond, List, length, ltb, ltb-true, ltb-false}
use Rattle.std.proofs.Common.{Option, Some, None}
use Rattle.std.specs.List.{position, position_or_len}
use Rattle.std.proofs.lemmas.List.Recursion.{is_position_or_len}
use Rattle.sequences.specs.Lists.{first_that}
use Rattle.sequences.specs.Found.{Found}

-- the first that passes, as std has it
pub first_position : {A : Type 0} (p : A → Bool) (xs : List A) → first_that p xs ≡ position_or_len p xs
unfolding first_that
first_position p xs = is_position_or_len (first_that p) p refl (λ x ys. ap (λ (n : ℕ). cond (p x) 0 n) (omega arith)) xs

-- `position` finds it
pub found_position : {A : Type 0} (p : A → Bool) (xs : List A) (r : Option ℕ) → r ≡ position p xs → Found (length xs) (first_that p xs) r
found_position p xs r e = rw (e, first_position p xs) (go (ltb (position_or_len p xs) (length xs)) refl)
  where
    go : (t : Bool) → ltb (position_or_len p xs) (length xs) ≡ t
        → Found (length xs) (position_or_len p xs) (cond t (Some (position_or_len p xs)) None)
    go true q = (refl, ltb-true _ _ q)
    go false q = ltb-false _ _ q
