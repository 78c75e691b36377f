-- Laws of the window: samples weighed one by one. Assumes nothing.
use Rattle.sequences.proofs.Basics.{◌≡◌, refl, ℕ, suc, ◌+◌, ◌<◌, ◌≤◌, add-one, le_refl, ◌⊎◌, inl, inr, List, [], ◌∷◌, ◌++◌, append_assoc}
use Rattle.sequences.proofs.Basics.{append-nil, length, get_or, set, take, drop, drop-cons, take-suc-set, take-append-drop, take_all, drop_of_length-le}
use Rattle.std.proofs.Common.{drop-set-lt}
use lib.Ieee.{Float, nan, binary32, mul}
use Rattle.listening.specs.Block.{weighed}

-- with no weights nothing is weighed
weighed_none : (xs : List Float) → weighed xs [] ≡ xs
unfolding weighed
weighed_none [] = refl
weighed_none (x ∷ xs) = refl

-- one sample more is weighed
pub weighed_next : (xs ws : List Float) (i : ℕ) → i < length xs → i < length ws → (ys : List Float)
    → ys ≡ set xs i (mul binary32 (get_or xs i nan) (get_or ws i nan))
    → take (i + 1) ys ++ weighed (drop (i + 1) ys) (drop (i + 1) ws) ≡ take i xs ++ weighed (drop i xs) (drop i ws)
unfolding weighed
weighed_next xs ws i l m ys e =
    let v = mul binary32 (get_or xs i nan) (get_or ws i nan) in
    rw (e, add-one, take-suc-set xs i v l, drop-set-lt (suc i) xs i v (le_refl (suc i)), drop-cons xs i nan l, drop-cons ws i nan m, append_assoc)

-- where samples or weights end, all is weighed
pub weighed_all : (xs ws : List Float) (i : ℕ) → (length xs ≤ i) ⊎ (length ws ≤ i) → xs ≡ take i xs ++ weighed (drop i xs) (drop i ws)
unfolding weighed
weighed_all xs ws i (inl l) = rw (drop_of_length-le xs l, append-nil, take_all i xs l)
weighed_all xs ws i (inr l) = rw (drop_of_length-le ws l, weighed_none, take-append-drop)
