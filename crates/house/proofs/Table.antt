-- Two lists side by side whose neighbours are in order, by one test that is computed. Assumes nothing.
use Rattle.sequences.proofs.Basics.{ℕ, zero, suc, ◌<◌, ◌≤◌, le_of_suc-le-suc, not-suc-le-zero, Bool, true, false, ◌&&◌, List, [], ◌∷◌, T, leb, leb→le, length}
use Rattle.sequences.proofs.Basics.{get_or}
use lib.Ieee.Fits.{and_l, and_r}

-- pairs of which the first is at most the second
abbrev pub Ordered : List (ℕ × ℕ) → Type 0
Ordered [] = Unit {0}
Ordered (p ∷ ps) = (p.0 ≤ p.1) × Ordered ps

abbrev pub ordered : List (ℕ × ℕ) → Bool
ordered [] = true
ordered (p ∷ ps) = leb p.0 p.1 && ordered ps

pub ordered_is : (ps : List (ℕ × ℕ)) → T (ordered ps) → Ordered ps
ordered_is [] t = tt
ordered_is (p ∷ ps) t = (leb→le p.0 p.1 (and_l (leb p.0 p.1) (ordered ps) t), ordered_is ps (and_r (leb p.0 p.1) (ordered ps) t))

-- what is asked of an entry (c, s) and the next
abbrev pub Neighbours : Type 0
Neighbours = (c s c' s' : ℕ) → List (ℕ × ℕ)

-- it holds at each entry and the next, from (c, s) on
abbrev pub holds : Neighbours → (c s : ℕ) → List ℕ → List ℕ → Bool
holds f c s [] ys = true
holds f c s (x ∷ xs) [] = false
holds f c s (x ∷ xs) (y ∷ ys) = ordered (f c s x y) && holds f x y xs ys

holds_from : (f : Neighbours) (c s : ℕ) (xs ys : List ℕ) → T (holds f c s xs ys) → (k : ℕ) → k < length xs
    → Ordered (f (get_or (c ∷ xs) k 0) (get_or (s ∷ ys) k 0) (get_or xs k 0) (get_or ys k 0))
holds_from f c s [] ys t k h = absurd (not-suc-le-zero h)
holds_from f c s (x ∷ xs) [] t k h = absurd t
holds_from f c s (x ∷ xs) (y ∷ ys) t zero h = ordered_is (f c s x y) (and_l (ordered (f c s x y)) (holds f x y xs ys) t)
holds_from f c s (x ∷ xs) (y ∷ ys) t (suc k) h = holds_from f x y xs ys (and_r (ordered (f c s x y)) (holds f x y xs ys) t) k (le_of_suc-le-suc h)

-- the same of two whole lists
abbrev pub everywhere : Neighbours → List ℕ → List ℕ → Bool
everywhere f [] ss = true
everywhere f (c ∷ cs) [] = false
everywhere f (c ∷ cs) (s ∷ ss) = holds f c s cs ss

pub everywhere_at : (f : Neighbours) (cs ss : List ℕ) → T (everywhere f cs ss) → (k : ℕ) → suc k < length cs
    → Ordered (f (get_or cs k 0) (get_or ss k 0) (get_or cs (suc k) 0) (get_or ss (suc k) 0))
everywhere_at f [] ss t k h = absurd (not-suc-le-zero h)
everywhere_at f (c ∷ cs) [] t k h = absurd t
everywhere_at f (c ∷ cs) (s ∷ ss) t k h = holds_from f c s cs ss t k (le_of_suc-le-suc h)
