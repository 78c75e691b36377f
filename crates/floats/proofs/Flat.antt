-- A flat list and its cells, those of a part of it, and one cell written.
-- Assumes nothing.
use Rattle.sequences.proofs.Basics.{◌≡◌, refl, sym, ap, ap₂, ◌∙◌, ℕ, zero, suc, ◌+◌, ◌*◌, ◌<◌, arith, ◌≢◌, List, [], ◌∷◌, ◌++◌, length, get_or, take, drop}
use Rattle.sequences.proofs.Basics.{get_or-take, get_or-drop}
use Rattle.sequences.proofs.Pairs.{put_here, put_still, pair_before, pair_after}
use Rattle.sequences.proofs.Pairs as Pairs
use lib.Ieee.{Float, nan}
use Rattle.floats.specs.declared.complex.Complex.{Complex}
use Rattle.floats.specs.Complexes.{cx, blank, cell, put_cell, paired, flat}

-- a pair of words as a cell
abbrev as_cell : Float × Float → Complex
as_cell w = cx w.0 w.1

pub get_paired : (xs : List Float) (n : ℕ) → 2 * n + 1 < length xs → get_or (paired xs) n blank ≡ cell xs n
unfolding paired
get_paired [] n l = absurd (omega arith)
get_paired (x ∷ []) n l = absurd (omega arith)
get_paired (x ∷ (y ∷ xs)) zero l = refl
get_paired (x ∷ (y ∷ xs)) (suc n) l =
    let odd : 2 * suc n + 1 ≡ suc (suc (2 * n + 1)) = omega arith in
    let even : 2 * suc n ≡ suc (suc (2 * n)) = omega arith in
    rw (odd, even) (get_paired xs n (omega arith))

pub length_paired : (h : ℕ) (xs : List Float) → length xs ≡ 2 * h → length (paired xs) ≡ h
unfolding paired
length_paired h [] e = omega arith
length_paired h (x ∷ []) e = absurd (omega arith)
length_paired zero (x ∷ (y ∷ xs)) e = absurd (omega arith)
length_paired (suc h) (x ∷ (y ∷ xs)) e = ap suc (length_paired h xs (omega arith))

pub flat_paired : (h : ℕ) (xs : List Float) → length xs ≡ 2 * h → flat (paired xs) ≡ xs
unfolding paired flat
flat_paired h [] e = refl
flat_paired h (x ∷ []) e = absurd (omega arith)
flat_paired zero (x ∷ (y ∷ xs)) e = absurd (omega arith)
flat_paired (suc h) (x ∷ (y ∷ xs)) e = ap (λ (l : List Float). x ∷ (y ∷ l)) (flat_paired h xs (omega arith))

pub length_flat : (zs : List Complex) → length (flat zs) ≡ 2 * length zs
unfolding flat
length_flat [] = refl
length_flat (z ∷ zs) = omega (arith, length_flat zs)

pub paired_flat : (zs : List Complex) → paired (flat zs) ≡ zs
unfolding paired flat
paired_flat [] = refl
paired_flat (z ∷ zs) = ap (λ (l : List Complex). z ∷ l) (paired_flat zs)

-- a cell of cells written out
pub cell_flat : (zs : List Complex) (k : ℕ) → k < length zs → cell (flat zs) k ≡ get_or zs k blank
cell_flat zs k l = sym (get_paired (flat zs) k (omega (arith, length_flat zs))) ∙ ap (λ (us : List Complex). get_or us k blank) (paired_flat zs)

-- ---- the cells of the beginning and of the end of a list

pub cell_front : (xs ys : List Float) (j : ℕ) → 2 * j + 1 < length xs → cell (xs ++ ys) j ≡ cell xs j
cell_front xs ys j l = ap as_cell (pair_before nan xs ys j l)

pub cell_back : (xs ys : List Float) (n j : ℕ) → length xs ≡ 2 * n → cell (xs ++ ys) (n + j) ≡ cell ys j
cell_back xs ys n j l = ap as_cell (pair_after nan xs ys n j l)

pub cell_take : (xs : List Float) (n j : ℕ) → j < n → cell (take (2 * n) xs) j ≡ cell xs j
cell_take xs n j l = ap₂ cx (get_or-take (2 * n) xs (2 * j) nan (omega arith)) (get_or-take (2 * n) xs (2 * j + 1) nan (omega arith))

pub cell_drop : (xs : List Float) (n j : ℕ) → cell (drop (2 * n) xs) j ≡ cell xs (n + j)
cell_drop xs n j = ap₂ cx (get_or-drop (2 * n) xs (2 * j) nan ∙ ap (λ (i : ℕ). get_or xs i nan) (omega arith))
    (get_or-drop (2 * n) xs (2 * j + 1) nan ∙ ap (λ (i : ℕ). get_or xs i nan) (omega arith))

-- ---- one cell written

module _ (xs : List Float) (k : ℕ) (z : Complex) where
  pub length_put : length (put_cell xs k z) ≡ length xs
  length_put = Pairs.length_put xs k (z.re, z.im)

  pub get_put : 2 * k + 1 < length xs → cell (put_cell xs k z) k ≡ z
  get_put l = ap as_cell (put_here nan xs k (z.re, z.im) l)

  pub get_other : (n : ℕ) → n ≢ k → cell (put_cell xs k z) n ≡ cell xs n
  get_other n ne = ap as_cell (put_still nan xs k (z.re, z.im) n ne)
