-- The parts of a doubling rise, from above 0 to below a doubling; the first that is large enough. Assumes nothing.
use Rattle.sequences.proofs.Basics.{◌≡◌, refl, sym, add-one, ℕ, zero, suc, ◌<◌, ◌≤◌, le_of_suc-le-suc, lt_of_not-le}
use Rattle.sequences.proofs.Basics.{arith, dec_le, dite, Bool, ◌&&◌, List, [], ◌∷◌, T, ltb, leb, ltb→lt}
use Rattle.sequences.proofs.Basics.{length, get_or, le-leb, lt-leb}
use Rattle.sequences.specs.Lists.{first_that}
use Rattle.sequences.proofs.First.{first_most}
use Rattle.std.specs.Prelude.{Option}
use Rattle.std.specs.Option.{unwrap_or}
use Rattle.std.specs.Prelude.{MatchOption}
use Rattle.std.specs.List.{AllWithin, HoldsAt}
use Rattle.std.proofs.lemmas.Iterator.{index_from_first}
use lib.Ieee.Fits.{and_l, and_r}
use Rattle.levels.specs.Parts.{parts}
use Rattle.levels.specs.Levels.{part_at_least}

-- numbers that rise, from above `low` to below `high`
abbrev rising : (low high : ℕ) → List ℕ → Bool
rising low high [] = ltb low high
rising low high (x ∷ xs) = ltb low x && rising x high xs

module _ (high : ℕ) where
  -- the first is above what they rise from, and the others rise from it
  apart : (low x : ℕ) (xs : List ℕ) → T (rising low high (x ∷ xs)) → (low < x) × T (rising x high xs)
  apart low x xs t = (ltb→lt low x (and_l (ltb low x) (rising x high xs) t), and_r (ltb low x) (rising x high xs) t)

  -- one end is below the other
  ends : (low : ℕ) (xs : List ℕ) → T (rising low high xs) → low < high
  ends low [] t = ltb→lt low high t
  ends low (x ∷ xs) t = omega (arith, (apart low x xs t).0, ends x xs (apart low x xs t).1)

  -- each number is between them
  between : (low : ℕ) (xs : List ℕ) → T (rising low high xs) → (k : ℕ) → k < length xs → (low < get_or xs k 0) × (get_or xs k 0 < high)
  between low [] t k l = absurd (omega arith)
  between low (x ∷ xs) t zero l = ((apart low x xs t).0, ends x xs (apart low x xs t).1)
  between low (x ∷ xs) t (suc k) l =
      let b = between x xs (apart low x xs t).1 k (le_of_suc-le-suc l) in
      (omega (arith, (apart low x xs t).0, b.0), b.1)

  -- a later one is larger
  later : (low : ℕ) (xs : List ℕ) → T (rising low high xs) → (j k : ℕ) → j < k → k < length xs → get_or xs j 0 < get_or xs k 0
  later low [] t j k h l = absurd (omega arith)
  later low (x ∷ xs) t j zero h l = absurd (omega arith)
  later low (x ∷ xs) t zero (suc k) h l = (between x xs (apart low x xs t).1 k (le_of_suc-le-suc l)).0
  later low (x ∷ xs) t (suc j) (suc k) h l = later x xs (apart low x xs t).1 j k (le_of_suc-le-suc h) (le_of_suc-le-suc l)

-- each part is above 0 and below a doubling
pub part_between : (k : ℕ) → k < 128 → (0 < get_or parts k 0) × (get_or parts k 0 < 30103)
unfolding parts
part_between k l = between 30103 0 parts tt k l

-- a later part is larger
pub part_later : (j k : ℕ) → j < k → k < 128 → get_or parts j 0 < get_or parts k 0
unfolding parts
part_later j k h l = later 30103 0 parts tt j k h l

-- ---- the first number that is at least u

-- those before it are below u
before_first : (u : ℕ) (xs : List ℕ) (i : ℕ) → i < first_that (leb u) xs → get_or xs i 0 < u
unfolding first_that
before_first u [] i h = absurd (omega arith)
before_first u (x ∷ xs) i h = dite (dec_le u x) (λ (g : u ≤ x).
    let z : i < 0 = rw (le-leb u x g) at h in
    absurd (omega arith)) (λ (g : u ≤ x → ⊥). rest i (rw (lt-leb u x (lt_of_not-le g)) at h) (lt_of_not-le g) (λ j l. before_first u xs j l))
  where
    rest : (i : ℕ) → i < suc (first_that (leb u) xs) → x < u → ((j : ℕ) → j < first_that (leb u) xs → get_or xs j 0 < u) → get_or (x ∷ xs) i 0 < u
    rest zero h l before = l
    rest (suc i) h l before = before i (le_of_suc-le-suc h)

-- it is at least u
at_first : (u : ℕ) (xs : List ℕ) → first_that (leb u) xs < length xs → u ≤ get_or xs (first_that (leb u) xs) 0
unfolding first_that
at_first u [] h = absurd (omega arith)
at_first u (x ∷ xs) h = dite (dec_le u x) (λ (g : u ≤ x). rw (le-leb u x g) g)
    (λ (g : u ≤ x → ⊥).
    let e = lt-leb u x (lt_of_not-le g) in
    rw e (at_first u xs (le_of_suc-le-suc (rw e at h))))

module _ (units : ℕ) where
  -- there are 128
  pub part_most : part_at_least units ≤ 128
  unfolding part_at_least parts
  part_most = first_most (leb units) parts

  -- a part before the first that is large enough is too small
  pub part_before : (k : ℕ) → k < part_at_least units → get_or parts k 0 < units
  unfolding part_at_least
  part_before k h = before_first units parts k h

  -- the first that is large enough is
  pub part_at : part_at_least units < 128 → units ≤ get_or parts (part_at_least units) 0
  unfolding part_at_least parts
  part_at h = at_first units parts h

-- the index of the first part that is large enough, or 128
pub part_found : (units : ℕ) (r : Option ℕ)
    → MatchOption r (AllWithin (λ p. p < units) parts 0 (length parts))
    (λ i. (i < length parts) × HoldsAt (λ p. units ≤ p) parts i × AllWithin (λ p. p < units) parts 0 i)
    → (unwrap_or r 128 ≡ part_at_least units) × (unwrap_or r 128 ≤ 128)
unfolding part_at_least first_that parts
part_found units r h =
    let found = index_from_first (first_that (leb units)) (λ p. units ≤ p) (λ p. p < units) refl (λ x xs l. rw (le-leb units x l)) (λ x xs l. rw
    (lt-leb units x l, add-one)) parts r h in
    (sym found, omega (arith, found, first_most (leb units) parts))
