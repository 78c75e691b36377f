-- Pairs of words in a list, each at 2 * p and 2 * p + 1: in a row, read and written. Assumes nothing.
use Rattle.std.specs.Prelude.{ℕ, zero, suc, ◌+◌, ◌*◌, ◌≡◌, List, [], ◌∷◌, get_or, set}

module _ {A : Type 0} where
  -- the two words of f n, of f (n + 1), ..: k pairs
  unfoldable pub pairs : (k n : ℕ) → (ℕ → A × A) → List A
  pairs zero n f = []
  pairs (suc k) n f = (f n).0 ∷ (f n).1 ∷ pairs k (suc n) f

  -- the pair at place p, where d stands past the end
  abbrev pub pair_at : (d : A) → List A → (p : ℕ) → A × A
  pair_at d ys p = (get_or ys (2 * p) d, get_or ys (2 * p + 1) d)

  -- the pair w written at place p
  abbrev pub put_pair : List A → (p : ℕ) → A × A → List A
  put_pair ys p w = set (set ys (2 * p) w.0) (2 * p + 1) w.1

-- the pair w is at place p, where d stands past the end
pub record At {A : Type 0} (d : A) (ys : List A) (p : ℕ) (w : A × A) : Type 0 where
  pub first : get_or ys (2 * p) d ≡ w.0
  pub second : get_or ys (2 * p + 1) d ≡ w.1
