-- Each entry of the house table is the rounding of the power series, by one test, computed over the whole table. Assumes nothing.
use Rattle.sequences.proofs.Basics.{◌≡◌, subst, ℕ, zero, suc, ◌+◌, ◌*◌, ◌^◌, ◌<◌, ◌≤◌, le_of_suc-le-suc, not-suc-le-zero, add-zero, zero-add, le_refl, le_trans}
use Rattle.sequences.proofs.Basics.{sub-le, sub-add_cancel, mul-le-mul, mul-le-mul_right, le-mul_of_pos_right, mul-pos, zero-lt-suc, arith, Bool, true, ◌&&◌}
use Rattle.sequences.proofs.Basics.{List, [], ◌∷◌, T, lit≤, length, get_or}
use lib.Ieee.Fits.{and_l, and_r}
use Rattle.house.specs.House.{cosines, sines}
use Rattle.house.proofs.Rule.{counts}
use Rattle.house.proofs.Table.{Ordered, ordered, ordered_is}
use Rattle.nearest.specs.Series.{Fraction, Less, over, under, cosine_sum, sine_sum, least, most, below, above, Encloses}
use Rattle.nearest.specs.Table.{house_cosines, house_sines, house_cosine, house_sine}

-- ---- nothing is cut off
pub at_most_one : (p q k n : ℕ) → over p q k n ≤ under q k n
unfolding over under
at_most_one p q k zero = le_refl 1
at_most_one p q k (suc n) = sub-le (q * q * (suc k * suc (suc k)) * under q (suc (suc k)) n) (p * p * over p q (suc (suc k)) n)

pub whole_difference : (p q k n : ℕ) → p ≤ q → over p q k (suc n) + p * p * over p q (suc (suc k)) n ≡ under q k (suc n)
unfolding over under
whole_difference p q k n h = sub-add_cancel (le_trans (mul-le-mul (mul-le-mul h h) (at_most_one p q (suc (suc k)) n))
    (mul-le-mul_right (under q (suc (suc k)) n) (le-mul_of_pos_right (q * q) (mul-pos (zero-lt-suc k) (zero-lt-suc (suc k))))))

-- ---- the tests
-- what is asked of entry b, h
abbrev Asked : Type 0
Asked = (b h : ℕ) → List (ℕ × ℕ)

abbrev all : Asked → ℕ → List ℕ → Bool
all f b [] = true
all f b (h ∷ hs) = ordered (f b h) && all f (suc b) hs

all_at : (f : Asked) (b : ℕ) (hs : List ℕ) → T (all f b hs) → (k : ℕ) → k < length hs → Ordered (f (b + k) (get_or hs k 0))
all_at f b [] t k l = absurd (not-suc-le-zero l)
all_at f b (h ∷ hs) t zero l = rw add-zero (ordered_is (f b h) (and_l (ordered (f b h)) (all f (suc b) hs) t))
all_at f b (h ∷ hs) t (suc k) l =
    let e : suc b + k ≡ b + suc k = omega arith in
    subst (λ (n : ℕ). Ordered (f n (get_or hs k 0))) e (all_at f (suc b) hs (and_r (ordered (f b h)) (all f (suc b) hs) t) k (le_of_suc-le-suc l))

from_first : (f : Asked) (hs : List ℕ) → T (all f 0 hs) → (k : ℕ) → k < length hs → Ordered (f k (get_or hs k 0))
from_first f hs t k l = subst (λ (n : ℕ). Ordered (f n (get_or hs k 0))) (zero-add k) (all_at f 0 hs t k l)

-- `Encloses` as pairs in order
abbrev rounds : (x y : Fraction) → ℕ → List (ℕ × ℕ)
rounds x y h = (suc (2 * h * x.under), 2 ^ 61 * x.over + x.under) ∷ (suc (2 ^ 61 * y.over), (2 * h + 1) * y.under) ∷ []

unfoldable cosine_asked : Asked
cosine_asked b h = rounds (below cosine_sum most b) (above cosine_sum least b) h

unfoldable sine_asked : Asked
sine_asked b h = rounds (below sine_sum least b) (above sine_sum most b) h

cosines_hold : T (all cosine_asked 0 house_cosines)
unfolding cosines cosine_asked over under
cosines_hold = tt

sines_hold : T (all sine_asked 0 house_sines)
unfolding sines sine_asked over under
sines_hold = tt

pub cosine_series : (b : ℕ) → b ≤ 840 → Encloses (below cosine_sum most b) (above cosine_sum least b) (house_cosine b)
unfolding cosine_asked
cosine_series b l = let a = from_first cosine_asked house_cosines cosines_hold b (omega (arith, counts.0)) in (a.0, a.1.0)

pub sine_series : (b : ℕ) → b ≤ 840 → Encloses (below sine_sum least b) (above sine_sum most b) (house_sine b)
unfolding sine_asked
sine_series b l = let a = from_first sine_asked house_sines sines_hold b (omega (arith, counts.1)) in (a.0, a.1.0)

pub arc_between : Less (above sine_sum least 840) (below cosine_sum least 840) × Less (above cosine_sum most 840) (below sine_sum most 840)
unfolding over under
arc_between = (lit≤ tt, lit≤ tt)
