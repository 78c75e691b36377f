-- The widths, and where a twiddle stands among those of its stage: M iterations of radix r, packed for width W.
-- Assumes nothing.
use Rattle.std.specs.Prelude.{ℕ, suc, ◌+◌, ◌-◌, ◌*◌, ◌/◌, ◌%◌, ◌<◌, ◌≤◌, ◌≡◌, Bool, cond, ◌||◌, List, eqb, ltb}
use Rattle.sequences.specs.Pairs.{pairs}

-- the widths
unfoldable pub is_width : ℕ → Bool
is_width W = eqb W 1 || eqb W 2 || eqb W 4

-- how many iterations stand in whole lanes of W; those after them stand one by one
abbrev pub in_lanes : (M W : ℕ) → ℕ
in_lanes M W = M / W * W

-- where twiddle k of iteration i stands, k from 1 to r - 1
unfoldable pub place : (M r W i k : ℕ) → ℕ
place M r W i k =
    cond (ltb i (in_lanes M W))
    (i / W * (W * (r - 1)) + (k - 1) * W + i % W)
    (i * (r - 1) + (k - 1))

-- the iteration of the twiddle at place p
unfoldable pub iteration_at : (M r W p : ℕ) → ℕ
iteration_at M r W p =
    cond (ltb p (in_lanes M W * (r - 1)))
    (p / (W * (r - 1)) * W + p % W)
    (p / (r - 1))

-- which of its iteration's twiddles that is
unfoldable pub number_at : (M r W p : ℕ) → ℕ
number_at M r W p =
    cond (ltb p (in_lanes M W * (r - 1)))
    (suc (p % (W * (r - 1)) / W))
    (suc (p % (r - 1)))

-- place p is below M * (r - 1), and tells that twiddle k of iteration i stands there
pub record Stands (M r W i k p : ℕ) : Type 0 where
  pub inside : p < M * (r - 1)
  pub iteration : iteration_at M r W p ≡ i
  pub number : number_at M r W p ≡ k

-- i and k are an iteration and a number, and tell that they stand at place p
pub record Found (M r W i k p : ℕ) : Type 0 where
  pub early : i < M
  pub first : 1 ≤ k
  pub last : k < r
  pub here : place M r W i k ≡ p

-- f i k for each of M iterations i and k from 1 to r - 1, packed for width W: at each place the one that stands there
unfoldable pub packed : {A : Type 0} → (M r W : ℕ) → (ℕ → ℕ → A × A) → List A
packed M r W f = pairs (M * (r - 1)) 0 (λ p. f (iteration_at M r W p) (number_at M r W p))
