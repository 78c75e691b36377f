-- Sums in remainders: the discrete Fourier transform, and what the cells hold after each stage. Assumes nothing.
use Rattle.std.specs.Prelude.{ℕ, zero, suc, ◌+◌, ◌*◌, ◌/◌, ◌%◌, ◌^◌, ◌<◌, ◌≡◌}

-- f 0 + .. + f (n - 1)
unfoldable pub sum : ℕ → (ℕ → ℕ) → ℕ
sum zero f = 0
sum (suc n) f = sum n f + f n

-- the discrete Fourier transform of x at k, by its definition: the remainder of the sum of x(j) * w^(jk)
unfoldable pub transform : (m w h : ℕ) → (ℕ → ℕ) → ℕ → ℕ
transform m w h x k = sum h (λ j. x j * w ^ (j * k)) % m

-- what cell b * S + k holds when the stride is S: the sum over u below S of x(b + (h/S)u) * w^((h/S)uk)
unfoldable pub block_sum : (m w h S : ℕ) → (ℕ → ℕ) → (b k : ℕ) → ℕ
block_sum m w h S x b k = sum S (λ u. x (b + h / S * u) * w ^ (h / S * u * k)) % m

-- the cells c hold the block sums of x at stride S
abbrev pub Blocks : (m w h S : ℕ) → (ℕ → ℕ) → (ℕ → ℕ) → Type 0
Blocks m w h S x c = (b k : ℕ) → b < h / S → k < S → c (b * S + k) ≡ block_sum m w h S x b k
