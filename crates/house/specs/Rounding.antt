-- What the parts of rounding make. Assumes nothing.
use Rattle.std.specs.Prelude.{ℕ, ◌*◌, ◌^◌, ◌<◌, ◌≤◌}

-- c has k binary digits beyond 24, or k = 0 and c has at most 24
pub record Beyond (c k : ℕ) : Type 0 where
  pub low : 0 < k → 8388608 * 2 ^ k ≤ c
  pub high : c < 16777216 * 2 ^ k
