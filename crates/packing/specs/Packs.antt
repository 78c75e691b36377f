-- Which iterations, radices and widths a packing has. Assumes nothing.
use Rattle.std.specs.Prelude.{ℕ, ◌≤◌, ◌<◌}

-- few iterations, a small radix and a narrow width
pub record Packs (M r W : ℕ) : Type 0 where
  pub iterations : M ≤ 4096
  pub some : 0 < r
  pub eight : r ≤ 8
  pub lane : 0 < W
  pub narrow : W ≤ 4
