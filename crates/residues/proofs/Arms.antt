-- Cells that are written a stride apart. Assumes nothing.
use Rattle.sequences.proofs.Basics.{◌≡◌, ℕ, ◌+◌, ◌*◌, ◌<◌, eq_of_mul-eq-mul_right, arith}

-- cells s apart
pub steps_apart : (to s : ℕ) → 0 < s → (t u : ℕ) → to + t * s ≡ to + u * s → t ≡ u
steps_apart to s ps t u e = eq_of_mul-eq-mul_right s ps t u (omega arith)
