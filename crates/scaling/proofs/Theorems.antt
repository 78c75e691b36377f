-- Scaling is by the smallest power of two that reaches the target. Assumes nothing.
use Rattle.sequences.proofs.Basics.{ℕ, ◌*◌, ◌^◌, ◌<◌, ◌≤◌}
use Rattle.scaling.specs.Scaling.{gain}
use Rattle.scaling.proofs.Scaling.{gain_reaches, gain_least}

-- scaling by the smallest power of two that reaches the target
pub scaling_reaches : (target base : ℕ) → 0 < base → target ≤ 2 ^ gain target base * base
scaling_reaches = gain_reaches

pub scaling_least : (target base j : ℕ) → j < gain target base → 2 ^ j * base < target
scaling_least = gain_least
