-- Laws of lanes: the twiddles of an iteration stand so many places apart, and the numbers that tell where are small. Assumes nothing.
use Rattle.sequences.proofs.Basics.{◌≡◌, ◌∙◌, ℕ, suc, ◌+◌, ◌-◌, ◌*◌, ◌/◌, ◌%◌, ◌<◌, ◌≤◌, mul-le-mul, div-le_self, arith}
use Rattle.packing.specs.Places.{in_lanes, place}
use Rattle.packing.proofs.Places.{suc_less, lane_place, lone_place}

module _ (M r W i : ℕ) where
  -- in a whole lane
  pub lane_apart : i < in_lanes M W → (k : ℕ) → place M r W i (suc k) ≡ i / W * (W * (r - 1)) + i % W + k * W
  lane_apart l k = lane_place M r W i (suc k) l ∙ rw suc_less (omega arith)

  -- after the lanes
  pub lone_apart : in_lanes M W ≤ i → (k : ℕ) → place M r W i (suc k) ≡ i * (r - 1) + k * 1
  lone_apart l k = lone_place M r W i (suc k) l ∙ rw suc_less (omega arith)

-- the numbers are small
pub small : (i W r : ℕ) → i < 4096 → W ≤ 4 → r ≤ 8 → (W * (r - 1) ≤ 28) × (i / W * (W * (r - 1)) ≤ 4096 * 28) × (i * (r - 1) ≤ 4096 * 7)
small i W r a b c =
    let row : W * (r - 1) ≤ 28 = mul-le-mul {n₂ = 4} {m₂ = 7} b (omega arith) in
    (row, mul-le-mul {n₂ = 4096} {m₂ = 28} (omega (arith, div-le_self i W)) row, mul-le-mul {n₂ = 4096} {m₂ = 7} (omega arith) (omega arith))
