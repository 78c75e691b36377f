-- The least step of a level, below where normal numbers begin and from there on. Assumes nothing.
use Rattle.sequences.proofs.Basics.{◌≡◌, ℕ, ◌+◌, ◌-◌, ◌*◌, ◌/◌, ◌%◌, ◌<◌, ◌≤◌, min, lt-ltb, le-ltb}
use Rattle.levels.specs.Levels.{units_of, part_at_least, least_step}

module _ (full level u : ℕ) (e : u ≡ units_of full) where
  -- below it is the first normal step
  pub least_low : 1000 * level + u < 16030603 → 128 ≡ least_step full level
  unfolding least_step
  least_low h = rw (← e, lt-ltb (1000 * level + u) 16030603 h)

  -- from there on it is made of the doublings and the part that are needed
  pub least_high : 16030603 ≤ 1000 * level + u
      → min (128 * ((1000 * level + u - 16000500) / 30103) + part_at_least ((1000 * level + u - 16000500) % 30103)) 32639 ≡ least_step full level
  unfolding least_step
  least_high h = rw (← e, le-ltb (1000 * level + u) 16030603 h)
