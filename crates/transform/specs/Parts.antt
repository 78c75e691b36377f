-- What the parts of both directions ask for and leave. Assumes nothing.
use Rattle.std.specs.Prelude.{ℕ, ◌+◌, ◌*◌, ◌≤◌, ◌≡◌, true}
use Rattle.counts.specs.Counts.{stage_twiddles, end_count}
use Rattle.plan.specs.Record.{is_planned}
use Rattle.plan.specs.declared.Record.{Record}
use Rattle.packing.specs.Places.{is_width}

-- what the stages ask of a plan, a width, a scratch, another buffer and the twiddles of all stages, of so many words
pub record Staged (p : Record) (W scratch beside stage : ℕ) : Type 0 where
  pub planned : is_planned p ≡ true
  pub width : is_width W ≡ true
  pub room : 4 * p.half ≤ scratch
  pub other : 2 * p.half ≤ beside
  pub lent : stage ≡ 2 * stage_twiddles p

-- what forward asks, of slices of so many words
pub record Forwardable (p : Record) (W input output scratch stage end : ℕ) : Type 0 where
  pub planned : is_planned p ≡ true
  pub width : is_width W ≡ true
  pub samples : input ≡ p.n
  pub bins : output ≡ 2 * (p.half + 1)
  pub room : 4 * p.half ≤ scratch
  pub stages : stage ≡ 2 * stage_twiddles p
  pub ends : end ≡ 2 * end_count p.n

-- what inverse asks
pub record Invertible (p : Record) (W input output scratch stage end : ℕ) : Type 0 where
  pub planned : is_planned p ≡ true
  pub width : is_width W ≡ true
  pub bins : input ≡ 2 * (p.half + 1)
  pub samples : p.n ≤ output
  pub room : 4 * p.half ≤ scratch
  pub stages : stage ≡ 2 * stage_twiddles p
  pub ends : end ≡ 2 * end_count p.n
