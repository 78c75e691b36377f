-- What the parts of filling the stages ask for and leave. Assumes nothing.
use Rattle.std.specs.Prelude.{ℕ, suc, ◌+◌, ◌-◌, ◌*◌, ◌≤◌, ◌<◌, ◌≡◌, true, List, Float, length}
use Rattle.std.specs.Float.{nan}
use Rattle.sequences.specs.Pairs.{pair_at}
use Rattle.counts.specs.Counts.{stage_twiddles}
use Rattle.plan.specs.Record.{is_planned}
use Rattle.plan.specs.declared.Record.{Record}
use Rattle.schedule.specs.Parts.{Wrote}
use Rattle.turn.specs.Turns.{housed, turn_at, words_of}
use Rattle.packing.specs.Places.{is_width, place}
use Rattle.packing.specs.declared.inner.packing.Lane.{Lane}

-- what the filling of the stages asks of a plan, a width and a slice of so many words
pub record Packable (p : Record) (W words : ℕ) : Type 0 where
  pub planned : is_planned p ≡ true
  pub housed : housed p.n ≡ true
  pub width : is_width W ≡ true
  pub long : words ≡ 2 * stage_twiddles p

-- what the filling of a stage at stride s asks of its sizes and of a slice of so many words: it divides the circle of the house table
pub record Fillable (M s r words : ℕ) : Type 0 where
  pub columns : 0 < s
  pub two : 2 ≤ r
  pub circle : housed (s * r) ≡ true
  pub long : words ≡ 2 * (M * (r - 1))

-- where the twiddles of iteration i stand
pub record Lanes (M r W i : ℕ) (l : Lane) : Type 0 where
  pub stands : (k : ℕ) → place M r W i (suc k) ≡ l.first + k * l.apart
  pub low : l.first ≤ 200000
  pub some : 0 < l.apart
  pub near : l.apart ≤ 4

-- what an iteration asks of so many twiddles, each turned on from the last, and of a slice of so many words
pub record Turnable (turn each first apart words : ℕ) : Type 0 where
  pub small : each * turn < 6720
  pub some : 0 < apart
  pub near : apart ≤ 4
  pub within : (k : ℕ) → k < each → 2 * (first + k * apart) + 1 < words

-- the first n of them are in their places, and every other pair is as it was
pub record Turned (turn first apart n : ℕ) (before after : List Float) : Type 0 where
  pub size : length after ≡ length before
  pub pairs : Wrote (λ k. k < n) (λ k. first + k * apart) (λ k. words_of (turn_at (suc k * turn))) (pair_at nan before) (pair_at nan after)
