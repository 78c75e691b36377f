-- What the parts of filling the ends ask for. Assumes nothing.
use Rattle.std.specs.Prelude.{ℕ, ◌*◌, ◌<◌, ◌≡◌, true}
use Rattle.counts.specs.Counts.{end_count}
use Rattle.turn.specs.Turns.{housed}

-- what the filling of the ends asks of a length and a slice of so many words
pub record Endable (n words : ℕ) : Type 0 where
  pub some : 0 < n
  pub housed : housed n ≡ true
  pub long : words ≡ 2 * end_count n
