-- What the parts of scaling ask for. Assumes nothing.
use Rattle.std.specs.Prelude.{ℕ, ◌≤◌, ◌≡◌, List, length}
use Rattle.refusal.specs.Refusal.{verdict}
use Rattle.refusal.specs.Refusal.{Accepted}
use Rattle.scaling.specs.Scaling.{list_rows}

-- two lists that refusals 2 and 3 leave, and a target that is not too large
pub record Scalable (target : ℕ) (xs ys : List ℕ) : Type 0 where
  pub low : target ≤ 4096
  pub ins : verdict (list_rows 0 xs) ≡ Accepted
  pub outs : verdict (list_rows (length xs) ys) ≡ Accepted
