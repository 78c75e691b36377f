-- A single turn: when it is refused, and what the call promises; and what the parts inside ask for. Assumes nothing.
use Rattle.std.specs.Prelude.{ℕ, ◌<◌, ◌≡◌, true, not, [], ◌∷◌, Result}
use Rattle.refusal.specs.Refusal.{◌⇒◌, verdict, granted}
use Rattle.refusal.specs.declared.Refusal.{Refusal}
use Rattle.refusal.specs.declared.Refusal.TheVariants.{NotHoused}
use Rattle.refusal.specs.Refusal.{Verdict}
use Rattle.radices.specs.Lists.{is_radix}
use Rattle.schedule.specs.Stage.{Part}
use Rattle.turn.specs.declared.Turn.{Turn}
use Rattle.turn.specs.Turns.{housed, turn_of}

-- t of L parts of a circle
abbrev pub part : (t L : ℕ) → Part
part t L = record { t = t; L = L }

-- refusal 7, when L does not divide 6,720
unfoldable pub turn_verdict : (L : ℕ) → Verdict
turn_verdict L = verdict (not (housed L) ⇒ NotHoused ∷ [])

-- the answer to t and L
unfoldable pub turned : (t L : ℕ) → Result Turn Refusal
turned t L = granted (turn_verdict L) (turn_of (part t L))

-- what `turn_of` promises of its answer
pub record Turns (t L : ℕ) (r : Result Turn Refusal) : Type 0 where
  pub answer : r ≡ turned t L

-- what a lookup asks of t and L
pub record Known (t L : ℕ) : Type 0 where
  pub divides : housed L ≡ true
  pub below : t < L

-- what a kernel's turn asks of t and a radix r
pub record KernelPart (t r : ℕ) : Type 0 where
  pub radix : is_radix r ≡ true
  pub below : t < r
