-- Whether the bees fan: the decision, which calls are refused, and what the call promises. Assumes nothing.
use Rattle.std.specs.Prelude.{ℕ, ◌+◌, ◌-◌, ◌≡◌, cond, ◌||◌, List, [], ◌∷◌, ltb, Float, length}
use Rattle.std.specs.Float.Ieee.{lt}
use Rattle.refusal.specs.Refusal.{◌⇒◌, verdict, left}
use Rattle.refusal.specs.declared.Refusal.TheVariants.{Bins}
use Rattle.refusal.specs.Refusal.{Verdict}
use Rattle.refusal.specs.Refusal.{Accepted, Refused}
use Rattle.plan.specs.declared.Record.{Record}
use Rattle.turn.specs.Turns.{+0}
use Rattle.transform.specs.Transforms.{Slices, forward_of}
use Rattle.spectrum.specs.Calls.{forward_verdict}
use Rattle.power.specs.Power.{power_from}
use Rattle.hear.specs.declared.Decision.{Decision}
use Rattle.hear.specs.declared.Decision.TheVariants.{Fanning, Quiet}
use Rattle.hear.specs.declared.Heard.{Heard}

-- the number of a decision
abbrev pub decision_number : Decision → ℕ
decision_number Fanning = 0
decision_number Quiet = 1

-- what `Decision::number` promises of its answer
pub record NumbersDecision (d : Decision) (r : ℕ) : Type 0 where
  pub answer : r ≡ decision_number d

-- fanning exactly where the power is not below the threshold; nothing is below a NaN
unfoldable pub decided : (power threshold : Float) → Decision
decided power threshold = cond (lt power threshold) Quiet Fanning

-- where forward refuses, that; else 14 where lo to hi is no range of the bins 0 to h
abbrev pub with_band : Verdict → (h lo hi : ℕ) → Verdict
with_band Accepted h lo hi = verdict ((ltb hi lo || ltb h hi) ⇒ Bins ∷ [])
with_band (Refused why) h lo hi = Refused why

unfoldable pub hear_verdict : Record → (W : ℕ) → (xs : List Float) → (output scratch : ℕ) → (stage end : List Float) → (lo hi : ℕ) → Verdict
hear_verdict p W xs output scratch stage end lo hi = with_band (forward_verdict p W xs output scratch stage end) p.half lo hi

-- the power with its decision; beside a refusal +0 and fanning
abbrev pub heard : Verdict → (power threshold : Float) → Heard
heard Accepted power threshold = record { verdict = Accepted; power = power; decision = decided power threshold }
heard (Refused why) power threshold = record { verdict = Refused why; power = +0; decision = Fanning }

-- what `hear` promises of its answer r and of what is left in output and scratch: the spectrum that forward leaves, and the power of its bins lo to hi
pub record Hears (p : Record) (W : ℕ) (stage end xs : List Float) (lo hi : ℕ) (threshold : Float) (before : Slices) (r : Heard) (after : Slices) : Type 0 where
  pub answer : r ≡ heard (hear_verdict p W xs (length before.0) (length before.1) stage end lo hi)
      (power_from (forward_of p W stage end xs before.1).0 lo (hi + 1 - lo)) threshold
  pub cells : after ≡ left (hear_verdict p W xs (length before.0) (length before.1) stage end lo hi) (forward_of p W stage end xs before.1) before
