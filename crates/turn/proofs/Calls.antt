-- The answer of a single turn, refused and accepted. Assumes nothing.
use Rattle.sequences.proofs.Basics.{◌≡◌, ◌∙◌, ℕ, ◌%◌, true, false}
use Rattle.refusal.specs.declared.Refusal.TheVariants.{NotHoused}
use Rattle.std.specs.Prelude.{Ok, Err}
use Rattle.turn.specs.declared.Turn.{Turn}
use Rattle.turn.specs.Calls.{part, turn_verdict, turned, Turns}
use Rattle.turn.specs.Turns.{housed, turn_of}
use Rattle.turn.proofs.Index.{turn_mod}

pub refused : (t L : ℕ) → housed L ≡ false → Turns t L (Err NotHoused)
unfolding turned turn_verdict
refused t L h = record { answer = simp h }

pub accepted : (t L : ℕ) (turn : Turn) → housed L ≡ true → turn ≡ turn_of (part (t % L) L) → Turns t L (Ok turn)
unfolding turned turn_verdict
accepted t L turn h e = let w : turn ≡ turn_of (part t L) = e ∙ turn_mod t L h in record { answer = simp (h, w) }
