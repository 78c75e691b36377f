-- Two outcomes that meet a promise are equal. Assumes nothing.
use Rattle.sequences.proofs.Basics.{◌≡◌, ℕ}
use Rattle.refusal.proofs.Unique.{agree}
use Rattle.std.specs.Prelude.{Result}
use Rattle.refusal.specs.declared.Refusal.{Refusal}
use Rattle.turn.specs.declared.Turn.{Turn}
use Rattle.turn.specs.Calls.{Turns}

pub Turns_one : {t L : ℕ} {r s : Result Turn Refusal} → Turns t L r → Turns t L s → r ≡ s
Turns_one a b = agree a.answer b.answer
