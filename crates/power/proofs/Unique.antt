-- Two answers that meet the promise are equal. Assumes nothing.
use Rattle.sequences.proofs.Basics.{◌≡◌, ℕ, List}
use lib.Ieee.{Float}
use Rattle.refusal.proofs.Unique.{agree}
use Rattle.power.specs.Power.{Powers}
use Rattle.std.specs.Prelude.{Result}
use Rattle.refusal.specs.declared.Refusal.{Refusal}

pub Powers_one : (xs : List Float) (lo hi : ℕ) {r s : Result Float Refusal} → Powers xs lo hi r → Powers xs lo hi s → r ≡ s
Powers_one xs lo hi a b = agree a.answer b.answer
