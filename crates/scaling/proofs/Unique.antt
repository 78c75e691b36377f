-- Two answers that meet a promise are equal. Assumes nothing.
use Rattle.sequences.proofs.Basics.{◌≡◌, ℕ, List}
use Rattle.refusal.proofs.Unique.{agree}
use Rattle.std.specs.Prelude.{Result}
use Rattle.refusal.specs.declared.Refusal.{Refusal}
use Rattle.scaling.specs.declared.Scaled.{Scaled}
use Rattle.scaling.specs.Scaling.{Scales}

pub Scales_one : {ins outs : List ℕ} {r s : Result Scaled Refusal} → Scales ins outs r → Scales ins outs s → r ≡ s
Scales_one p q = agree p.answer q.answer
