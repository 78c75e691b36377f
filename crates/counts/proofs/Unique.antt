-- Two answers that meet a promise are equal. Assumes nothing.
use Rattle.sequences.proofs.Basics.{◌≡◌, ℕ}
use Rattle.refusal.proofs.Unique.{agree}
use Rattle.counts.specs.declared.Buffer.{Buffer}
use Rattle.plan.specs.declared.Record.{Record}
use Rattle.std.specs.Prelude.{Result}
use Rattle.refusal.specs.declared.Refusal.{Refusal}
use Rattle.counts.specs.Counts.{NumbersBuffer, CountsStage, CountsEnd, Locates}

pub NumbersBuffer_one : {b : Buffer} {r s : ℕ} → NumbersBuffer b r → NumbersBuffer b s → r ≡ s
NumbersBuffer_one p q = agree p.answer q.answer

pub CountsStage_one : {p : Record} {r s : Result ℕ Refusal} → CountsStage p r → CountsStage p s → r ≡ s
CountsStage_one p q = agree p.answer q.answer

pub CountsEnd_one : {p : Record} {r s : Result ℕ Refusal} → CountsEnd p r → CountsEnd p s → r ≡ s
CountsEnd_one p q = agree p.answer q.answer

pub Locates_one : {p : Record} {r s : Result Buffer Refusal} → Locates p r → Locates p s → r ≡ s
Locates_one p q = agree p.answer q.answer
