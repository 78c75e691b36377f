-- Two outcomes that meet a promise are equal. Assumes nothing.
use Rattle.sequences.proofs.Basics.{◌≡◌, ℕ, List}
use lib.Ieee.{Float}
use Rattle.std.specs.Prelude.{Result}
use Rattle.refusal.specs.declared.Refusal.{Refusal}
use Rattle.refusal.specs.Refusal.{Verdict}
use Rattle.refusal.proofs.Unique.{agree}
use Rattle.chunks.specs.declared.inner.walk.Samples.{Samples}
use Rattle.wav.specs.Wav.{Counts, Measures, Reads, Writes}
use Rattle.wav.specs.declared.Wav.{Wav}

pub Counts_one : (found : Samples) {r s : Wav} → Counts found r → Counts found s → r ≡ s
Counts_one found a b = agree a b

pub Measures_one : {file : List ℕ} {r s : Result Wav Refusal} → Measures file r → Measures file s → r ≡ s
Measures_one a b = agree a.answer b.answer

pub Reads_one : {file : List ℕ} {before : List Float} {r s : Result Wav Refusal} {x y : List Float} → Reads file before r x → Reads file before s y
    → (r ≡ s) × (x ≡ y)
Reads_one a b = (agree a.answer b.answer, agree a.cells b.cells)

pub Writes_one : (rate : ℕ) (xs : List Float) (before : List ℕ) {r s : Verdict} {x y : List ℕ} → Writes rate xs before r x → Writes rate xs before s y
    → (r ≡ s) × (x ≡ y)
Writes_one rate xs before a b = (agree a.answer b.answer, agree a.cells b.cells)
