-- Two answers that meet a promise are equal: one theorem for each exported function. Assumes nothing.
use Rattle.sequences.proofs.Basics.{◌≡◌, refl, sym, ℕ, zero, suc, ◌≤◌, arith, List}
use lib.Ieee.{Float}
use Rattle.std.specs.Prelude.{Result}
use Rattle.refusal.specs.declared.Refusal.{Refusal}
use Rattle.refusal.specs.Refusal.{Verdict}
use Rattle.refusal.proofs.Unique.{agree}
use Rattle.plan.specs.declared.Record.{Record}
use Rattle.schedule.specs.Buffers.{Two}
use Rattle.twiddle.specs.Calls.{Slices}
use Rattle.wav.specs.declared.Wav.{Wav as Found}
use Rattle.ladlespindle.specs.declared.Answer.{Answer}
use Rattle.ladlespindle.specs.declared.Heard.{Heard}
use Rattle.ladlespindle.specs.declared.Wav.{Wav}
use Rattle.ladlespindle.specs.declared.Planned.{Planned}
use Rattle.ladlespindle.specs.declared.Summed.{Summed}
use Rattle.ladlespindle.specs.declared.Ran.{Ran}
use Rattle.ladlespindle.specs.declared.Scaling.{Scaling}
use Rattle.ladlespindle.specs.declared.TurnWords.{TurnWords}
use Rattle.ladlespindle.specs.Calls.{Answers, Crosses, Gives, GivesTurn, GivesForward, GivesInverse, GivesStage, GivesSpectrum, GivesSamples, GivesPower}
use Rattle.ladlespindle.specs.Calls.{GivesHeard, GivesMeasured, GivesRead, GivesWritten, GivesRemainderStage, GivesRemainderRun}
use Rattle.ladlespindle.specs.Exports.{GivesVersion, GivesInterface, GivesPlanned}
use Rattle.ladlespindle.specs.Exports.{GivesPlan, GivesNumber, GivesPlace, GivesLength, GivesHalf, GivesStages, GivesMerges, GivesRadix, GivesLetter}
use Rattle.ladlespindle.specs.Exports.{GivesStageTwiddles, GivesEndTwiddles, GivesResult, GivesAcceptance, GivesScaling}

-- ---- the version

module _ {r s : ℕ} where
  pub GivesVersion_one : GivesVersion r → GivesVersion s → r ≡ s
  GivesVersion_one a b = agree a.answer b.answer

  pub GivesInterface_one : GivesInterface r → GivesInterface s → r ≡ s
  GivesInterface_one a b = agree a.answer b.answer

-- ---- planning

module _ (list : List ℕ) where
  pub GivesPlanned_one : {r s : Planned} → GivesPlanned list r → GivesPlanned list s → r ≡ s
  GivesPlanned_one a b = agree a.answer b.answer

  pub GivesPlan_one : {r s : Record} → GivesPlan list r → GivesPlan list s → r ≡ s
  GivesPlan_one a b = agree a.answer b.answer

  module _ {r s : ℕ} where
    pub GivesNumber_one : GivesNumber list r → GivesNumber list s → r ≡ s
    GivesNumber_one a b = agree a.answer b.answer

    pub GivesPlace_one : GivesPlace list r → GivesPlace list s → r ≡ s
    GivesPlace_one a b = agree a.answer b.answer

    pub GivesLength_one : GivesLength list r → GivesLength list s → r ≡ s
    GivesLength_one a b = agree a.answer b.answer

    pub GivesHalf_one : GivesHalf list r → GivesHalf list s → r ≡ s
    GivesHalf_one a b = agree a.answer b.answer

    pub GivesStages_one : GivesStages list r → GivesStages list s → r ≡ s
    GivesStages_one a b = agree a.answer b.answer

    pub GivesMerges_one : GivesMerges list r → GivesMerges list s → r ≡ s
    GivesMerges_one a b = agree a.answer b.answer

    pub GivesStageTwiddles_one : GivesStageTwiddles list r → GivesStageTwiddles list s → r ≡ s
    GivesStageTwiddles_one a b = agree a.answer b.answer

    pub GivesEndTwiddles_one : GivesEndTwiddles list r → GivesEndTwiddles list s → r ≡ s
    GivesEndTwiddles_one a b = agree a.answer b.answer

    pub GivesResult_one : GivesResult list r → GivesResult list s → r ≡ s
    GivesResult_one a b = agree a.answer b.answer

    pub GivesRadix_one : (stage : ℕ) → GivesRadix list stage r → GivesRadix list stage s → r ≡ s
    GivesRadix_one stage a b = agree a.answer b.answer

    pub GivesLetter_one : (index : ℕ) → GivesLetter list index r → GivesLetter list index s → r ≡ s
    GivesLetter_one index a b = agree a.answer b.answer

pub GivesScaling_one : (ins outs : List ℕ) {r s : Scaling} → GivesScaling ins outs r → GivesScaling ins outs s → r ≡ s
GivesScaling_one ins outs a b = agree a.answer b.answer

-- two bits that are 1 in the same case
same_bit : (a b : ℕ) → a ≤ 1 → b ≤ 1 → (a ≡ 1 → b ≡ 1) → (b ≡ 1 → a ≡ 1) → a ≡ b
same_bit zero zero p q f g = refl
same_bit zero (suc b) p q f g = sym (omega (arith, g (omega arith)))
same_bit (suc a) b p q f g = omega (arith, f (omega arith))

pub GivesAcceptance_one : (plan : Record) {r s : ℕ} → GivesAcceptance plan r → GivesAcceptance plan s → r ≡ s
GivesAcceptance_one plan {r} {s} a b = same_bit r s a.bit b.bit (λ (e : r ≡ 1). b.one.1 (a.one.0 e)) (λ (e : s ≡ 1). a.one.1 (b.one.0 e))

-- ---- a single turn, and a sum

pub GivesTurn_one : (t L : ℕ) {r s : TurnWords} → GivesTurn t L r → GivesTurn t L s → r ≡ s
GivesTurn_one t L a b = agree a.answer b.answer

pub GivesPower_one : (spectrum : List Float) (lo hi : ℕ) {r s : Summed} → GivesPower spectrum lo hi r → GivesPower spectrum lo hi s → r ≡ s
GivesPower_one spectrum lo hi a b = agree a.answer b.answer

-- ---- calls that write

-- any of them that answers number and place
given_one : {A : Type 0} {v : Verdict} {made lent : A} {r s : Answer} {x y : A} → Gives v made lent r x → Gives v made lent s y → (r ≡ s) × (x ≡ y)
given_one a b = (agree a.answer b.answer, agree a.cells b.cells)

module _ (p : Record) (W : ℕ) (before : Slices) {r s : Answer} {x y : Slices} where
  pub GivesForward_one : GivesForward p W before r x → GivesForward p W before s y → (r ≡ s) × (x ≡ y)
  GivesForward_one a b = given_one a b

  pub GivesInverse_one : GivesInverse p W before r x → GivesInverse p W before s y → (r ≡ s) × (x ≡ y)
  GivesInverse_one a b = given_one a b

  module _ (stage end input : List Float) where
    pub GivesSpectrum_one : GivesSpectrum p W stage end input before r x → GivesSpectrum p W stage end input before s y → (r ≡ s) × (x ≡ y)
    GivesSpectrum_one a b = given_one a b

    pub GivesSamples_one : GivesSamples p W stage end input before r x → GivesSamples p W stage end input before s y → (r ≡ s) × (x ≡ y)
    GivesSamples_one a b = given_one a b

pub GivesStage_one : (p : Record) (j W : ℕ) (input output twiddles : List Float) {r s : Answer} {x y : List Float}
    → GivesStage p j W input output twiddles r x → GivesStage p j W input output twiddles s y → (r ≡ s) × (x ≡ y)
GivesStage_one p j W input output twiddles a b = given_one a b

pub GivesRemainderStage_one : (p : Record) (j m w : ℕ) (input other : List ℕ) {r s : Answer} {x y : List ℕ}
    → GivesRemainderStage p j m w input other r x → GivesRemainderStage p j m w input other s y → (r ≡ s) × (x ≡ y)
GivesRemainderStage_one p j m w input other a b = given_one a b

pub GivesRemainderRun_one : (p : Record) (m w : ℕ) (before : Two ℕ) {r s : Ran} {x y : Two ℕ}
    → GivesRemainderRun p m w before r x → GivesRemainderRun p m w before s y → (r ≡ s) × (x ≡ y)
GivesRemainderRun_one p m w before a b = (agree a.answer b.answer, agree a.cells b.cells)

pub GivesHeard_one : (p : Record) (W : ℕ) (stage end input : List Float) (lo hi : ℕ) (threshold : Float) (before : Slices) {r s : Heard} {x y : Slices}
    → GivesHeard p W stage end input lo hi threshold before r x → GivesHeard p W stage end input lo hi threshold before s y → (r ≡ s) × (x ≡ y)
GivesHeard_one p W stage end input lo hi threshold before a b = (agree a.answer b.answer, agree a.cells b.cells)

pub Answers_one : (v : Verdict) {r s : Answer} → Answers v r → Answers v s → r ≡ s
Answers_one v a b = agree a b

pub Crosses_one : (found : Result Found Refusal) {r s : Wav} → Crosses found r → Crosses found s → r ≡ s
Crosses_one found a b = agree a b

pub GivesMeasured_one : {file : List ℕ} {r s : Wav} → GivesMeasured file r → GivesMeasured file s → r ≡ s
GivesMeasured_one a b = agree a.answer b.answer

pub GivesRead_one : {file : List ℕ} {before : List Float} {r s : Wav} {x y : List Float} → GivesRead file before r x → GivesRead file before s y
    → (r ≡ s) × (x ≡ y)
GivesRead_one a b = (agree a.answer b.answer, agree a.cells b.cells)

pub GivesWritten_one : (rate : ℕ) (xs : List Float) (before : List ℕ) {r s : Answer} {x y : List ℕ} → GivesWritten rate xs before r x
    → GivesWritten rate xs before s y → (r ≡ s) × (x ≡ y)
GivesWritten_one rate xs before a b = given_one a b
