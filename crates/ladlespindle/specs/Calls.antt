-- What the exported functions that are no planning answer, and what they leave in the buffers they are lent. Assumes nothing.
use Rattle.std.specs.Prelude.{ℕ, ◌+◌, ◌-◌, ◌≡◌, List, Float, length, Result, Ok, Err}
use Rattle.refusal.specs.Refusal.{number_of, place_of, number_in, place_in, left}
use Rattle.refusal.specs.declared.Refusal.{Refusal}
use Rattle.refusal.specs.Refusal.{Verdict}
use Rattle.refusal.specs.Refusal.{Accepted}
use Rattle.counts.specs.Counts.{result_in, buffer_number}
use Rattle.plan.specs.declared.Record.{Record}
use Rattle.schedule.specs.Buffers.{Two}
use Rattle.turn.specs.Calls.{part, turn_verdict}
use Rattle.turn.specs.Turns.{+0, turn_of, words_of}
use Rattle.twiddle.specs.Calls.{Slices, fill_verdict, filled}
use Rattle.end_twiddles.specs.declared.inner.ends.Direction.TheVariants.{Forward, Inverse}
use Rattle.kernel.specs.Floats.{stage_of as stage_words}
use Rattle.stage.specs.Calls as Floats
use Rattle.spectrum.specs.Calls.{forward_verdict, inverse_verdict}
use Rattle.power.specs.Power.{power_from, power_verdict}
use Rattle.transform.specs.Transforms.{forward_of, inverse_of, Slices as Buffers}
use Rattle.hear.specs.Hear.{decision_number, hear_verdict, heard}
use Rattle.hear.specs.declared.Heard.{Heard as Hearing}
use Rattle.chunks.specs.Chunks.{walk_of}
use Rattle.wav.specs.Wav.{told, read_verdict, samples_in, write_verdict, file_of}
use Rattle.wav.specs.declared.Wav.{Wav as Found}
use Rattle.residues.specs.Residues.{stage_of, run_of}
use Rattle.remainder.specs.Calls.{stage_verdict, run_verdict}
use Rattle.ladlespindle.specs.declared.Answer.{Answer}
use Rattle.ladlespindle.specs.declared.Heard.{Heard}
use Rattle.ladlespindle.specs.declared.Summed.{Summed}
use Rattle.ladlespindle.specs.declared.Ran.{Ran}
use Rattle.ladlespindle.specs.declared.TurnWords.{TurnWords}
use Rattle.ladlespindle.specs.declared.Wav.{Wav}

-- a verdict as two numbers
abbrev pub answered : Verdict → Answer
answered v = record { number = number_in v; place = place_in v }

-- what `Answer::from` promises of its answer r
abbrev pub Answers : Verdict → (r : Answer) → Type 0
Answers v r = r ≡ answered v

-- a sum with the refusal as two numbers
abbrev pub power_as : (number place : ℕ) → Float → Summed
power_as n k x = record { number = n; place = k; power = x }

-- by a verdict: the sum, +0 on a refusal
abbrev pub powered : Verdict → Float → Summed
powered v x = power_as (number_in v) (place_in v) (left v x +0)

-- what a call with verdict v promises of its answer r, and of what stands afterwards in what was lent
pub record Gives {A : Type 0} (v : Verdict) (made lent : A) (r : Answer) (after : A) : Type 0 where
  pub answer : r ≡ answered v
  pub cells : after ≡ left v made lent

-- ---- turns and twiddles

-- a verdict as two numbers, and two words, which are +0 on a refusal
abbrev pub worded : Verdict → Float × Float → TurnWords
worded v w = record { number = number_in v; place = place_in v; re = left v w.0 +0; im = left v w.1 +0 }

-- what `ladlespindle_turn` promises of its answer
pub record GivesTurn (t L : ℕ) (r : TurnWords) : Type 0 where
  pub answer : r ≡ worded (turn_verdict L) (words_of (turn_of (part t L)))

-- what `ladlespindle_fill_forward` and `ladlespindle_fill_inverse` promise of the answer r and of what is left in both slices
abbrev pub GivesForward : Record → (W : ℕ) → Slices → Answer → Slices → Type 0
GivesForward p W before r after = Gives (fill_verdict p W (length before.0) (length before.1)) (filled Forward p W) before r after

abbrev pub GivesInverse : Record → (W : ℕ) → Slices → Answer → Slices → Type 0
GivesInverse p W before r after = Gives (fill_verdict p W (length before.0) (length before.1)) (filled Inverse p W) before r after

-- ---- float stages

-- what `ladlespindle_stage` promises of its answer r and of what is left in the output
abbrev pub GivesStage : Record → (j W : ℕ) → (input output twiddles : List Float) → Answer → List Float → Type 0
GivesStage p j W input output twiddles r after =
    Gives (Floats.stage_verdict p j W input (length output) twiddles) (stage_words p j W twiddles input) output r after

-- ---- spectra

-- what `ladlespindle_forward` and `ladlespindle_inverse` promise of the answer r and of what is left in output and scratch
abbrev pub GivesSpectrum : Record → (W : ℕ) → (stage end input : List Float) → Buffers → Answer → Buffers → Type 0
GivesSpectrum p W stage end input before r after =
    Gives (forward_verdict p W input (length before.0) (length before.1) stage end) (forward_of p W stage end input before.1) before r after

abbrev pub GivesSamples : Record → (W : ℕ) → (stage end input : List Float) → Buffers → Answer → Buffers → Type 0
GivesSamples p W stage end input before r after =
    Gives (inverse_verdict p W input (length before.0) (length before.1) stage end)
    (inverse_of p W stage end input before.1 (length before.0)) before r after

-- what `ladlespindle_power` promises of its answer: the refusal as two numbers, and the sum
pub record GivesPower (spectrum : List Float) (lo hi : ℕ) (r : Summed) : Type 0 where
  pub answer : r ≡ powered (power_verdict spectrum lo hi) (power_from spectrum lo (hi + 1 - lo))

-- ---- the bees

-- what is heard with its verdict and its decision as numbers
abbrev pub heard_as : (number place : ℕ) → Float → (decision : ℕ) → Heard
heard_as n k x d = record { number = n; place = k; power = x; decision = d }

abbrev pub crossed_heard : Hearing → Heard
crossed_heard h = heard_as (number_in h.verdict) (place_in h.verdict) h.power (decision_number h.decision)

-- what `ladlespindle_hear` promises of its answer r and of what is left in output and scratch
pub record GivesHeard (p : Record) (W : ℕ) (stage end input : List Float) (lo hi : ℕ) (threshold : Float) (before : Buffers) (r : Heard)
    (after : Buffers) : Type 0 where
  pub answer : r ≡ crossed_heard (heard (hear_verdict p W input (length before.0) (length before.1) stage end lo hi)
      (power_from (forward_of p W stage end input before.1).0 lo (hi + 1 - lo)) threshold)
  pub cells : after ≡ left (hear_verdict p W input (length before.0) (length before.1) stage end lo hi) (forward_of p W stage end input before.1) before

-- ---- recordings

-- what a recording answers, with the refusal as two numbers, beside which stand 0 and 0
abbrev pub wav_as : (number place rate samples : ℕ) → Wav
wav_as n k rate samples = record { number = n; place = k; rate = rate; samples = samples }

abbrev pub crossed_wav : Result Found Refusal → Wav
crossed_wav (Ok w) = wav_as 0 0 w.rate w.samples
crossed_wav (Err why) = wav_as (number_of why) (place_of why) 0 0

-- what `Wav::from` promises of its answer r
abbrev pub Crosses : Result Found Refusal → (r : Wav) → Type 0
Crosses found r = r ≡ crossed_wav found

-- what `ladlespindle_wav_measure` promises of its answer r
pub record GivesMeasured (file : List ℕ) (r : Wav) : Type 0 where
  pub answer : r ≡ crossed_wav (told Accepted (walk_of file))

-- what `ladlespindle_wav_read` promises of its answer r and of what is left in the output
pub record GivesRead (file : List ℕ) (before : List Float) (r : Wav) (after : List Float) : Type 0 where
  pub answer : r ≡ crossed_wav (told (read_verdict file (length before)) (walk_of file))
  pub cells : after ≡ left (read_verdict file (length before)) (samples_in file (walk_of file)) before

-- what `ladlespindle_wav_write` promises of its answer r and of what is left in the file
abbrev pub GivesWritten : (rate : ℕ) (xs : List Float) (before : List ℕ) → Answer → (after : List ℕ) → Type 0
GivesWritten rate xs before r after = Gives (write_verdict rate xs (length before)) (file_of rate xs) before r after

-- ---- remainders

-- what `ladlespindle_remainder_stage` promises of its answer r and of what is left in the other buffer
abbrev pub GivesRemainderStage : Record → (j m w : ℕ) → (input other : List ℕ) → Answer → List ℕ → Type 0
GivesRemainderStage p j m w input other r after = Gives (stage_verdict p j m w input (length other)) (stage_of p j m w input) other r after

-- the verdict of a run of so many stages as two numbers, with the number of the buffer that holds the result, 0 on a refusal
abbrev pub ran_as : Verdict → ℕ → Ran
ran_as v count = record { number = number_in v; place = place_in v; buffer = left v (buffer_number (result_in count)) 0 }

-- what `ladlespindle_remainder_run` promises of its answer r and of what is left in both buffers
pub record GivesRemainderRun (p : Record) (m w : ℕ) (before : Two ℕ) (r : Ran) (after : Two ℕ) : Type 0 where
  pub answer : r ≡ ran_as (run_verdict p m w before.0 (length before.1)) p.count
  pub cells : after ≡ left (run_verdict p m w before.0 (length before.1)) (run_of p m w before) before
