-- What reading and writing recordings promise. Assumes nothing.
use Rattle.std.specs.Prelude.{ℕ, ◌+◌, ◌*◌, ◌≡◌, not, List, [], ◌∷◌, ◌++◌, eqb, ltb, Float, length, Result, Ok, Err}
use Rattle.refusal.specs.Refusal.{◌⇒◌, verdict, left, Settles}
use Rattle.refusal.specs.declared.Refusal.{Refusal}
use Rattle.refusal.specs.declared.Refusal.TheVariants.{Length, Number, Wav as NoWav}
use Rattle.refusal.specs.Refusal.{Verdict}
use Rattle.refusal.specs.Refusal.{Accepted, Refused}
use Rattle.pcm.specs.Samples.{samples_at, first_unfit, sample_bytes}
use Rattle.fields.specs.Fields.{no_rate}
use Rattle.chunks.specs.Chunks.{walk_of}
use Rattle.chunks.specs.declared.inner.walk.Samples.{Samples}
use Rattle.wav.specs.Header.{most_samples, header_of}
use Rattle.wav.specs.declared.Wav.{Wav}

-- what is told of samples that are found
abbrev pub counted : Samples → Wav
counted found = record { rate = found.rate; samples = found.count }

-- what `Wav::from` promises of its answer r
abbrev pub Counts : Samples → (r : Wav) → Type 0
Counts found r = r ≡ counted found

-- what a walk tells of a file, by a verdict
abbrev pub told : Verdict → Result Samples Refusal → Result Wav Refusal
told Accepted (Ok found) = Ok (counted found)
told Accepted (Err why) = Err why
told (Refused why) walk = Err why

-- what `measure` promises of its answer r
pub record Measures (file : List ℕ) (r : Result Wav Refusal) : Type 0 where
  pub answer : r ≡ told Accepted (walk_of file)

-- where the file is accepted, 8 at 1 unless the output holds as many numbers as it has samples
abbrev pub with_room : Result Samples Refusal → (room : ℕ) → Verdict
with_room (Ok found) room = verdict (not (eqb room found.count) ⇒ Length 1 ∷ [])
with_room (Err why) room = Refused why

unfoldable pub read_verdict : (file : List ℕ) (room : ℕ) → Verdict
read_verdict file room = with_room (walk_of file) room

-- the samples that a walk has found in a file
abbrev pub samples_in : (file : List ℕ) → Result Samples Refusal → List Float
samples_in file (Ok found) = samples_at file found.at found.count
samples_in file (Err why) = []

-- what `read` promises of its answer r and of what is left in the output
pub record Reads (file : List ℕ) (before : List Float) (r : Result Wav Refusal) (after : List Float) : Type 0 where
  pub answer : r ≡ told (read_verdict file (length before)) (walk_of file)
  pub cells : after ≡ left (read_verdict file (length before)) (samples_in file (walk_of file)) before

-- 17 at 24 for a rate, 8 at 0 for too many samples, 8 at 1 for a file of another length, 9 for a sample that does not fit
unfoldable pub write_verdict : (rate : ℕ) (xs : List Float) (file : ℕ) → Verdict
write_verdict rate xs file = verdict (no_rate rate ⇒ NoWav 24 ∷ ltb most_samples (length xs) ⇒ Length 0 ∷ not (eqb file (44 + 2 * length xs)) ⇒ Length 1
    ∷ ltb (first_unfit xs) (length xs) ⇒ Number (first_unfit xs) ∷ [])

-- a file of samples
unfoldable pub file_of : (rate : ℕ) (xs : List Float) → List ℕ
unfolding header_of
file_of rate xs = header_of rate (length xs) ++ sample_bytes xs

-- what `write` promises of its answer r and of what is left in the file
abbrev pub Writes : (rate : ℕ) (xs : List Float) (before : List ℕ) (r : Verdict) (after : List ℕ) → Type 0
Writes rate xs before r after = Settles (write_verdict rate xs (length before)) (file_of rate xs) before r after
