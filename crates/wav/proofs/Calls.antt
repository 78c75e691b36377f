-- What a call answers and leaves, by its verdict. Assumes nothing.
use Rattle.sequences.proofs.Basics.{◌≡◌, refl, sym, ap, ◌∙◌, ℕ, ◌+◌, ◌*◌, ◌≤◌, ◌<◌, arith, List, length, dite, ℕ_discrete}
use Rattle.std.specs.Prelude.{Result, Ok, Err}
use lib.Ieee.{Float}
use Rattle.refusal.specs.Refusal.{left}
use Rattle.refusal.specs.declared.Refusal.{Refusal}
use Rattle.refusal.specs.declared.Refusal.TheVariants.{Length}
use Rattle.refusal.specs.Refusal.{Verdict}
use Rattle.refusal.specs.Refusal.{Accepted, Refused}
use Rattle.refusal.proofs.Rows.{deciding, accepted}
use Rattle.pcm.specs.Samples.{samples_at, first_unfit}
use Rattle.chunks.specs.Chunks.{walk_of}
use Rattle.chunks.specs.declared.inner.walk.Samples.{Samples}
use Rattle.wav.specs.Header.{most_samples}
use Rattle.wav.specs.Wav.{counted, told, Measures, with_room, read_verdict, samples_in, Reads, write_verdict}
use Rattle.wav.specs.declared.Wav.{Wav}

-- ---- what is read

-- the output holds as many numbers as there are samples, or not
room_fits : (s : Samples) (room : ℕ) → room ≡ s.count → with_room (Ok s) room ≡ Accepted
room_fits s room e = let it : Accepted ≡ with_room (Ok s) room = search deciding depth 10 in sym it

room_short : (s : Samples) (room : ℕ) → (room ≡ s.count → ⊥) → with_room (Ok s) room ≡ Refused (Length 1)
room_short s room n = let it : Refused (Length 1) ≡ with_room (Ok s) room = search deciding depth 10 in sym it

-- a reading is accepted exactly where the file is and the output holds the samples
pub read_accepted : (file : List ℕ) (s : Samples) (room : ℕ) → walk_of file ≡ Ok s → room ≡ s.count → read_verdict file room ≡ Accepted
unfolding read_verdict
read_accepted file s room w e = rw w (room_fits s room e)

pub read_short : (file : List ℕ) (s : Samples) (room : ℕ) → walk_of file ≡ Ok s → (room ≡ s.count → ⊥) → read_verdict file room ≡ Refused (Length 1)
unfolding read_verdict
read_short file s room w n = rw w (room_short s room n)

pub read_refused : (file : List ℕ) (why : Refusal) (room : ℕ) → walk_of file ≡ Err why → read_verdict file room ≡ Refused why
unfolding read_verdict
read_refused file why room w = rw w

-- what is measured tells of the walk
pub measured : (file : List ℕ) (m : Result Wav Refusal) (w : Wav) → Measures file m → m ≡ Ok w → (s : Samples) × (walk_of file ≡ Ok s) × (w ≡ counted s)
measured file m w c e = go (walk_of file) refl
  where
    go : (walk : Result Samples Refusal) → walk_of file ≡ walk → (s : Samples) × (walk_of file ≡ Ok s) × (w ≡ counted s)
    go (Ok s) f = let is : m ≡ Ok (counted s) = c.answer ∙ ap (told Accepted) f in (s, f, cc)
    go (Err why) f = let is : m ≡ Err why = c.answer ∙ ap (told Accepted) f in absurd (cc)

pub measured_not : (file : List ℕ) (m : Result Wav Refusal) (why : Refusal) → Measures file m → m ≡ Err why → walk_of file ≡ Err why
measured_not file m why c e = go (walk_of file) refl
  where
    go : (walk : Result Samples Refusal) → walk_of file ≡ walk → walk_of file ≡ Err why
    go (Ok s) f = let is : m ≡ Ok (counted s) = c.answer ∙ ap (told Accepted) f in absurd (cc)
    go (Err other) f = let is : m ≡ Err other = c.answer ∙ ap (told Accepted) f in cc

-- and what is read tells of the walk and of the output
module _ (file : List ℕ) (before after : List Float) (r : Result Wav Refusal) (reads : Reads file before r after) where
  -- by the verdict
  read_by : (v : Verdict) (walk : Result Samples Refusal) → walk_of file ≡ walk → read_verdict file (length before) ≡ v
      → (r ≡ told v walk) × (after ≡ left v (samples_in file walk) before)
  read_by v walk e f = (
    reads.answer ∙ ap (λ (u : Verdict). told u (walk_of file)) f ∙ ap (told v) e,
    reads.cells ∙ ap (λ (u : Verdict). left u (samples_in file (walk_of file)) before) f
        ∙ ap (λ (x : Result Samples Refusal). left v (samples_in file x) before) e,
  )

  pub read_told : (w : Wav) → r ≡ Ok w
      → (s : Samples) × (walk_of file ≡ Ok s) × (w ≡ counted s) × (length before ≡ s.count) × (after ≡ samples_at file s.at s.count)
  read_told w a = go (walk_of file) refl
    where
      go : (walk : Result Samples Refusal) → walk_of file ≡ walk
          → (s : Samples) × (walk_of file ≡ Ok s) × (w ≡ counted s) × (length before ≡ s.count) × (after ≡ samples_at file s.at s.count)
      go (Ok s) f =
          dite (ℕ_discrete (length before) s.count)
          (λ (e : length before ≡ s.count). let t = read_by Accepted (Ok s) f (read_accepted file s (length before) f e) in
          let is : r ≡ Ok (counted s) = t.0 in let same : w ≡ counted s = cc in (s, f, same, e, t.1))
          (λ (n : length before ≡ s.count → ⊥). let t = read_by (Refused (Length 1)) (Ok s) f (read_short file s (length before) f n) in
          let is : r ≡ Err (Length 1) = t.0 in absurd (cc))
      go (Err why) f =
          let t = read_by (Refused why) (Err why) f (read_refused file why (length before) f) in let is : r ≡ Err why = t.0 in absurd (cc)

-- ---- what is written

-- what an accepted writing tells
pub write_told : (rate : ℕ) (xs : List Float) (file : ℕ) (v : Verdict) → v ≡ write_verdict rate xs file → v ≡ Accepted
    → (length xs ≤ most_samples) × (file ≡ 44 + 2 * length xs) × (length xs ≤ first_unfit xs) × (0 < rate) × (rate ≤ 192000)
unfolding write_verdict
write_told rate xs file v e a = go (sym e ∙ a)
  where
    go : write_verdict rate xs file ≡ Accepted
        → (length xs ≤ most_samples) × (file ≡ 44 + 2 * length xs) × (length xs ≤ first_unfit xs) × (0 < rate) × (rate ≤ 192000)
    go t =
        let some : rate ≡ 0 → ⊥ = search accepted depth 20 in
        (search accepted depth 20, search accepted depth 20, search accepted depth 20, omega (arith, some), search accepted depth 20)

-- and when one is accepted
pub write_accepted : (rate : ℕ) (xs : List Float) (file : ℕ) → 0 < rate → rate ≤ 192000 → length xs ≤ most_samples → file ≡ 44 + 2 * length xs
    → length xs ≤ first_unfit xs → write_verdict rate xs file ≡ Accepted
unfolding write_verdict
write_accepted rate xs file some most few long fit =
    let none : rate ≡ 0 → ⊥ = λ (z : rate ≡ 0). absurd (omega (arith, some, z)) in
    let it : Accepted ≡ write_verdict rate xs file = search deciding depth 20 in
    sym it
