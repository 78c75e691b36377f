-- What a reader opens first: reading answers what measuring does; a file that was written is read as its samples, as numbers, and its rate; a file of 44
-- bytes and its samples that was read is written byte for byte; and a reader with a small window measures and reads a file of any length. Assumes nothing.
use Rattle.sequences.proofs.Basics.{◌≡◌, sym, ap, ap₂, ◌∙◌, subst, ℕ, ◌+◌, ◌-◌, ◌*◌, ◌<◌, ◌≤◌, min, arith, true, false, T, List, ◌++◌, length, get_or, take}
use Rattle.sequences.proofs.Basics.{drop, take_at, drop_at}
use Rattle.std.specs.Prelude.{Result, Ok, Err, IsOkAnd}
use lib.IntN.{pos}
use lib.Ieee.{Float, nan, fin, binary32, eq, fits as ieee_fits}
use lib.Ieee.Exact.{HasValue}
use Rattle.refusal.specs.Refusal.{left}
use Rattle.refusal.specs.declared.Refusal.{Refusal}
use Rattle.refusal.specs.declared.Refusal.TheVariants.{Length}
use Rattle.refusal.specs.Refusal.{Verdict}
use Rattle.refusal.specs.Refusal.{Accepted, Refused}
use Rattle.refusal.proofs.Rows.{settled}
use Rattle.little.specs.Numbers.{number_at, Bytes}
use Rattle.little.proofs.Numbers.{number_below}
use Rattle.pcm.specs.Samples.{sample_of, samples_at, word_of, first_unfit, sample_bytes}
use Rattle.pcm.proofs.Bytes.{all_fit, length_bytes}
use Rattle.pcm.proofs.Theorems.{sample_value, written_equal, written_same, samples_length, samples_at_lem, samples_cut, samples_window, read_fit, read_bytes}
use Rattle.pcm.proofs.Theorems.{written_at}
use Rattle.chunks.specs.Chunks.{samples_from, walk_in, walk_of}
use Rattle.chunks.specs.declared.inner.walk.Samples.{Samples}
use Rattle.chunks.proofs.Windows.{walk_window}
use Rattle.wav.specs.Header.{most_samples, header_of}
use Rattle.wav.specs.Wav.{told, Measures, read_verdict, samples_in, Reads, file_of, Writes}
use Rattle.wav.specs.declared.Wav.{Wav}
use Rattle.wav.proofs.Calls.{measured, measured_not, read_told, read_accepted, read_short, read_refused, write_told, write_accepted}
use Rattle.wav.proofs.Files.{header_length}
use Rattle.wav.proofs.Plain.{Plain, plain_walk, tight_plain, header_plain, plain_header}

-- ---- measuring and reading

module _ (file : List ℕ) (m : Result Wav Refusal) (before after : List Float) (r : Result Wav Refusal) (measures : Measures file m)
    (reads : Reads file before r after) where
  read_is : (v : Verdict) → read_verdict file (length before) ≡ v → r ≡ told v (walk_of file)
  read_is v e = reads.answer ∙ ap (λ (u : Verdict). told u (walk_of file)) e

  -- with room for exactly the samples that were measured, reading is accepted and answers the same
  pub measure_read : (w : Wav) → m ≡ Ok w → length before ≡ w.samples → r ≡ m
  measure_read w a e =
      let (s, walk, is) = measured file m w measures a in
      read_is Accepted (read_accepted file s (length before) walk (e ∙ ap (λ (x : Wav). x.samples) is)) ∙ sym measures.answer

  -- with any other it is refused 8 at 1
  pub measure_short : (w : Wav) → m ≡ Ok w → (length before ≡ w.samples → ⊥) → r ≡ Err (Length 1)
  measure_short w a n =
      let (s, walk, is) = measured file m w measures a in
      read_is (Refused (Length 1)) (read_short file s (length before) walk (λ f. n (f ∙ sym (ap (λ (x : Wav). x.samples) is))))

  -- and what is refused as no recording is refused in the same way
  pub measure_refused : (why : Refusal) → m ≡ Err why → r ≡ m
  measure_refused why a = read_is (Refused why) (read_refused file why (length before) (measured_not file m why measures a)) ∙ sym a

-- ---- the numbers that are read

-- what holds of what a walk has found
of_found : (P : Samples → Type 0) (walk : Result Samples Refusal) (s : Samples) → walk ≡ Ok s → P s → IsOkAnd walk P
of_found P walk s e h = subst (λ (w : Result Samples Refusal). IsOkAnd w P) (sym e) h

-- sample i is the number v of its two bytes, or from 32,768 on 65,536 less, divided by 32,768: no rounding, no infinity and no NaN
pub read_values : (file : List ℕ) (before after : List Float) (r : Result Wav Refusal) → Reads file before r after → (w : Wav) → r ≡ Ok w
    → IsOkAnd (walk_of file) (λ s. (i v : ℕ) → i < w.samples → number_at 2 file (s.at + 2 * i) ≡ v
    → (v < 32768 → HasValue (get_or after i nan) false v 32768) × (32768 ≤ v → v < 65536 → HasValue (get_or after i nan) true (65536 - v) 32768))
read_values file before after r reads w a =
    let (s, found, is, room, cells) = read_told file before after r reads w a in
    of_found _ (walk_of file) s found (λ i v l e.
    let n : w.samples ≡ s.count = ap (λ (x : Wav). x.samples) is in
    let number : get_or after i nan ≡ sample_of v = ap (λ (ys : List Float). get_or ys i nan) cells
    ∙ samples_at_lem file s.at s.count i (omega (arith, l, n)) ∙ ap sample_of e in
    (λ h. rw number ((sample_value v).0 h), λ h k. rw number ((sample_value v).1 h k)))

-- ---- a file that was written

module _ (rate : ℕ) (xs : List Float) (before file : List ℕ) (v : Verdict) (writes : Writes rate xs before v file) (a : v ≡ Accepted) where
  abbrev tells : (length xs ≤ most_samples) × (length before ≡ 44 + 2 * length xs) × (length xs ≤ first_unfit xs) × (0 < rate) × (rate ≤ 192000)
  tells = write_told rate xs (length before) v writes.answer a

  file_is : file ≡ file_of rate xs
  file_is = settled _ _ _ _ _ writes (sym writes.answer ∙ a)

  plain : Plain file rate (length xs)
  unfolding file_of
  plain = subst (λ (f : List ℕ). Plain f rate (length xs)) (sym file_is)
      (header_plain rate (length xs) (sample_bytes xs) tells.3 tells.4 tells.0 (length_bytes xs))

  walk_is : walk_of file ≡ Ok (samples_from 44 rate (length xs))
  walk_is = plain_walk file rate (length xs) plain

  -- it is measured as its rate and samples
  pub measure_written : (m : Result Wav Refusal) → Measures file m → m ≡ Ok (record { rate = rate; samples = length xs })
  measure_written m c = c.answer ∙ ap (told Accepted) walk_is

  module _ (out after : List Float) (r : Result Wav Refusal) (reads : Reads file out r after) (room : length out ≡ length xs) where
    accepted : read_verdict file (length out) ≡ Accepted
    accepted = read_accepted file (samples_from 44 rate (length xs)) (length out) walk_is room

    -- what is read from the bytes of each sample
    each : (i : ℕ) → i < length xs → get_or after i nan ≡ sample_of (word_of (get_or xs i nan))
    unfolding file_of
    each i l =
        let head = header_of rate (length xs) in
        let cells : after ≡ samples_at (head ++ sample_bytes xs) 44 (length xs) = reads.cells
        ∙ ap (λ (u : Verdict). left u (samples_in file (walk_of file)) out) accepted
        ∙ ap (samples_in file) walk_is ∙ ap (λ (f : List ℕ). samples_at f 44 (length xs)) file_is in
        ap (λ (ys : List Float). get_or ys i nan) cells
        ∙ ap (λ (k : ℕ). get_or (samples_at (head ++ sample_bytes xs) k (length xs)) i nan) (sym (header_length rate (length xs))) ∙ written_at head xs i l

    -- it is read as the same samples, as numbers, and the same rate
    pub read_written : (r ≡ Ok (record { rate = rate; samples = length xs }))
        × ((i : ℕ) → i < length xs → eq (get_or after i nan) (get_or xs i nan) ≡ true)
    read_written = (
      reads.answer ∙ ap (λ (u : Verdict). told u (walk_of file)) accepted ∙ ap (told Accepted) walk_is,
      λ i l. ap (λ (x : Float). eq x (get_or xs i nan)) (each i l) ∙ written_equal (get_or xs i nan) (all_fit xs tells.2 i l),
    )

    -- and as the same bits where it is not -0
    pub read_written_bits : (i : ℕ) → i < length xs → T (ieee_fits binary32 (get_or xs i nan)) → (get_or xs i nan ≡ fin true 0 (pos 0) → ⊥)
        → get_or after i nan ≡ get_or xs i nan
    read_written_bits i l f n = each i l ∙ written_same (get_or xs i nan) f (all_fit xs tells.2 i l) n

-- ---- a file that was read

module _ (file : List ℕ) (bytes : Bytes file) (out samples : List Float) (r : Result Wav Refusal) (reads : Reads file out r samples) (w : Wav) (a : r ≡ Ok w)
    (long : length file ≡ 44 + 2 * w.samples) where
  back : (rate n : ℕ) → Plain file rate n → file_of rate (samples_at file 44 n) ≡ file
  unfolding file_of
  back rate n p =
      ap₂ (λ (k : ℕ) (bs : List ℕ). header_of rate k ++ bs) (samples_length file 44 n) (read_bytes file bytes 44 n p.long)
      ∙ sym (plain_header file rate n bytes p)

  -- one of 44 bytes and its samples is written as its own bytes
  pub write_read : (before after : List ℕ) (v : Verdict) → length before ≡ length file → Writes w.rate samples before v after
      → (v ≡ Accepted) × (after ≡ file)
  write_read before after v e writes =
      let (s, walk, is, room, found) = read_told file out samples r reads w a in
      let rate : w.rate ≡ s.rate = ap (λ (x : Wav). x.rate) is in let n : w.samples ≡ s.count = ap (λ (x : Wav). x.samples) is in
      let p = tight_plain file s walk (long ∙ ap (λ (k : ℕ). 44 + 2 * k) n) in
      let stands : s ≡ samples_from 44 s.rate s.count = cc (walk, plain_walk file s.rate s.count p) in
      let cells : samples ≡ samples_at file 44 s.count = found ∙ ap (λ (k : ℕ). samples_at file k s.count) (ap (λ (x : Samples). x.at) stands) in
      let many : length samples ≡ s.count = ap length cells ∙ samples_length file 44 s.count in
      let fit = subst (λ (xs : List Float). length xs ≤ first_unfit xs) (sym cells) (read_fit file bytes 44 s.count) in
      let few : length samples ≤ most_samples = omega (arith, p.whole, number_below 4 file 4 bytes, many) in
      let ok = write_accepted w.rate samples (length before) (omega (arith, rate, p.some)) (omega (arith, rate, p.most)) few
      (omega (arith, e, p.long, many)) fit in (
        writes.answer ∙ ok,
        settled _ _ _ _ _ writes ok ∙ ap₂ (λ (k : ℕ) (xs : List Float). file_of k xs) rate cells ∙ back s.rate s.count p,
      )

-- ---- a file that is seen through windows

-- at each place 24 bytes, or all to the file's end, and the walk tells what measuring answers
pub measure_windows : (file : List ℕ) (size : ℕ → ℕ) → ((at : ℕ) → min 24 (length file - at) ≤ size at) → (m : Result Wav Refusal) → Measures file m
    → m ≡ told Accepted (walk_in (λ at. take (size at) (drop at file)) (length file))
measure_windows file size enough m c = c.answer ∙ ap (told Accepted) (sym (walk_window file size enough))

-- and any samples that are read are those of any window that holds their bytes, from the place on where the walk through windows finds them
pub read_windows : (file : List ℕ) (size : ℕ → ℕ) → ((at : ℕ) → min 24 (length file - at) ≤ size at) → (before after : List Float) (r : Result Wav Refusal)
    → Reads file before r after → (w : Wav) → r ≡ Ok w → IsOkAnd (walk_in (λ at. take (size at) (drop at file)) (length file)) (λ s.
    (i m p k from : ℕ) → i + m ≤ w.samples → p + from ≡ s.at + 2 * i → from + 2 * m ≤ k → take m (drop i after) ≡ samples_at (take k (drop p file)) from m)
read_windows file size enough before after r reads w a =
    let (s, found, is, room, cells) = read_told file before after r reads w a in
    of_found _ (walk_in (λ at. take (size at) (drop at file)) (length file)) s (walk_window file size enough ∙ found) (λ i m p k from l e h.
    let n : w.samples ≡ s.count = ap (λ (x : Wav). x.samples) is in
    let place : s.at + 2 * i ≡ p + from = sym e in
    let rest = s.count - (i + m) in let all : s.count ≡ i + (m + rest) = omega (arith, l, n) in
    let front = samples_at file s.at i in let mid = samples_at file (s.at + 2 * i) m in let back = samples_at file (s.at + 2 * i + 2 * m) rest in
    let parts : after ≡ front ++ (mid ++ back) = cells ∙ ap (samples_at file s.at) all ∙ samples_cut file s.at i (m + rest)
    ∙ ap (λ (ys : List Float). front ++ ys) (samples_cut file (s.at + 2 * i) m rest) in
    ap (λ (ys : List Float). take m (drop i ys)) parts
    ∙ ap (take m) (drop_at front (mid ++ back) i (samples_length file s.at i)) ∙ take_at mid back m (samples_length file (s.at + 2 * i) m)
    ∙ ap (λ (j : ℕ). samples_at file j m) place ∙ sym (samples_window file p k from m h))
