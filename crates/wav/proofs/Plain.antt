-- A plain file: the 44 bytes, then the samples. Its fields one by one; the walk over it; that a file of its length is one; and its bytes. Assumes nothing.
use Rattle.sequences.proofs.Basics.{◌≡◌, refl, sym, ap, ap₂, ◌∙◌, ℕ, suc, ◌+◌, ◌-◌, ◌*◌, ◌/◌, ◌≤◌, ◌<◌, lit≤, arith, List, [], ◌++◌, length, length-append}
use Rattle.sequences.proofs.Basics.{drop}
use Rattle.std.specs.Prelude.{Some, None, Ok}
use Rattle.refusal.specs.Refusal.{Verdict}
use Rattle.little.specs.Numbers.{number_at, Bytes, bytes_of}
use Rattle.little.proofs.Numbers.{number_drop, bytes_number, number_bytes}
use Rattle.fields.specs.Fields.{mark}
use Rattle.chunks.specs.Chunks.{samples_from, going, begun, at_data, at_format, stepped, walked, ended, walk_in, walk_of}
use Rattle.chunks.specs.declared.inner.walk.Walk.TheVariants.{Chunk, End}
use Rattle.chunks.specs.declared.inner.walk.Samples.{Samples}
use Rattle.fields.proofs.Told.{head_fields, head_accepted, format_fields, format_accepted, format_told, data_told, data_accepted}
use Rattle.chunks.proofs.Steps.{marks_apart, step_data, step_format}
use Rattle.chunks.proofs.Walks.{walked_on, walked_ended}
use Rattle.chunks.proofs.Tight.{tight}
use Rattle.wav.specs.Header.{most_samples, header_of}

-- the fields of a plain file of n samples
pub record Plain (file : List ℕ) (rate n : ℕ) : Type 0 where
  pub long : length file ≡ 44 + 2 * n
  pub some : 0 < rate
  pub most : rate ≤ 192000
  pub riff : number_at 4 file 0 ≡ mark "RIFF"
  pub whole : number_at 4 file 4 ≡ 36 + 2 * n
  pub wave : number_at 4 file 8 ≡ mark "WAVE"
  pub format : number_at 4 file 12 ≡ mark "fmt "
  pub sixteen : number_at 4 file 16 ≡ 16
  pub pcm : number_at 2 file 20 ≡ 1
  pub single : number_at 2 file 22 ≡ 1
  pub each : number_at 4 file 24 ≡ rate
  pub second : number_at 4 file 28 ≡ 2 * rate
  pub wide : number_at 2 file 32 ≡ 2
  pub bits : number_at 2 file 34 ≡ 16
  pub samples : number_at 4 file 36 ≡ mark "data"
  pub size : number_at 4 file 40 ≡ 2 * n

-- the walk over one
pub plain_walk : (file : List ℕ) (rate n : ℕ) → Plain file rate n → walk_of file ≡ Ok (samples_from 44 rate n)
unfolding begun at_data at_format walk_in walk_of
plain_walk file rate n p =
    let L = length file in let see : ℕ → List ℕ = λ at. drop at file in
    let f = drop 12 file in let d = drop 36 file in
    let at12 : (k i : ℕ) → number_at k f i ≡ number_at k file (12 + i) = λ k i. number_drop k file 12 i in
    let at36 : (k i : ℕ) → number_at k d i ≡ number_at k file (36 + i) = λ k i. number_drop k file 36 i in
    let each = at12 4 12 ∙ p.each in let size = at36 4 4 ∙ p.size in
    let start : begun file L ≡ Ok (Chunk 12 None)
    = ap (λ (v : Verdict). going v (Ok (Chunk 12 None)))
    (head_accepted file 0 L (omega (arith, p.long)) p.riff (omega (arith, p.long, p.whole)) p.wave) in
    let one : stepped f 12 None L ≡ Ok (Chunk 36 (Some rate))
    = step_format f 12 None L (omega (arith, p.long)) (marks_apart (number_at 4 f 0) (at12 4 0 ∙ p.format))
    (at12 4 0 ∙ p.format) refl
    ∙ ap (λ (v : Verdict). going v (Ok (Chunk 36 (Some (number_at 4 f 12)))))
    (format_accepted f 12 L (omega (arith, p.long)) (at12 4 4 ∙ p.sixteen) (at12 2 8 ∙ p.pcm) (at12 2 10 ∙ p.single) (omega (arith, each, p.some))
    (omega (arith, each, p.most)) (at12 4 16 ∙ p.second ∙ ap (λ (x : ℕ). 2 * x) (sym each)) (at12 2 20 ∙ p.wide) (at12 2 22 ∙ p.bits))
    ∙ ap (λ (x : ℕ). Ok (Chunk 36 (Some x))) each in
    let two : stepped d 36 (Some rate) L ≡ Ok (End (samples_from 44 rate n))
    = step_data d 36 (Some rate) L (omega (arith, p.long)) (at36 4 0 ∙ p.samples)
    ∙ ap (λ (v : Verdict). going v (Ok (End (samples_from 44 rate (number_at 4 d 4 / 2)))))
    (data_accepted d 36 L (omega (arith, p.long)) (omega (arith, size)) (omega (arith, p.long, size)))
    ∙ ap (λ (x : ℕ). Ok (End (samples_from 44 rate x))) (omega (arith, size)) in
    let k = L - 2 in
    let more : L ≡ suc (suc k) = omega (arith, p.long) in
    ap ended (ap (walked L see L) start ∙ ap (λ (j : ℕ). walked j see L (Ok (Chunk 12 None))) more ∙ walked_on see L (suc k) 12 None
    ∙ ap (walked (suc k) see L) one ∙ walked_on see L k 36 (Some rate) ∙ ap (walked k see L) two ∙ walked_ended see L k (samples_from 44 rate n))

-- a file of that length that is accepted is one
pub tight_plain : (file : List ℕ) (w : Samples) → walk_of file ≡ Ok w → length file ≡ 44 + 2 * w.count → Plain file w.rate w.count
tight_plain file w a long =
    let L = length file in let t = tight file w a long in
    let f = drop 12 file in let d = drop 36 file in
    let at12 : (k i : ℕ) → number_at k f i ≡ number_at k file (12 + i) = λ k i. number_drop k file 12 i in
    let at36 : (k i : ℕ) → number_at k d i ≡ number_at k file (36 + i) = λ k i. number_drop k file 36 i in
    let h = head_fields file 0 L t.head in let g = format_fields f 12 L t.format in let told = format_told f 12 L _ refl t.format in
    let even = (data_told d 36 L _ refl t.samples).2 in
    let is : w ≡ samples_from 44 (number_at 4 f 12) (number_at 4 d 4 / 2) = cc (a, t.walk) in
    let rate : w.rate ≡ number_at 4 f 12 = ap (λ (x : Samples). x.rate) is in
    let count : w.count ≡ number_at 4 d 4 / 2 = ap (λ (x : Samples). x.count) is in
    record {
      long = long;
      some = omega (arith, rate, told.1);
      most = omega (arith, rate, told.2);
      riff = h.0;
      whole = omega (arith, h.1, long);
      wave = h.2;
      format = sym (at12 4 0) ∙ t.format_id;
      sixteen = sym (at12 4 4) ∙ g.0;
      pcm = sym (at12 2 8) ∙ g.1;
      single = sym (at12 2 10) ∙ g.2;
      each = sym (at12 4 12) ∙ sym rate;
      second = sym (at12 4 16) ∙ g.3 ∙ ap (λ (x : ℕ). 2 * x) (sym rate);
      wide = sym (at12 2 20) ∙ g.4;
      bits = sym (at12 2 22) ∙ g.5;
      samples = sym (at36 4 0) ∙ t.data_id;
      size = sym (at36 4 4) ∙ omega (arith, count, even);
    }

-- the 44 bytes before any others are one
pub header_plain : (rate n : ℕ) (rest : List ℕ) → 0 < rate → rate ≤ 192000 → n ≤ most_samples → length rest ≡ 2 * n
    → Plain (header_of rate n ++ rest) rate n
unfolding number_at header_of
header_plain rate n rest some most few long =
    record {
      long = length-append (header_of rate n) rest ∙ omega (arith, long);
      some = some;
      most = most;
      riff = refl;
      whole = number_bytes 4 (36 + 2 * n) [] (omega (arith, few));
      wave = refl;
      format = refl;
      sixteen = refl;
      pcm = refl;
      single = refl;
      each = number_bytes 4 rate [] (omega (arith, most));
      second = number_bytes 4 (2 * rate) [] (omega (arith, most));
      wide = refl;
      bits = refl;
      samples = refl;
      size = number_bytes 4 (2 * n) [] (omega (arith, few));
    }

-- a plain file begins with the 44 bytes
pub plain_header : (file : List ℕ) (rate n : ℕ) → Bytes file → Plain file rate n → file ≡ header_of rate n ++ drop 44 file
unfolding number_at header_of
plain_header file rate n b p =
    on 4 0 p.riff (lit≤ tt) (on 4 4 p.whole (lit≤ tt) (on 4 8 p.wave (lit≤ tt) (on 4 12 p.format (lit≤ tt) (on 4 16 p.sixteen (lit≤ tt)
    (on 2 20 p.pcm (lit≤ tt) (on 2 22 p.single (lit≤ tt) (on 4 24 p.each (lit≤ tt) (on 4 28 p.second (lit≤ tt) (on 2 32 p.wide (lit≤ tt)
    (on 2 34 p.bits (lit≤ tt) (on 4 36 p.samples (lit≤ tt) (on 4 40 p.size (lit≤ tt) refl))))))))))))
  where
    -- the bytes of a field, and those after it
    on : (k i : ℕ) {v : ℕ} {rest : List ℕ} → number_at k file i ≡ v → i + k ≤ 44 → drop (i + k) file ≡ rest → drop i file ≡ bytes_of k v ++ rest
    on k i e h f = bytes_number k file i b (omega (arith, h, p.long)) ∙ ap₂ (λ (x : ℕ) (r : List ℕ). bytes_of k x ++ r) e f
