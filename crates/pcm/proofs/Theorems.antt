-- What a caller may believe of samples and their bytes: what is read has its value, can be written and gives the same bytes; what is written is read as the
-- same number, and as the same float unless it is -0; and a slice can be read in parts. Assumes nothing.
use Rattle.sequences.proofs.Basics.{◌≡◌, refl, sym, ap, ap₂, ◌∙◌, ℕ, zero, suc, ◌+◌, ◌-◌, ◌*◌, ◌%◌, ◌<◌, ◌≤◌, zero-lt-suc, zero-add, mod-lt, lt_of_not-le}
use Rattle.sequences.proofs.Basics.{arith, dec_le, dite, Bool, true, false, bool_beq, ◌||◌, ◌⊎◌, inl, inr, ⊎_elim, eqb, cond, T, lt-ltb, le-ltb, eq-eqb, List}
use Rattle.sequences.proofs.Basics.{◌++◌, take, drop, get_or, length, length-append, get_or-append, get_or-append-add, get_or-drop, length-drop, not, ◌/◌}
use lib.IntN.{pos}
use lib.Ieee.{Float, nan, inf, fin, binary32, odd, eq, fits as ieee_fits}
use lib.Ieee.Exact.{HasValue}
use Rattle.sequences.specs.Lists.{tabulate}
use Rattle.sequences.specs.Pairs.{pair_at}
use Rattle.sequences.proofs.First.{each_fails}
use Rattle.sequences.proofs.Pairs.{pairs_all}
use Rattle.sequences.proofs.Tables.{length_tabulate, get_d_tabulate, tabulate_same, table_all}
use Rattle.little.specs.Numbers.{number_at, Bytes}
use Rattle.little.proofs.Numbers.{number_two, number_take, number_drop, number_below}
use Rattle.pcm.specs.Samples.{over, sample_of, samples_at, fits, word_of, first_unfit, sample_bytes}
use Rattle.fractions.proofs.Fractions.{eq_at, one_float}
use Rattle.pcm.proofs.Bytes.{bytes_at}
use Rattle.pcm.proofs.Samples.{over_value, over_fits, most, fits_at, word_at, sampled}

-- ---- one sample

-- below 32,768 two bytes are their number, and from there on 65,536 less
low_is : (v : ℕ) → v < 32768 → sample_of v ≡ over false v
unfolding sample_of
low_is v l = rw (lt-ltb v 32768 l)

high_is : (v : ℕ) → 32768 ≤ v → sample_of v ≡ over true (65536 - v)
unfolding sample_of
high_is v l = rw (le-ltb v 32768 l)

-- divided by 32,768
pub sample_value : (v : ℕ) → (v < 32768 → HasValue (sample_of v) false v 32768)
    × (32768 ≤ v → v < 65536 → HasValue (sample_of v) true (65536 - v) 32768)
sample_value v = (λ l. rw (low_is v l) (over_value false v), λ l h. rw (high_is v l) (over_value true (65536 - v)))

-- a word has 16 bits
pub word_below : (x : Float) → word_of x < 65536
unfolding word_of
word_below nan = zero-lt-suc 65535
word_below (inf s) = zero-lt-suc 65535
word_below (fin s m e) = mod-lt _ (zero-lt-suc 65535)

-- what is read can be written
pub read_fits : (v : ℕ) → v < 65536 → fits (sample_of v) ≡ true
read_fits v h = dite (dec_le 32768 v) (λ (l : 32768 ≤ v). fits_at (sample_of v) true (65536 - v) (omega arith) ((sample_value v).1 l h))
    (λ (l : 32768 ≤ v → ⊥). fits_at (sample_of v) false v (omega (arith, l)) ((sample_value v).0 (lt_of_not-le l)))

-- and gives its two bytes
pub read_word : (v : ℕ) → v < 65536 → word_of (sample_of v) ≡ v
read_word v h = dite (dec_le 32768 v) (λ (l : 32768 ≤ v). word_at (sample_of v) true (65536 - v) ((sample_value v).1 l h) ∙ omega arith)
    (λ (l : 32768 ≤ v → ⊥). word_at (sample_of v) false v ((sample_value v).0 (lt_of_not-le l)) ∙ omega arith)

-- what is written is read as ±q / 32,768
record Read (x : Float) : Type 0 where
  sign : Bool
  size : ℕ
  small : size < 65536
  value : HasValue x sign size 32768
  back : sample_of (word_of x) ≡ over sign size

-- unless it is -0
written : (x : Float) → fits x ≡ true → HasValue x true 0 32768 ⊎ Read x
written x t = go (sampled x t).sign (sampled x t).size (sampled x t).small (sampled x t).value
  where
    -- w is the word
    read : (s : Bool) (q w : ℕ) → q < 65536 → HasValue x s q 32768 → cond s (65536 - q) q % 65536 ≡ w → sample_of w ≡ over s q → Read x
    read s q w l v e r = record { sign = s; size = q; small = l; value = v; back = ap sample_of (word_at x s q v ∙ e) ∙ r }

    go : (s : Bool) (q : ℕ) → q ≤ most s → HasValue x s q 32768 → HasValue x true 0 32768 ⊎ Read x
    go false q l v = inr (read false q q (omega arith) v (omega arith) (low_is q (omega arith)))
    go true zero l v = inl v
    go true (suc q) l v = inr (read true (suc q) (65536 - suc q) (omega arith) v (omega arith)
        (high_is (65536 - suc q) (omega arith) ∙ ap (over true) {x = 65536 - (65536 - suc q)} {y = suc q} (omega arith)))

-- so as the same number
pub written_equal : (x : Float) → fits x ≡ true → eq (sample_of (word_of x)) x ≡ true
written_equal x t = ⊎_elim (λ v. ap (λ (w : ℕ). eq (sample_of w) x) (word_at x true 0 v)
    ∙ eq_at (sample_of 0) x false true 0 0 32768 (zero-lt-suc 32767) ((sample_value 0).0 (zero-lt-suc 32767)) v)
    (λ r.
    let s = r.sign in let q = r.size in
    ap (λ (y : Float). eq y x) r.back ∙ eq_at (over s q) x s s q q 32768 (zero-lt-suc 32767) (over_value s q) r.value
    ∙ rw (eq-eqb q q refl) (alike s (eqb q 0)))
    (written x t)
  where
    alike : (s p : Bool) → (bool_beq s s || p) ≡ true
    alike true p = refl
    alike false p = refl

-- and as the same float
pub written_same : (x : Float) → T (ieee_fits binary32 x) → fits x ≡ true → (x ≡ fin true 0 (pos 0) → ⊥) → sample_of (word_of x) ≡ x
unfolding odd
written_same x g t ne = ⊎_elim (λ v. absurd (ne (is true 0 (zero-lt-suc 65535) v)))
    (λ r. r.back ∙ sym (is r.sign r.size r.small r.value)) (written x t)
  where
    is : (s : Bool) (q : ℕ) → q < 65536 → HasValue x s q 32768 → x ≡ over s q
    is s q l v = one_float binary32 x (over s q) s q 32768 (zero-lt-suc 32767) g (over_fits s q l) v (over_value s q)

-- ---- many

-- of a slice in two parts
pub samples_cut : (bs : List ℕ) (from a b : ℕ) → samples_at bs from (a + b) ≡ samples_at bs from a ++ samples_at bs (from + 2 * a) b
unfolding samples_at
samples_cut bs from a b = sym (table_all f (first ++ second) (a + b) nan long each)
  where
    f : ℕ → Float
    f i = sample_of (number_at 2 bs (from + 2 * i))

    g : ℕ → Float
    g i = sample_of (number_at 2 bs (from + 2 * a + 2 * i))

    first : List Float
    first = tabulate a 0 f

    second : List Float
    second = tabulate b 0 g

    long : length (first ++ second) ≡ a + b
    long = length-append first second ∙ ap₂ ◌+◌ (length_tabulate a 0 f) (length_tabulate b 0 g)

    each : (k : ℕ) → k < a + b → get_or (first ++ second) k nan ≡ f k
    each k l = dite (dec_le a k) (λ (h : a ≤ k).
        let n = length_tabulate a 0 f in
        ap (λ (i : ℕ). get_or (first ++ second) i nan) {x = k} {y = length first + (k - a)} (omega (arith, n)) ∙ get_or-append-add first second (k - a) nan
        ∙ get_d_tabulate b 0 g (k - a) nan (omega arith)
        ∙ ap (λ (i : ℕ). sample_of (number_at 2 bs i)) {x = from + 2 * a + 2 * (0 + (k - a))} {y = from + 2 * k} (omega arith))
        (λ (h : a ≤ k → ⊥). let l' : k < a = lt_of_not-le h in
        get_or-append first second nan k (omega (arith, length_tabulate a 0 f)) ∙ get_d_tabulate a 0 f k nan l' ∙ ap f (zero-add k))

-- and through a window: k bytes from a place on
pub samples_window : (bs : List ℕ) (at k from n : ℕ) → from + 2 * n ≤ k → samples_at (take k (drop at bs)) from n ≡ samples_at bs (at + from) n
unfolding samples_at
samples_window bs at k from n l = tabulate_same n 0 _ _ (λ i li.
    let j = from + 2 * (0 + i) in
    let place : at + j ≡ at + from + 2 * (0 + i) = omega arith in
    ap sample_of (number_take 2 (drop at bs) k j (omega arith) ∙ number_drop 2 bs at j ∙ ap (number_at 2 bs) place))

-- as many as are asked for
pub samples_length : (bs : List ℕ) (from n : ℕ) → length (samples_at bs from n) ≡ n
unfolding samples_at
samples_length bs from n = length_tabulate n 0 _

-- each from its two bytes
pub samples_at_lem : (bs : List ℕ) (from n i : ℕ) → i < n → get_or (samples_at bs from n) i nan ≡ sample_of (number_at 2 bs (from + 2 * i))
unfolding samples_at
samples_at_lem bs from n i l = get_d_tabulate n 0 _ i nan l ∙ ap (λ (k : ℕ). sample_of (number_at 2 bs (from + 2 * k))) (zero-add i)

module _ (bs : List ℕ) (bytes : Bytes bs) (from n : ℕ) where
  -- samples that were read can be written
  pub read_fit : length (samples_at bs from n) ≤ first_unfit (samples_at bs from n)
  unfolding first_unfit
  read_fit = each_fails nan _ (samples_at bs from n) (λ i l.
      ap (λ (x : Float). not (fits x)) (samples_at_lem bs from n i (omega (arith, l, samples_length bs from n)))
      ∙ ap not (read_fits (number_at 2 bs (from + 2 * i)) (number_below 2 bs (from + 2 * i) bytes)))

  -- and give their bytes
  pub read_bytes : length bs ≡ from + 2 * n → sample_bytes (samples_at bs from n) ≡ drop from bs
  unfolding sample_bytes
  read_bytes long = sym (pairs_all 0 (drop from bs) (length xs) 0 _ (omega (arith, length-drop from bs, long, many)) each)
    where
      xs : List Float
      xs = samples_at bs from n

      many : length xs ≡ n
      many = samples_length bs from n

      each : (p : ℕ) → p < length xs → pair_at 0 (drop from bs) p ≡ (word_of (get_or xs (0 + p) nan) % 256, word_of (get_or xs (0 + p) nan) / 256)
      each p l =
          let i = from + 2 * p in let v = number_at 2 bs i in
          let word : word_of (get_or xs (0 + p) nan) ≡ v = ap (λ (k : ℕ). word_of (get_or xs k nan)) (zero-add p)
          ∙ ap word_of (samples_at_lem bs from n p (omega (arith, l, many))) ∙ read_word v (number_below 2 bs i bytes) in
          let place : from + (2 * p + 1) ≡ i + 1 = omega arith in
          let low : v % 256 ≡ get_or bs i 0 = omega (arith, number_two bs i, bytes i) in
          let high : v / 256 ≡ get_or bs (i + 1) 0 = omega (arith, number_two bs i, bytes i) in
          ap₂ (λ (a b : ℕ). (a, b)) (get_or-drop from bs (2 * p) 0 ∙ sym low ∙ ap (λ (x : ℕ). x % 256) (sym word))
          (get_or-drop from bs (2 * p + 1) 0 ∙ ap (λ (k : ℕ). get_or bs k 0) place ∙ sym high ∙ ap (λ (x : ℕ). x / 256) (sym word))

-- samples that were written are read again from behind any bytes
pub written_at : (head : List ℕ) (xs : List Float) (i : ℕ) → i < length xs
    → get_or (samples_at (head ++ sample_bytes xs) (length head) (length xs)) i nan ≡ sample_of (word_of (get_or xs i nan))
written_at head xs i l =
    let bs = head ++ sample_bytes xs in let at = bytes_at xs i l in let w = word_of (get_or xs i nan) in
    let low : get_or bs (length head + 2 * i) 0 ≡ w % 256 = get_or-append-add head (sample_bytes xs) (2 * i) 0 ∙ at.first in
    let place : length head + 2 * i + 1 ≡ length head + (2 * i + 1) = omega arith in
    let high : get_or bs (length head + 2 * i + 1) 0 ≡ w / 256 = ap (λ (k : ℕ). get_or bs k 0) place ∙ get_or-append-add head (sample_bytes xs) (2 * i + 1) 0
    ∙ at.second in
    samples_at_lem bs (length head) (length xs) i l ∙ ap sample_of (number_two bs (length head + 2 * i) ∙ omega (arith, low, high))
