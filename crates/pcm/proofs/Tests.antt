-- The code's test of a number, and the word that it makes of one that passes, are the definitions'. Assumes nothing.
use Rattle.sequences.proofs.Basics.{lit≤, zero, suc, zero-mul, lt_of_le_of_lt, le→leb, mul-lt-mul_of_pos_right, le_of_suc-le-suc, ◌≡◌, refl, sym, ap, ap₂, ◌∙◌}
use Rattle.sequences.proofs.Basics.{subst, ℕ, ◌+◌, ◌-◌, ◌*◌, ◌/◌, ◌%◌, ◌^◌, ◌<◌, ◌≤◌, mul-one, mul_right_comm, mul-le-mul_right, mul-mod_left, lt_of_not-le}
use Rattle.sequences.proofs.Basics.{zero-lt-suc, lt_of_lt_of_le, le_trans, div-lt_iff_lt-mul, arith, dec_le, ℕ_discrete, dite, Bool, true, false, cond, ◌&&◌}
use Rattle.sequences.proofs.Basics.{T, ltb, leb, eqb, lt-ltb, le-ltb, le-leb, lt-leb, eq-eqb, ne_eqb, lit<}
use lib.IntN.{pos}
use lib.Ieee.{Float, nan, inf, fin, binary32, up, down, round, add, sub, mul, neg, lt, eq, level, below, of_bits, of_int, in_float, in_unsigned, to_unsigned}
use lib.Ieee.{fits as ieee_fits}
use lib.Ieee.Fits.{down_pos}
use lib.Ieee.Exact.{HasValue}
use lib.Ieee.Nearest.{closest}
use lib.Ieee.Back.{round_whole, unsigned_back}
use Rattle.pcm.specs.Samples.{fits, word_of}
use Rattle.pcm.proofs.Constants.{scale, lowest, highest, shift, scale_is, highest_is, shift_is}
use Rattle.fractions.proofs.Fractions.{of_value, eq_at, lt_at, sub_mul, closest_whole}
use Rattle.pcm.proofs.Samples.{most, most_most, at_most, word_at, whole_div, Sample, sampled}
use Rattle.pcm.proofs.Steps.{moved, product_is, product_at, product_exact, product_over, total_is, nearest_whole, rest, rest_value}

-- ---- of naturals: whether a / b is whole

-- what is left of 3 * 2 ^ 22 with q added or taken away is q
rest_level : (s : Bool) (q b : ℕ) → q < 12582912 → level (ltb (moved s 12582912 q) 12582912) (rest 12582912 (moved s 12582912 q) * b) s (q * b) ≡ true
rest_level false q b l =
    let left : 12582912 + q - 12582912 ≡ q = omega arith in
    rw (le-ltb (12582912 + q) 12582912 (omega arith), left, eq-eqb (q * b) (q * b) refl)
rest_level true zero b l = rw (zero-mul b)
rest_level true (suc q) b l =
    let left : 12582912 - (12582912 - suc q) ≡ suc q = omega arith in
    rw (lt-ltb (12582912 - suc q) 12582912 (omega arith), left, eq-eqb (suc q * b) (suc q * b) refl)

-- times b
moved_mul : (s : Bool) (n q b : ℕ) → moved s (n * b) (q * b) ≡ moved s n q * b
moved_mul true n q b = sym (sub_mul n q b)
moved_mul false n q b = omega arith

-- n is 3 * 2 ^ 22 with a / b added or taken away, rounded: what is left of it is a / b only if that is whole
whole_level : (s : Bool) (a b n : ℕ) → 0 < b → a < 12582912 * b → n ≡ closest (moved s (12582912 * b) a) b
    → level (ltb n 12582912) (rest 12582912 n * b) s a ≡ eqb (a % b) 0
whole_level s a b n B l e = dite (ℕ_discrete (a % b) 0) (λ (z : a % b ≡ 0).
    let q = a / b in
    let w : q * b ≡ a = whole_div a b z in
    let is : n ≡ moved s 12582912 q =
    e ∙ ap (λ (c : ℕ). closest (moved s (12582912 * b) c) b) (sym w) ∙ ap (λ (c : ℕ). closest c b) (moved_mul s 12582912 q b)
    ∙ closest_whole (moved s 12582912 q) b B in
    ap₂ (λ (n a : ℕ). level (ltb n 12582912) (rest 12582912 n * b) s a) is (sym w) ∙ rest_level s q b ((div-lt_iff_lt-mul B).1 l) ∙ sym (eq-eqb (a % b) 0 z))
    (λ (z : a % b ≡ 0 → ⊥). rw (
      ne_eqb (rest 12582912 n * b) a (λ (h : rest 12582912 n * b ≡ a). z (ap (λ (c : ℕ). c % b) (sym h) ∙ mul-mod_left (rest 12582912 n) b)),
      ne_eqb (a % b) 0 z,
    ))

-- the range tested before or after
range_last : (a b c : ℕ) → 0 < b → cond (ltb (c * b) a) false (eqb (a % b) 0) ≡ (eqb (a % b) 0 && leb (a / b) c)
range_last a b c B = dite (dec_le a (c * b)) (λ (h : a ≤ c * b).
    rw (le-ltb (c * b) a h, le-leb (a / b) c (le_of_suc-le-suc ((div-lt_iff_lt-mul B).1 (omega arith)))) (sym (and_true (eqb (a % b) 0))))
    (λ (h : a ≤ c * b → ⊥).
    let g : c * b < a = lt_of_not-le h in
    rw (lt-ltb (c * b) a g) (dite (ℕ_discrete (a % b) 0)
    (λ (z : a % b ≡ 0). rw (lt-leb (a / b) c (lt_of_not-le (λ (f : a / b ≤ c). omega (arith, mul-le-mul_right b f, whole_div a b z))))
    (sym (and_false (eqb (a % b) 0))))
    (λ (z : a % b ≡ 0 → ⊥). rw (ne_eqb (a % b) 0 z))))
  where
    and_true : (p : Bool) → (p && true) ≡ p
    and_true true = refl
    and_true false = refl

    and_false : (p : Bool) → (p && false) ≡ false
    and_false true = refl
    and_false false = refl

-- ---- the test

-- the code's, of a number times 32,768
abbrev tested : Float → Bool
tested v = cond (lt v lowest) false (cond (lt highest v) false (eq (sub binary32 (add binary32 v shift) shift) v))

module _ (v : Float) (s : Bool) (a b : ℕ) (B : 0 < b) (val : HasValue v s a b) where
  -- what is left of a number in range equals it where it is whole
  rest_eq : a ≤ most s * b → eq (sub binary32 (add binary32 v shift) shift) v ≡ eqb (a % b) 0
  rest_eq l =
      let u : a ≤ 32768 * b = le_trans l (mul-le-mul_right b (most_most s)) in
      let t = moved s (12582912 * b) a in let n = closest t b in
      let (small, w) = nearest_whole t b B (moved_least s u) (moved_most s u) in
      let w' : HasValue (add binary32 v shift) false n 1 = subst (λ (x : Float). HasValue x false n 1) (sym (total_is v s a b B (omega arith) val)) w in
      let r = rest_value (add binary32 v shift) shift n 12582912 small (lit≤ tt) w' (refl, refl) in
      eq_at (sub binary32 (add binary32 v shift) shift) v (ltb n 12582912) s (rest 12582912 n * b) a b B
      (of_value (λ (x : Float). HasValue x (ltb n 12582912) (rest 12582912 n * b) b) (sub binary32 (add binary32 v shift) shift) (ltb n 12582912)
      (rest 12582912 n) 1 r
      (λ m e p. (refl, over (m * up e) (rest 12582912 n) (down e) p))) val
      ∙ whole_level s a b n B (omega arith) refl
    where
      moved_least : (s : Bool) → a ≤ 32768 * b → 8388608 * b ≤ moved s (12582912 * b) a
      moved_least true u = omega arith
      moved_least false u = omega arith

      moved_most : (s : Bool) → a ≤ 32768 * b → moved s (12582912 * b) a < 16777216 * b
      moved_most true u = omega arith
      moved_most false u = omega arith

      over : (n k d : ℕ) → n * 1 ≡ k * d → n * b ≡ k * b * d
      over n k d h = ap (λ (z : ℕ). z * b) (sym (mul-one n) ∙ h) ∙ mul_right_comm k d b

  -- so it passes where it is whole and in range
  tested_at : tested v ≡ cond (ltb (most s * b) a) false (eqb (a % b) 0)
  tested_at =
      rw (
        lt_at v lowest s true a (32768 * b) b B val (refl, sym (mul-one (32768 * b))),
        lt_at highest v false s (32767 * b) a b B (refl, sym (mul-one (32767 * b))) val,
      ) (go s (eq (sub binary32 (add binary32 v shift) shift) v) rest_eq)
    where
      last : (n : ℕ) (q : Bool) → (a ≤ n → q ≡ eqb (a % b) 0) → cond (ltb n a) false q ≡ cond (ltb n a) false (eqb (a % b) 0)
      last n q k = dite (dec_le a n) (λ (h : a ≤ n). rw (le-ltb n a h) (k h)) (λ (h : a ≤ n → ⊥). rw (lt-ltb n a (lt_of_not-le h)))

      go : (s q : Bool) → (a ≤ most s * b → q ≡ eqb (a % b) 0)
          → cond (below s a true (32768 * b)) false (cond (below false (32767 * b) s a) false q) ≡ cond (ltb (most s * b) a) false (eqb (a % b) 0)
      go true q k = last (32768 * b) q k
      go false q k = last (32767 * b) q k

-- which is the definition's test
tested_is : (x : Float) → T (ieee_fits binary32 x) → tested (mul binary32 x scale) ≡ fits x
unfolding fits mul sub lt eq
tested_is nan t = refl
tested_is (inf true) t = refl
tested_is (inf false) t = refl
tested_is (fin s m e) t =
    let n = m * up e * 32768 in let d = down e in
    ap tested (product_is s m e) ∙ dite (dec_le (2 ^ 128 * d) n) (λ (h : 2 ^ 128 * d ≤ n).
    let l : most s * d < n = over s (down_pos e) h in
    ap tested (product_over s n d (down_pos e) h) ∙ infinite s ∙ rw (lt-ltb (most s * d) n l) at (range_last n d (most s) (down_pos e)))
    (λ (h : 2 ^ 128 * d ≤ n → ⊥). tested_at (round binary32 s n d) s n d (down_pos e) (product_exact s m e t (lt_of_not-le h))
    ∙ range_last n d (most s) (down_pos e))
  where
    infinite : (s : Bool) → tested (inf s) ≡ false
    infinite true = refl
    infinite false = refl

    over : (s : Bool) {n d : ℕ} → 0 < d → 2 ^ 128 * d ≤ n → most s * d < n
    over s D h = lt_of_lt_of_le (mul-lt-mul_of_pos_right (go s) D) h
      where
        go : (s : Bool) → most s < 2 ^ 128
        go true = lit< tt
        go false = lit< tt

-- with the numbers as a program writes them
module _ (x : Float) (g : ieee_fits binary32 x ≡ true) where
  -- 32,768 times x
  abbrev product : Float
  product = mul binary32 x (of_bits binary32 1191182336)

  -- with 3 * 2 ^ 22 added and taken away
  abbrev left : Float
  left = sub binary32 (add binary32 product (of_bits binary32 1262485504)) (of_bits binary32 1262485504)

  -- all of the test
  test_is : cond (lt product (neg (of_bits binary32 1191182336))) false (cond (lt (of_bits binary32 1191181824) product) false (eq left product)) ≡ fits x
  unfolding neg
  test_is = rw (scale_is, highest_is, shift_is) (tested_is x (subst T (sym g) tt))

  -- its three outcomes
  pub too_low : lt product (neg (of_bits binary32 1191182336)) ≡ true → false ≡ fits x
  too_low e = rw e at test_is

  pub too_high : lt product (neg (of_bits binary32 1191182336)) ≡ false → lt (of_bits binary32 1191181824) product ≡ true → false ≡ fits x
  too_high e h = rw (e, h) at test_is

  pub in_range : lt product (neg (of_bits binary32 1191182336)) ≡ false → lt (of_bits binary32 1191181824) product ≡ false → eq left product ≡ fits x
  in_range e h = rw (e, h) at test_is

-- ---- the word

-- a sample's whole number is added or taken away exactly
sum_is : (x : Float) (p : Sample x) → add binary32 (mul binary32 x scale) shift ≡ of_int binary32 (pos (moved p.sign 12582912 p.size))
unfolding of_int
sum_is x p =
    let s = p.sign in let q = p.size in let l = at_most p in
    ap (λ (y : Float). add binary32 y shift) (product_at x s q p.value)
    ∙ total_is (round binary32 s q 1) s q 1 (zero-lt-suc 0) (omega arith) (round_whole binary32 s q (omega arith))

-- so the cast loses nothing, and its last 16 bits are the word
cast_is : (x : Float) → fits x ≡ true
    → T (in_unsigned binary32 32 (add binary32 (mul binary32 x scale) shift)) × (to_unsigned 32 (add binary32 (mul binary32 x scale) shift) % 65536 ≡ word_of x)
unfolding in_float
cast_is x t =
    let p = sampled x t in let s = p.sign in let q = p.size in
    let b = unsigned_back binary32 32 (moved s 12582912 q) (le→leb _ 16777216 (room s q (at_most p))) (lt_of_le_of_lt (room s q (at_most p)) (lit< tt)) in
    rw (sum_is x p) (b.0, ap (λ (n : ℕ). n % 65536) b.1 ∙ last s q (at_most p) ∙ sym (word_at x s q p.value))
  where
    room : (s : Bool) (q : ℕ) → q ≤ 32768 → moved s 12582912 q ≤ 16777216
    room true q l = omega arith
    room false q l = omega arith

    last : (s : Bool) (q : ℕ) → q ≤ 32768 → moved s 12582912 q % 65536 ≡ cond s (65536 - q) q % 65536
    last true q l = omega arith
    last false q l = omega arith

-- with the numbers as a program writes them
module _ (x : Float) (t : fits x ≡ true) where
  -- what is cast
  abbrev total : Float
  total = add binary32 (mul binary32 x (of_bits binary32 1191182336)) (of_bits binary32 1262485504)

  -- is a whole number of 32 bits
  pub cast_whole : T (in_unsigned binary32 32 total)
  cast_whole = rw (scale_is, shift_is) (cast_is x t).0

  -- and gives the word
  pub cast_word : to_unsigned 32 total % 65536 ≡ word_of x
  cast_word = rw (scale_is, shift_is) (cast_is x t).1
