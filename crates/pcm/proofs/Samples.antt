-- Samples by their values: ±q / 32,768 is read from two bytes, passes the test of what can be written, and gives its two bytes. Assumes nothing.
use Rattle.sequences.proofs.Basics.{◌≡◌, refl, sym, ap, ◌∙◌, subst, ℕ, zero, suc, ◌+◌, ◌-◌, ◌*◌, ◌/◌, ◌%◌, ◌^◌, ◌<◌, ◌≤◌, mul-one, mul-mod_left}
use Rattle.sequences.proofs.Basics.{mul-div_cancel, mul_assoc, mul-pos, add-zero, mul-lt-mul_of_pos_right, lt_of_le_of_lt, le_of_lt, le_trans, lt_of_not-le}
use Rattle.sequences.proofs.Basics.{div-add-mod', zero-lt-suc, arith, dec_le, dite, Bool, true, false, false≢true, cond, ◌&&◌, T, leb, eqb, le-leb, lt-leb}
use Rattle.sequences.proofs.Basics.{leb-true, eqb-true, lit<, lit≤}
use lib.IntN.{pos}
use lib.Count.{count_trailing_zeros}
use lib.Ieee.{Float, nan, inf, fin, binary32, up, down, minus, odd, unlike, round, div, fits as ieee_fits}
use lib.Ieee.Fits.{down_pos, odd-fits, round-fits}
use lib.Ieee.Exact.{HasValue, odd_sign, round_exact}
use lib.Ieee.Scale.{round_same}
use Rattle.pcm.specs.Samples.{over, fits, word_of}
use Rattle.fractions.proofs.Fractions.{of_value, one_float}

-- ---- what is read

-- the sign and the size of ±q / 32,768
pub over_value : (s : Bool) (q : ℕ) → HasValue (over s q) s q 32768
over_value s q = subst (λ (n : ℕ). HasValue (over s q) s n 32768) (mul-one q) (odd_sign 16 s q 0 15)

-- 2 ^ (a - b) by any two numbers with that difference
minus_same : (a b c d : ℕ) → a + d ≡ c + b → minus a b ≡ minus c d
minus_same a b c d e =
    let up : a - b ≡ c - d = omega arith in let down : b - suc a ≡ d - suc c = omega arith in
    dite (dec_le b a) (λ (h : b ≤ a). rw (le-leb b a h, le-leb d c (omega arith), up))
    (λ (h : b ≤ a → ⊥). rw (lt-leb b a (lt_of_not-le h), lt-leb d c (omega (arith, lt_of_not-le h)), down))

-- in units of the smallest f32
over_units : (s : Bool) (q : ℕ) → over s q ≡ odd 16 s q 134 149
unfolding odd count_trailing_zeros
over_units s zero = refl
over_units s (suc q) =
    let t = count_trailing_zeros 16 (suc q) in
    ap (fin s (suc q / 2 ^ t)) (minus_same (0 + t) 15 (134 + t) 149 (omega arith))

-- q below 65,536 in the smallest f32 is below the largest
under : (q : ℕ) → q < 65536 → q * 2 ^ 134 < 2 ^ 277
under q l = mul-lt-mul_of_pos_right {n = 2 ^ 143} (lt_of_le_of_lt (le_of_lt l) (lit< tt)) (lit< tt)

-- so it is an f32
pub over_fits : (s : Bool) (q : ℕ) → q < 65536 → T (ieee_fits binary32 (over s q))
over_fits s q l = rw (over_units s q) (odd-fits binary32 16 s q 134 l (omega arith) (under q l))

-- q / 32,768 rounded is no other number
over_round : (s : Bool) (q : ℕ) → q < 65536 → round binary32 s q 32768 ≡ over s q
over_round s q l =
    one_float binary32 (round binary32 s q 32768) (over s q) s q 32768 (zero-lt-suc 32767) (round-fits binary32 s q 32768) (over_fits s q l)
    (round_exact binary32 s q 32768 q 134 (zero-lt-suc 32767) (omega arith) (under q l) (sym (mul_assoc q (2 ^ 134) 32768))) (over_value s q)

-- and so is a whole number divided by it
pub quotient : (x : Float) (s : Bool) (q : ℕ) → q < 65536 → HasValue x s q 1 → div binary32 x (fin false 1 (pos 15)) ≡ over s q
unfolding div
quotient x s q l v = of_value (λ (y : Float). div binary32 y (fin false 1 (pos 15)) ≡ over s q) x s q 1 v
    (λ m e p. ap (λ (t : Bool). round binary32 t (m * up e * 1) (32768 * down e)) (like s)
    ∙ round_same binary32 s (m * up e * 1) (32768 * down e) q 32768 (mul-pos (zero-lt-suc 32767) (down_pos e)) (zero-lt-suc 32767) (omega (arith, p))
    ∙ over_round s q l)
  where
    like : (s : Bool) → unlike s false ≡ s
    like true = refl
    like false = refl

-- ---- what is written

-- the largest size of a sample with a sign
abbrev pub most : Bool → ℕ
most s = cond s 32768 32767

-- 32,768 at most
pub most_most : (s : Bool) → most s ≤ 32768
most_most true = lit≤ tt
most_most false = lit≤ tt

-- a number of this value fits
pub fits_at : (x : Float) (s : Bool) (q : ℕ) → q ≤ most s → HasValue x s q 32768 → fits x ≡ true
unfolding fits
fits_at x s q l v = of_value (λ (y : Float). fits y ≡ true) x s q 32768 v
    (λ m e p. rw (p, mul-mod_left q (down e), mul-div_cancel q (down_pos e)) (le-leb q (most s) l))

-- and has these bytes
pub word_at : (x : Float) (s : Bool) (q : ℕ) → HasValue x s q 32768 → word_of x ≡ cond s (65536 - q) q % 65536
unfolding word_of
word_at x s q v = of_value (λ (y : Float). word_of y ≡ cond s (65536 - q) q % 65536) x s q 32768 v (λ m e p. rw (p, mul-div_cancel q (down_pos e)))

-- n / d with nothing left over
pub whole_div : (n d : ℕ) → n % d ≡ 0 → n / d * d ≡ n
whole_div n d e = sym (add-zero (n / d * d)) ∙ ap (λ (r : ℕ). n / d * d + r) (sym e) ∙ div-add-mod' n d

-- a number that fits is ±q / 32,768
pub record Sample (x : Float) : Type 0 where
  pub sign : Bool
  pub size : ℕ
  pub value : HasValue x sign size 32768
  pub small : size ≤ most sign

pub at_most : {x : Float} (p : Sample x) → p.size ≤ 32768
at_most p = le_trans p.small (most_most p.sign)

-- by what the definition tests
pub sampled : (x : Float) → fits x ≡ true → Sample x
unfolding fits
sampled nan t = absurd (false≢true t)
sampled (inf s) t = absurd (false≢true t)
sampled (fin s m e) t =
    let n = m * up e * 32768 in let d = down e in let h = ands (eqb (n % d) 0) (leb (n / d) (most s)) t in
    record {
      sign = s;
      size = n / d;
      value = (refl, sym (whole_div n d (eqb-true (n % d) 0 h.0)));
      small = leb-true (n / d) (most s) h.1;
    }
  where
    ands : (p q : Bool) → (p && q) ≡ true → (p ≡ true) × (q ≡ true)
    ands true q t = (refl, t)
    ands false q t = absurd (false≢true t)
