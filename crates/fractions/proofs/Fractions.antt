-- Floats by any fractions that they equal: their sum and product, how they compare, and that the fraction and the sign decide a float. Assumes nothing.
use Rattle.sequences.proofs.Basics.{◌≡◌, refl, sym, ap, ap₂, ◌∙◌, subst, ℕ, ◌+◌, ◌-◌, ◌*◌, ◌/◌, ◌^◌, ◌<◌, ◌≤◌, mul-pos, mul_comm, mul_right_comm, mul_assoc}
use Rattle.sequences.proofs.Basics.{eq_of_mul-eq-mul_right, lt_of_not-le, mul-le-mul_right, mul-lt-mul_of_pos_right, mul-sub, arith, dec_le, ℕ_discrete, dite}
use Rattle.sequences.proofs.Basics.{mul_left_comm, mul-one, div-one, mod-one, zero-lt-suc}
use Rattle.sequences.proofs.Basics.{Bool, true, false, cond, ◌&&◌, T, ltb, eqb, lt-ltb, le-ltb, eq-eqb, ne_eqb}
use lib.IntN.{ℤ}
use lib.Ieee.{Float, nan, inf, fin, Format, prec, low, hid, top, up, down, size, round, sum, add, lt, eq, below, level, fits, to_bits, of_bits, mul, unlike}
use lib.Ieee.Fits.{down_pos}
use lib.Ieee.Exact.{HasValue}
use lib.Ieee.Nearest.{closest, closest_same, div_same}
use lib.Ieee.Scale.{round_same}
use lib.Ieee.Bits.{of_bits-to_bits}

-- ---- two numbers times c are two others times z

ltb_scale : (a b c : ℕ) → 0 < c → ltb (a * c) (b * c) ≡ ltb a b
ltb_scale a b c h = dite (dec_le b a) (λ (g : b ≤ a). le-ltb (a * c) (b * c) (mul-le-mul_right c g) ∙ sym (le-ltb a b g))
    (λ (g : b ≤ a → ⊥). let l : a < b = lt_of_not-le g in lt-ltb (a * c) (b * c) (mul-lt-mul_of_pos_right l h) ∙ sym (lt-ltb a b l))

eqb_scale : (a b c : ℕ) → 0 < c → eqb (a * c) (b * c) ≡ eqb a b
eqb_scale a b c h = dite (ℕ_discrete a b) (λ (e : a ≡ b). eq-eqb (a * c) (b * c) (ap (λ (n : ℕ). n * c) e) ∙ sym (eq-eqb a b e))
    (λ (n : a ≡ b → ⊥). ne_eqb (a * c) (b * c) (λ (e : a * c ≡ b * c). n (eq_of_mul-eq-mul_right c h a b e)) ∙ sym (ne_eqb a b n))

pub sub_mul : (a b c : ℕ) → (a - b) * c ≡ a * c - b * c
sub_mul a b c = rw (mul_comm a c, mul_comm b c, mul_comm (a - b) c) (mul-sub c a b)

module _ (x y z a b c : ℕ) (Z : 0 < z) (C : 0 < c) (p : x * c ≡ a * z) (q : y * c ≡ b * z) where
  ltb_same : ltb x y ≡ ltb a b
  ltb_same = sym (ltb_scale x y c C) ∙ ap₂ ltb p q ∙ ltb_scale a b z Z

  eqb_same : eqb x y ≡ eqb a b
  eqb_same = sym (eqb_scale x y c C) ∙ ap₂ eqb p q ∙ eqb_scale a b z Z

  sub_same : (x - y) * c ≡ (a - b) * z
  sub_same = sub_mul x y c ∙ ap₂ (λ (n k : ℕ). n - k) p q ∙ sym (sub_mul a b z)

-- so they compare and add up alike
module _ (x y z a b c : ℕ) (Z : 0 < z) (C : 0 < c) (p : x * c ≡ a * z) (q : y * c ≡ b * z) (s t : Bool) where
  sum_same : (f : Format) → sum f s x t y z ≡ sum f s a t b c
  unfolding sum
  sum_same f =
      let r : (u : Bool) (n k : ℕ) → n * c ≡ k * z → round f u n z ≡ round f u k c = λ u n k e. round_same f u n z k c Z C e in
      let both : (x + y) * c ≡ (a + b) * z = omega (arith, p, q) in
      rw (
        ltb_same x y z a b c Z C p q,
        ltb_same y x z b a c Z C q p,
        r s (x + y) (a + b) both,
        r t (y - x) (b - a) (sub_same y x z b a c Z C q p),
        r (s && ltb b a) (x - y) (a - b) (sub_same x y z a b c Z C p q),
      )

  level_same : level s x t y ≡ level s a t b
  level_same = rw (eqb_same x y z a b c Z C p q, eqb_same x 0 z a 0 c Z C p (omega arith))

below_same : (x y z a b c : ℕ) → 0 < z → 0 < c → x * c ≡ a * z → y * c ≡ b * z → (s t : Bool) → below s x t y ≡ below s a t b
below_same x y z a b c Z C p q false false = ltb_same x y z a b c Z C p q
below_same x y z a b c Z C p q false true = refl
below_same x y z a b c Z C p q true false = ltb_same 0 (x + y) z 0 (a + b) c Z C (omega arith) (omega (arith, p, q))
below_same x y z a b c Z C p q true true = ltb_same y x z b a c Z C q p

-- ---- from floats to fractions

-- what holds of every finite float with the value ±a / c holds of this one
pub of_value : (P : Float → Type 0) (x : Float) (s : Bool) (a c : ℕ) → HasValue x s a c → ((m : ℕ) (e : ℤ) → m * up e * c ≡ a * down e → P (fin s m e)) → P x
of_value P nan s a c v k = absurd v
of_value P (inf t) s a c v k = absurd v
of_value P (fin t m e) s a c v k = subst (λ (u : Bool). P (fin u m e)) (sym v.0) (k m e v.1)

module _ (x y : Float) (s t : Bool) (a b c : ℕ) (C : 0 < c) (v : HasValue x s a c) (w : HasValue y t b c) where
  -- what holds of two numerators over one denominator
  both : (P : Float → Float → Type 0)
      → ((m : ℕ) (e : ℤ) (n : ℕ) (d : ℤ) → 0 < down e * down d → m * up e * down d * c ≡ a * (down e * down d) → n * up d * down e * c ≡ b * (down e * down d)
      → P (fin s m e) (fin t n d)) → P x y
  both P k = of_value (λ (z : Float). P z y) x s a c v (λ m e p. of_value (P (fin s m e)) y t b c w
      (λ n d q. k m e n d (mul-pos (down_pos e) (down_pos d)) (over (m * up e) (down e) (down d) a p)
      (over (n * up d) (down d) (down e) b q ∙ ap (λ (z : ℕ). b * z) (mul_comm (down d) (down e)))))
    where
      over : (n d e a : ℕ) → n * c ≡ a * d → n * e * c ≡ a * (d * e)
      over n d e a h = mul_right_comm n e c ∙ ap (λ (z : ℕ). z * e) h ∙ mul_assoc a d e

  sum_at : (f : Format) → add f x y ≡ sum f s a t b c
  unfolding add
  sum_at f = both (λ x y. add f x y ≡ sum f s a t b c) (λ m e n d Z p q. sum_same _ _ (down e * down d) a b c Z C p q s t f)

  pub eq_at : eq x y ≡ level s a t b
  unfolding eq
  eq_at = both (λ x y. eq x y ≡ level s a t b) (λ m e n d Z p q. level_same _ _ (down e * down d) a b c Z C p q s t)

  pub lt_at : lt x y ≡ below s a t b
  unfolding lt
  lt_at = both (λ x y. lt x y ≡ below s a t b) (λ m e n d Z p q. below_same _ _ (down e * down d) a b c Z C p q s t)

-- x is ±a / c and y is ±b / c: their sum is that of the fractions, rounded once
pub add_at : (f : Format) (x y : Float) (s t : Bool) (a b c : ℕ) → 0 < c → HasValue x s a c → HasValue y t b c → add f x y ≡ sum f s a t b c
add_at f x y s t a b c C v w = sum_at x y s t a b c C v w f

-- x is ±a / c and y is ±b / d: their product is that of the fractions, rounded once
pub mul_at : (f : Format) (x y : Float) (s t : Bool) (a b c d : ℕ) → 0 < c → 0 < d → HasValue x s a c → HasValue y t b d
    → mul f x y ≡ round f (unlike s t) (a * b) (c * d)
unfolding mul
mul_at f nan y s t a b c d C D v w = absurd v
mul_at f (inf u) y s t a b c d C D v w = absurd v
mul_at f (fin u m e) nan s t a b c d C D v w = absurd w
mul_at f (fin u m e) (inf r) s t a b c d C D v w = absurd w
mul_at f (fin u m e) (fin r n g) s t a b c d C D v w = ap (λ (k : Bool). round f (unlike k r) (m * up e * (n * up g)) (down e * down g)) v.0
    ∙ ap (λ (k : Bool). round f (unlike s k) (m * up e * (n * up g)) (down e * down g)) w.0
    ∙ round_same f (unlike s t) (m * up e * (n * up g)) (down e * down g) (a * b) (c * d) (mul-pos (down_pos e) (down_pos g)) (mul-pos C D)
    (four (m * up e) (n * up g) c d ∙ ap (λ (k : ℕ). k * (n * up g * d)) v.1 ∙ ap (λ (k : ℕ). a * down e * k) w.1 ∙ four a (down e) b (down g))
  where
    four : (p q r o : ℕ) → p * q * (r * o) ≡ p * r * (q * o)
    four p q r o = mul_assoc p q (r * o) ∙ ap (λ (k : ℕ). p * k) (mul_left_comm q r o) ∙ sym (mul_assoc p r (q * o))

-- ---- the bits of a float by its value

-- n of the format's smallest values
abbrev bits : (f : Format) (s : Bool) (n : ℕ) → ℕ
bits f s n = let k = size n - prec f in cond s (top f) 0 + k * hid f + n / 2 ^ k

bits_at : (f : Format) (x : Float) (s : Bool) (a c : ℕ) → 0 < c → HasValue x s a c → to_bits f x ≡ bits f s (a * 2 ^ low f / c)
unfolding to_bits
bits_at f x s a c C v = of_value (λ (y : Float). to_bits f y ≡ bits f s (a * 2 ^ low f / c)) x s a c v
    (λ m e p. ap (bits f s) (div_same (m * up e * 2 ^ low f) (down e) (a * 2 ^ low f) c (down_pos e) C
    (mul_right_comm (m * up e) (2 ^ low f) c ∙ ap (λ (n : ℕ). n * 2 ^ low f) p ∙ mul_right_comm a (down e) (2 ^ low f))))

-- two floats of a format with the same value are the same
pub one_float : (f : Format) (x y : Float) (s : Bool) (a c : ℕ) → 0 < c → T (fits f x) → T (fits f y) → HasValue x s a c → HasValue y s a c → x ≡ y
one_float f x y s a c C p q v w =
    sym (of_bits-to_bits f x p) ∙ ap (of_bits f) (bits_at f x s a c C v ∙ sym (bits_at f y s a c C w)) ∙ of_bits-to_bits f y q

-- ---- to the nearest whole number

-- a whole number is the nearest to itself
pub closest_whole : (q b : ℕ) → 0 < b → closest (q * b) b ≡ q
closest_whole q b B = closest_same (q * b) b q 1 B (zero-lt-suc 0) (mul-one (q * b)) ∙ simp (div-one, mod-one)
