-- The step of a power, by its bits, and against another step's least power. Assumes nothing.
use Rattle.sequences.proofs.Basics.{◌≡◌, refl, sym, ap, ◌∙◌, ℕ, ◌+◌, ◌*◌, ◌/◌, ◌<◌, ◌≤◌, le_of_eq, lt_of_not-le, mul-pos, arith, dec_le, dite}
use Rattle.sequences.proofs.Basics.{Bool, true, false, not, cond, ◌&&◌, ◌||◌, T, ltb, eqb, lt-ltb, le-ltb, eq-eqb, ne_eqb}
use lib.IntN.{ℤ, pos, negsuc}
use lib.Ieee.{Float, nan, inf, fin, binary32, up, down, lt, le, fits, is_nan, of_bits, to_bits}
use lib.Ieee.Fits.{up_pos, down_pos}
use lib.Ieee.Positive.{above, above_of_le}
use Rattle.levels.specs.Levels.{step_of}
use Rattle.levels.proofs.Order.{ltb_same, no_lower, lt_bits}

-- ---- the step of a power

-- the least normal number
abbrev normal : Float
normal = fin false 1 (negsuc 125)

-- as its bits tell
is_normal : of_bits binary32 8388608 ≡ normal
unfolding of_bits
is_normal = refl

-- it is an f32
normal_fits : T (fits binary32 normal)
unfolding fits
normal_fits = tt

-- and has those bits
normal_bits : to_bits binary32 normal ≡ 8388608
unfolding to_bits
normal_bits = refl

-- at most is not above, of numbers without a minus sign
le_not_lt : (m : ℕ) (e : ℤ) (n : ℕ) (d : ℤ) → le (fin false n d) (fin false m e) ≡ not (lt (fin false m e) (fin false n d))
unfolding le
le_not_lt m e n d = either (n * up d * down e) (m * up e * down d)
  where
    either : (a b : ℕ) → (ltb a b || (eqb a b && true)) ≡ not (ltb b a)
    either a b = dite (dec_le a b) (λ (l : a ≤ b). dite (dec_le b a)
        (λ (k : b ≤ a). rw (le-ltb a b k, le-ltb b a l, eq-eqb a b (omega arith)))
        (λ (k : b ≤ a → ⊥). rw (le-ltb b a l, lt-ltb a b (lt_of_not-le k))))
        (λ (l : a ≤ b → ⊥). rw (le-ltb a b (omega (arith, l)), lt-ltb b a (lt_of_not-le l), ne_eqb a b (λ q. l (le_of_eq q))))

-- the step of bits without a minus sign: their upper half, where they are a normal number's
abbrev upper : ℕ → ℕ
upper b = cond (ltb b 8388608) 0 (b / 65536)

-- that is the step of a number without a minus sign
finite_power : (m : ℕ) (e : ℤ) → T (fits binary32 (fin false m e)) → step_of (fin false m e) ≡ upper (to_bits binary32 (fin false m e))
unfolding step_of
finite_power m e f =
    let b = to_bits binary32 (fin false m e) in
    let q = le_not_lt m e 1 (negsuc 125) ∙ ap not (lt_bits m e 1 (negsuc 125) f normal_fits ∙ ap (ltb b) normal_bits) in
    rw (is_normal, q) (turned (ltb b 8388608) (b / 65536) 0)
  where
    turned : (t : Bool) (x y : ℕ) → cond (not t) x y ≡ cond t y x
    turned true x y = refl
    turned false x y = refl

-- that of a number that is not above 0 is 0
no_power : (p : Float) → above p ≡ false → step_of p ≡ 0
unfolding step_of
no_power p e = rw is_normal (none (le normal p) (above_of_le normal p tt))
  where
    none : (t : Bool) → (T t → T (above p)) → cond t (to_bits binary32 p / 65536) 0 ≡ 0
    none true h = absurd (rw e at (h tt))
    none false h = refl

-- that of infinity is behind the last step of a number
infinite_power : step_of (inf false) ≡ 32640
unfolding step_of le to_bits
infinite_power = rw is_normal

-- a step is 0 or that of a normal number
pub normal_step : (p : Float) → T (fits binary32 p) → 0 < step_of p → 128 ≤ step_of p
normal_step nan f h = let z : step_of nan ≡ 0 = no_power nan refl in absurd (omega arith)
normal_step (inf true) f h = let z : step_of (inf true) ≡ 0 = no_power (inf true) refl in absurd (omega arith)
normal_step (inf false) f h = rw infinite_power (omega arith)
normal_step (fin true m e) f h = let z : step_of (fin true m e) ≡ 0 = no_power (fin true m e) refl in absurd (omega arith)
normal_step (fin false m e) f h = rw (finite_power m e f) (at (to_bits binary32 (fin false m e)) (rw (finite_power m e f) at h))
  where
    at : (b : ℕ) → 0 < upper b → 128 ≤ upper b
    at b h = dite (dec_le 8388608 b) (λ (l : 8388608 ≤ b). rw (le-ltb b 8388608 l) (omega arith)) (λ (l : 8388608 ≤ b → ⊥).
        let z : 0 < 0 = rw (lt-ltb b 8388608 (lt_of_not-le l)) at h in
        absurd (omega arith))

-- ---- against the least power of a step

-- the bits of 0
no_bits : to_bits binary32 (fin false 0 (pos 0)) ≡ 0
unfolding to_bits
no_bits = refl

module _ (step : ℕ) (low : 128 ≤ step) (high : step ≤ 32639) where
  -- a number with its bits is above 0
  not_zero : (n : ℕ) (d : ℤ) → to_bits binary32 (fin false n d) ≡ step * 65536 → 0 < n
  not_zero n d q = dite (dec_le n 0) (λ (z : n ≤ 0).
      let e : n ≡ 0 = omega arith in
      let l : n * up d * 1 ≤ 0 * 1 * down d = rw e (omega arith) in
      absurd (omega (arith, no_lower n d 0 (pos 0) l, no_bits, q))) (λ (z : n ≤ 0 → ⊥). lt_of_not-le z)

  -- below it are the numbers of lower steps
  below_power : (n : ℕ) (d : ℤ) → T (fits binary32 (fin false n d)) → to_bits binary32 (fin false n d) ≡ step * 65536
      → (p : Float) → T (fits binary32 p) → T (not (is_nan p)) → lt p (fin false n d) ≡ ltb (step_of p) step
  unfolding lt is_nan
  below_power n d g q nan f k = absurd k
  below_power n d g q (inf true) f k = rw (no_power (inf true) refl) (sym (lt-ltb 0 step (omega arith)))
  below_power n d g q (inf false) f k = rw infinite_power (sym (le-ltb 32640 step (omega arith)))
  below_power n d g q (fin true m e) f k =
      let l = mul-pos (mul-pos (not_zero n d q) (up_pos d)) (down_pos e) in
      rw (no_power (fin true m e) refl) (lt-ltb 0 (m * up e * down d + n * up d * down e) (omega (arith, l)) ∙ sym (lt-ltb 0 step (omega arith)))
  below_power n d g q (fin false m e) f k =
      let b = to_bits binary32 (fin false m e) in
      lt_bits m e n d f g ∙ ap (ltb b) q ∙ at b ∙ ap (λ (s : ℕ). ltb s step) (sym (finite_power m e f))
    where
      at : (b : ℕ) → ltb b (step * 65536) ≡ ltb (upper b) step
      at b = dite (dec_le 8388608 b)
          (λ (l : 8388608 ≤ b). rw (le-ltb b 8388608 l) (ltb_same b (step * 65536) (b / 65536) step (λ h. omega arith) (λ h. omega arith)))
          (λ (l : 8388608 ≤ b → ⊥). rw (lt-ltb b 8388608 (lt_of_not-le l))
          (ltb_same b (step * 65536) 0 step (λ h. absurd (omega (arith, l, h))) (λ h. absurd (omega arith))))

  -- whatever has its bits is such a number
  pub below_bits : (y : Float) → T (fits binary32 y) → to_bits binary32 y ≡ step * 65536
      → (p : Float) → T (fits binary32 p) → T (not (is_nan p)) → lt p y ≡ ltb (step_of p) step
  unfolding to_bits
  below_bits nan g q = absurd (omega (arith, q))
  below_bits (inf s) g q = absurd (omega (arith, q))
  below_bits (fin true n d) g q = absurd (omega (arith, q))
  below_bits (fin false n d) g q = below_power n d g q
