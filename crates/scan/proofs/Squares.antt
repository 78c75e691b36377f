-- A float whose rounded square is at most that of 2 ^ k is at most 2 ^ k in magnitude: the next f32 above 2 ^ k has a square above
-- 2 ^ 2k * (1 + 2 ^ -22), which is an f32. Assumes nothing.
use Rattle.sequences.proofs.Basics.{◌≡◌, refl, sym, ap, ◌∙◌, ℕ, zero, suc, ◌+◌, ◌-◌, ◌*◌, ◌%◌, ◌^◌, ◌<◌, ◌≤◌, le_trans, le_of_eq, lt_of_le_of_lt, lt_of_not-le}
use Rattle.sequences.proofs.Basics.{mul-le-mul, mul-le-mul_right, mul-pos, one-mul, arith, dec_le, Bool, true, false, ◌&&◌, false≢true, dite, T, ltb, leb, eqb}
use Rattle.sequences.proofs.Basics.{ltb→lt, pow-add, pow_pos, pow_mono, pow-lt, le-leb}
use lib.IntN.{ℤ, pos, negsuc}
use lib.Ieee.{Float, nan, inf, fin, binary32, fits, le, mul, round, up, down}
use lib.Ieee.Exact.{HasValue, round_exact}
use lib.Ieee.Fits.{and_l, and_r, down_pos}
use lib.Ieee.Order.{round_mono}
use lib.Ieee.Positive.{between, le_trans_positive, positive_of_value, values_of_le}
use Rattle.scan.specs.Scan.{fits as scan_fits, bound, SquaresTell}
use Rattle.scan.proofs.Scan.{within_fits}

-- ---- above 2 ^ k there is nothing up to 2 ^ k * (1 + 2 ^ -23)

-- a whole number of 24 digits above a power of two
above_power : (m a : ℕ) → m < 2 ^ 24 → 2 ^ a < m → 8388609 * 2 ^ a ≤ m * 8388608
above_power m a small l = dite (dec_le 24 a) (λ (g : 24 ≤ a).
    let p : 2 ^ 24 ≤ 2 ^ a = pow_mono g in
    absurd (omega arith)) (λ (g : 24 ≤ a → ⊥).
    let p : 2 ^ a ≤ 2 ^ 23 = pow_mono {i = a} {j = 23} (omega (arith, g)) in
    omega arith)

-- a multiple of v above v is twice v
twice : (n v : ℕ) → v < n * v → 8388609 * (v * 1) ≤ n * v * 8388608
twice zero v l = absurd (omega arith)
twice (suc zero) v l = absurd (omega arith)
twice (suc (suc n)) v l = omega arith

gap : (k m : ℕ) (e : ℤ) → m < 2 ^ 24 → 2 ^ k * down e < m * up e → 8388609 * (2 ^ k * down e) ≤ m * up e * 8388608
gap k m (negsuc j) small l =
    let e : 2 ^ (k + suc j) ≡ 2 ^ k * 2 ^ suc j = pow-add 2 k (suc j) in
    let a : 8388609 * 2 ^ (k + suc j) ≤ m * 8388608 = above_power m (k + suc j) small (rw e (omega arith)) in
    le_trans (le_of_eq (ap (λ (n : ℕ). 8388609 * n) (sym e))) (le_trans a (le_of_eq (omega arith)))
gap k m (pos j) small l = dite (dec_le k j) (λ (g : k ≤ j).
    let e : 2 ^ j ≡ 2 ^ (j - k) * 2 ^ k = ap (λ (n : ℕ). 2 ^ n) (omega arith) ∙ pow-add 2 (j - k) k in
    let r : m * 2 ^ j ≡ m * 2 ^ (j - k) * 2 ^ k = ap (λ (n : ℕ). m * n) e ∙ omega arith in
    le_trans (twice (m * 2 ^ (j - k)) (2 ^ k) (omega (arith, r))) (le_of_eq (ap (λ (n : ℕ). n * 8388608) (sym r)))) (λ (g : k ≤ j → ⊥).
    let e : 2 ^ k ≡ 2 ^ (k - j) * 2 ^ j = ap (λ (n : ℕ). 2 ^ n) {x = k} {y = (k - j) + j} (omega (arith, g)) ∙ pow-add 2 (k - j) j in
    shifted m (2 ^ (k - j)) (2 ^ j) (2 ^ k) e (λ h. above_power m (k - j) small h) l)
  where
    shifted : (m p u v : ℕ) → v ≡ p * u → (p < m → 8388609 * p ≤ m * 8388608) → v * 1 < m * u → 8388609 * (v * 1) ≤ m * u * 8388608
    shifted m p u v e f l = dite (dec_le m p) (λ (g : m ≤ p).
        let n : m * u ≤ p * u = mul-le-mul_right u g in
        absurd (omega (arith, e))) (λ (g : m ≤ p → ⊥).
        let n : 8388609 * p * u ≤ m * 8388608 * u = mul-le-mul_right u (f (lt_of_not-le g)) in
        omega (arith, e))

-- ---- so the square rounds above 2 ^ 2k

-- 2 ^ 2k * (1 + 2 ^ -22) is the number 4194305 * 2 ^ (2k - 22)
abbrev stepped : ℕ → Float
stepped k = round binary32 false (4194305 * (2 ^ k * 2 ^ k)) 4194304

abbrev squared : ℕ → Float
squared k = round binary32 false (1 * 2 ^ k * (1 * 2 ^ k)) (1 * 1)

module _ (k : ℕ) (l : k ≤ 63) where
  abbrev step : Float
  step = stepped k

  abbrev square : Float
  square = squared k

  under : (q i : ℕ) → q < 2 ^ 23 → i ≤ 253 → q * 2 ^ i < 2 ^ 277
  under q i a b = lt_of_le_of_lt (le_trans (mul-le-mul_right (2 ^ i) (omega arith)) (le_of_eq (sym (pow-add 2 23 i))))
      (pow-lt {i = 23 + i} {j = 277} (omega arith))

  step_value : HasValue step false (4194305 * (2 ^ k * 2 ^ k)) 4194304
  step_value =
      round_exact binary32 false (4194305 * (2 ^ k * 2 ^ k)) 4194304 4194305 (127 + (k + k)) (omega arith) (omega arith)
      (under 4194305 (127 + (k + k)) (omega arith) (omega arith))
      (regroup (2 ^ k) (2 ^ 149) (2 ^ 127) (2 ^ (127 + (k + k))) (2 ^ (k + k)) (pow-add 2 127 22) (pow-add 2 127 (k + k)) (pow-add 2 k k))
    where
      regroup : (v u t w x : ℕ) → u ≡ t * 4194304 → w ≡ t * x → x ≡ v * v → 4194305 * (v * v) * u ≡ 4194305 * w * 4194304
      regroup v u t w x a b c = rw (a, b, c) (omega arith)

  square_value : HasValue square false (1 * 2 ^ k * (1 * 2 ^ k)) (1 * 1)
  square_value = round_exact binary32 false (1 * 2 ^ k * (1 * 2 ^ k)) (1 * 1) 1 (149 + (k + k)) (omega arith) (omega arith) (high (149 + (k + k)) (omega arith))
      (regroup (2 ^ k) (2 ^ 149) (2 ^ (149 + (k + k))) (2 ^ (k + k)) (pow-add 2 149 (k + k)) (pow-add 2 k k))
    where
      high : (i : ℕ) → i < 277 → 1 * 2 ^ i < 2 ^ 277
      high i b = lt_of_le_of_lt (le_of_eq (one-mul (2 ^ i))) (pow-lt b)

      regroup : (v u w x : ℕ) → w ≡ u * x → x ≡ v * v → 1 * v * (1 * v) * u ≡ 1 * w * (1 * 1)
      regroup v u w x b c = rw (b, c) (omega arith)

  some : 0 < 2 ^ k * 2 ^ k
  some = mul-pos (pow_pos k) (pow_pos k)

  -- no square of a float above 2 ^ k is at most the square of 2 ^ k
  too_large : (m : ℕ) (e : ℤ) → m < 2 ^ 24 → 2 ^ k * down e < m * up e → T (le (round binary32 false (m * up e * (m * up e)) (down e * down e)) square) → ⊥
  too_large m e small h t =
      let z = round binary32 false (m * up e * (m * up e)) (down e * down e) in
      let low : T (le step z)
      = round_mono binary32 (4194305 * (2 ^ k * 2 ^ k)) 4194304 (m * up e * (m * up e)) (down e * down e) (omega arith) (mul-pos (down_pos e) (down_pos e))
      (grown (2 ^ k) (down e) (m * up e) (gap k m e small h)) in
      let p = positive_of_value step (4194305 * (2 ^ k * 2 ^ k)) 4194304 step_value (omega (arith, some)) in
      let q = positive_of_value square (1 * 2 ^ k * (1 * 2 ^ k)) (1 * 1) square_value (omega (arith, some)) in
      let r = between step z square p q low t in
      clash (2 ^ k * 2 ^ k) some
      (le_trans (values_of_le step square (4194305 * (2 ^ k * 2 ^ k)) 4194304 (1 * 2 ^ k * (1 * 2 ^ k))
      (1 * 1) p q step_value square_value (le_trans_positive step z square p r q low t)) (le_of_eq (omega arith)))
    where
      grown : (v d a : ℕ) → 8388609 * (v * d) ≤ a * 8388608 → 4194305 * (v * v) * (d * d) ≤ a * a * 4194304
      grown v d a g =
          let s : 8388609 * (v * d) * (8388609 * (v * d)) ≤ a * 8388608 * (a * 8388608) = mul-le-mul g g in
          omega arith

      clash : (n : ℕ) → 0 < n → 4194305 * n * (1 * 1) ≤ n * 4194304 → ⊥
      clash n a b = omega arith

-- ---- the test

is_true : (b : Bool) → b ≡ true → T b
is_true true e = tt
is_true false e = absurd (false≢true e)

not_infinite : (y : Float) (a c : ℕ) → HasValue y false a c → le (inf false) y ≡ true → ⊥
unfolding le
not_infinite nan a c v e = v
not_infinite (inf s) a c v e = v
not_infinite (fin s m d) a c v e = false≢true e

-- the digits of an f32
digits : (s : Bool) (m : ℕ) (e : ℤ) → T (fits binary32 (fin s m e)) → m < 2 ^ 24
unfolding fits
digits s zero e t = omega arith
digits s (suc m) e t =
    let a : Bool = eqb (suc m % 2) 1 in let b : Bool = ltb (suc m) (2 ^ 24) in let c : Bool = leb (down e) (2 ^ 149) in
    let d : Bool = ltb (suc m * up e) (2 ^ 128 * down e) in
    ltb→lt (suc m) (2 ^ 24) (and_r a b (and_l (a && b) c (and_l (a && b && c) d t)))

finite_square : (s : Bool) (m : ℕ) (e : ℤ) → mul binary32 (fin s m e) (fin s m e) ≡ round binary32 false (m * up e * (m * up e)) (down e * down e)
unfolding mul
finite_square true m e = refl
finite_square false m e = refl

infinite_square : (s : Bool) → mul binary32 (inf s) (inf s) ≡ inf false
unfolding mul
infinite_square true = refl
infinite_square false = refl

nan_square : (y : Float) → le (mul binary32 nan nan) y ≡ true → ⊥
unfolding mul le
nan_square y e = false≢true e

fits_by_square : (k : ℕ) → k ≤ 63 → (x : Float) → T (fits binary32 x) → le (mul binary32 x x) (squared k) ≡ true → scan_fits k x ≡ true
unfolding scan_fits
fits_by_square k l nan t e = absurd (nan_square _ e)
fits_by_square k l (inf s) t e = absurd (not_infinite _ _ _ (square_value k l) (ap (λ (z : Float). le z (squared k)) (sym (infinite_square s)) ∙ e))
fits_by_square k l (fin s m d) t e = dite (dec_le (m * up d) (2 ^ k * down d)) (λ (g : m * up d ≤ 2 ^ k * down d). le-leb (m * up d) (2 ^ k * down d) g)
    (λ (g : m * up d ≤ 2 ^ k * down d → ⊥).
    absurd (too_large k l m d (digits s m d t) (lt_of_not-le g) (is_true _ (ap (λ (z : Float). le z (squared k)) (sym (finite_square s m d)) ∙ e))))

-- the squares decide at every bound that the squares of f32 reach
pub squares_tell : (k : ℕ) → k ≤ 63 → SquaresTell (bound k)
squares_tell k l x t e = within_fits k x ∙ fits_by_square k l x t (ap (λ (z : Float). le (mul binary32 x x) z) (sym (finite_square false 1 (pos k))) ∙ e)
