-- Laws of sizes: each rounded operation, and what a scan tells. Assumes nothing.
use Rattle.sequences.proofs.Basics.{◌≡◌, sym, ap, subst, ℕ, ◌+◌, ◌-◌, ◌*◌, ◌^◌, ◌≤◌, ◌<◌, le_trans, le_of_eq, lt_of_le_of_lt, mul-le-mul, mul-le-mul_right}
use Rattle.sequences.proofs.Basics.{le_of_mul-le-mul_right, mul-pos, arith, Bool, true, false, cond, ◌&&◌, bool_beq, ltb, pow-add, pow_pos, pow_mono, pow-lt}
use Rattle.sequences.proofs.Basics.{leb-true}
use lib.Ieee.{Float, nan, inf, fin, binary32, up, down, round, sum, add, sub, mul, neg, unlike}
use lib.Ieee.Exact.{HasValue, units_val}
use lib.Ieee.Fits.{down_pos, round_is}
use lib.Ieee.Order.{drop, kept}
use lib.Ieee.Scale.{grid, overflow}
use Rattle.scan.specs.Scan.{fits}
use Rattle.finite.specs.Sizes.{AtMost}
use Rattle.finite.proofs.Rounding.{grid_bound}

-- ---- a rounded fraction

-- q has m binary digits, as many as an f32 keeps, and there is room for q * 2 ^ k
pub record Room (m q k : ℕ) : Type 0 where
  pub digits : q ≤ 2 ^ m
  pub kept : m ≤ 24
  pub below : k + m ≤ 127

room : (m q k : ℕ) → Room m q k → q * 2 ^ (149 + k) < overflow binary32
room m q k r = lt_of_le_of_lt (le_trans (mul-le-mul_right (2 ^ (149 + k)) r.digits) (le_of_eq (sym (pow-add 2 m (149 + k)))))
    (pow-lt {i = m + (149 + k)} {j = 277} (omega (arith, r.below)))

by_value : (x : Float) (s : Bool) (g q k : ℕ) → HasValue x s g (2 ^ 149) → g ≤ q * 2 ^ (149 + k) → AtMost q k x
by_value nan s g q k v l = v
by_value (inf t) s g q k v l = v
by_value (fin t m e) s g q k v l = le_of_mul-le-mul_right {m = m * up e}
    (le_trans (le_of_eq v.1) (le_trans (mul-le-mul_right (down e) l) (le_of_eq (regroup q (2 ^ 149) (2 ^ k) (down e) (2 ^ (149 + k)) (pow-add 2 149 k)))))
    (pow_pos 149)
  where
    regroup : (q u v d w : ℕ) → w ≡ u * v → q * w * d ≡ q * v * d * u
    regroup q u v d w e = omega (arith, ap (λ (n : ℕ). q * n * d) e)

pub round_most : (m : ℕ) (s : Bool) (n d q k : ℕ) → 0 < d → Room m q k → n ≤ q * 2 ^ k * d → AtMost q k (round binary32 s n d)
round_most m s n d q k D a l =
    let wide : n * 2 ^ 149 ≤ q * 2 ^ (149 + k) * d
    = le_trans (mul-le-mul_right (2 ^ 149) l) (le_of_eq (regroup q (2 ^ 149) (2 ^ k) d (2 ^ (149 + k)) (pow-add 2 149 k))) in
    let stays : grid binary32 n d ≤ q * 2 ^ (149 + k) = grid_bound binary32 n d D q (149 + k) (le_trans a.digits (pow_mono a.kept)) wide in
    let has : HasValue (round binary32 s n d) s (grid binary32 n d) (2 ^ 149)
    = subst (λ (z : Float). HasValue z s (grid binary32 n d) (2 ^ 149)) (sym (round_is binary32 s n d))
    (units_val binary32 s (kept 24 (n * 2 ^ 149) d) (drop 24 (n * 2 ^ 149) d) (lt_of_le_of_lt stays (room m q k a))) in
    by_value (round binary32 s n d) s (grid binary32 n d) q k has stays
  where
    regroup : (q u v d w : ℕ) → w ≡ u * v → q * v * d * u ≡ q * w * d
    regroup q u v d w e = sym (omega (arith, ap (λ (n : ℕ). q * n * d) e))

-- ---- each operation

-- the sum of two fractions over c is rounded from no more than both together
sum_most : (m : ℕ) (s : Bool) (a : ℕ) (t : Bool) (b c q k : ℕ) → 0 < c → Room m q k → a + b ≤ q * 2 ^ k * c → AtMost q k (sum binary32 s a t b c)
unfolding sum
sum_most m s a t b c q k C small l = go (bool_beq s t) (ltb a b)
  where
    go : (u v : Bool) → AtMost q k (cond u (round binary32 s (a + b) c) (cond v (round binary32 t (b - a) c) (round binary32 (s && ltb b a) (a - b) c)))
    go true v = round_most m s (a + b) c q k C small l
    go false true = round_most m t (b - a) c q k C small (omega arith)
    go false false = round_most m (s && ltb b a) (a - b) c q k C small (omega arith)

module _ (j q q' k : ℕ) (small : Room j (q + q') k) where
  pub add_most : (x y : Float) → AtMost q k x → AtMost q' k y → AtMost (q + q') k (add binary32 x y)
  unfolding add
  add_most nan y v w = absurd v
  add_most (inf s) y v w = absurd v
  add_most (fin s m e) nan v w = absurd w
  add_most (fin s m e) (inf t) v w = absurd w
  add_most (fin s m e) (fin t n d) v w =
      sum_most j s (m * up e * down d) t (n * up d * down e) (down e * down d) (q + q') k (mul-pos (down_pos e) (down_pos d)) small
      (together (m * up e) (n * up d) (down e) (down d) (2 ^ k) v w)
    where
      together : (a b c d K : ℕ) → a ≤ q * K * c → b ≤ q' * K * d → a * d + b * c ≤ (q + q') * K * (c * d)
      together a b c d K v w = omega (arith, mul-le-mul_right d v, mul-le-mul_right c w)

pub neg_most : (q k : ℕ) (x : Float) → AtMost q k x → AtMost q k (neg x)
unfolding neg
neg_most q k nan v = v
neg_most q k (inf s) v = v
neg_most q k (fin s m e) v = v

pub sub_most : (j q q' k : ℕ) → Room j (q + q') k → (x y : Float) → AtMost q k x → AtMost q' k y → AtMost (q + q') k (sub binary32 x y)
unfolding sub
sub_most j q q' k small x y v w = add_most j q q' k small x (neg y) v (neg_most q' k y w)

pub mul_most : (j q q' k k' : ℕ) → Room j (q * q') (k + k') → (x y : Float) → AtMost q k x → AtMost q' k' y → AtMost (q * q') (k + k') (mul binary32 x y)
unfolding mul
mul_most j q q' k k' small nan y v w = absurd v
mul_most j q q' k k' small (inf s) y v w = absurd v
mul_most j q q' k k' small (fin s m e) nan v w = absurd w
mul_most j q q' k k' small (fin s m e) (inf t) v w = absurd w
mul_most j q q' k k' small (fin s m e) (fin t n d) v w =
    round_most j (unlike s t) (m * up e * (n * up d)) (down e * down d) (q * q') (k + k') (mul-pos (down_pos e) (down_pos d)) small
    (le_trans (mul-le-mul v w) (le_of_eq (regroup q q' (2 ^ k) (2 ^ k') (down e) (down d) (2 ^ (k + k')) (pow-add 2 k k'))))
  where
    regroup : (q q' u v c d w : ℕ) → w ≡ u * v → q * u * c * (q' * v * d) ≡ q * q' * w * (c * d)
    regroup q q' u v c d w e = sym (omega (arith, ap (λ (n : ℕ). q * q' * n * (c * d)) e))

-- ---- larger bounds

pub most_wider : (q q' k : ℕ) (x : Float) → q ≤ q' → AtMost q k x → AtMost q' k x
most_wider q q' k nan l v = v
most_wider q q' k (inf s) l v = v
most_wider q q' k (fin s m e) l v = le_trans v (mul-le-mul_right (down e) (mul-le-mul_right (2 ^ k) l))

pub most_shifted : (q k i : ℕ) (x : Float) → q ≤ 2 ^ i → AtMost q k x → AtMost 1 (k + i) x
most_shifted q k i nan l v = v
most_shifted q k i (inf s) l v = v
most_shifted q k i (fin s m e) l v =
    le_trans v (le_trans (mul-le-mul_right (down e) (mul-le-mul_right (2 ^ k) l)) (le_of_eq (regroup (2 ^ k) (2 ^ i) (down e) (2 ^ (k + i)) (pow-add 2 k i))))
  where
    regroup : (u v d w : ℕ) → w ≡ u * v → v * u * d ≡ 1 * w * d
    regroup u v d w e = sym (omega (arith, ap (λ (n : ℕ). n * d) e))

-- ---- what a scan tells

-- a test that is false is not true
no : ◌≡◌ {A = Bool} false true → ⊥
no e =
    let z : ◌≡◌ {A = ℕ} 0 1 = cc in
    absurd (omega arith)

pub fits_most : (k : ℕ) (x : Float) → fits k x ≡ true → AtMost 1 k x
unfolding fits
fits_most k nan e = no e
fits_most k (inf s) e = no e
fits_most k (fin s m e) t = le_trans (leb-true (m * up e) (2 ^ k * down e) t) (le_of_eq (omega arith))
