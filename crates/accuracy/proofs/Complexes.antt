-- How far a sum and a product of complex values in f32 are from the exact ones. Assumes nothing.
use Rattle.sequences.proofs.Basics.{◌≡◌, sym, ap, ◌∙◌, ℕ, ◌+◌, ◌-◌, ◌*◌, ◌^◌, ◌≤◌, ◌<◌, le_refl, le_trans, le_of_eq, mul-le-mul, mul-le-mul_left}
use Rattle.sequences.proofs.Basics.{mul-le-mul_right, add-le-add, add_comm, arith, Bool, true, false, lit≤, lit<, pow_pos}
use lib.Ieee.{Float, Format, binary32, add, sub, mul}
use lib.Ieee.Scale.{overflow}
use Rattle.floats.specs.declared.complex.Complex.{Complex}
use Rattle.accuracy.specs.Gauss.{Gauss, plus_g, minus_g, times_g, scale_g, Disc, Off, val_c}
use Rattle.accuracy.specs.Value.{Signed, signed, plus_z, neg_z, minus_z, times_z, scale, abs_z, NearZ, mag, val, Held}
use Rattle.accuracy.proofs.Floats.{plus_c, mul_c}
use Rattle.accuracy.proofs.Plane.{square_le, root_le, cauchy, abs_same, own_sign, negative, same_times, abs_scale, disc_same, disc_more, off_unscale}
use Rattle.accuracy.proofs.Rounds.{Within, RoundsTo, Around}
use Rattle.accuracy.proofs.Values.{sign, val_own, add_rounds, sub_rounds, mul_rounds, times_signed}

-- ---- sizes
pub mag_abs : (f : Format) (x : Float) → mag f x ≡ abs_z (val f x)
mag_abs f x = rw (val_own f x) (go (sign x) (mag f x))
  where
    go : (s : Bool) (a : ℕ) → a ≡ abs_z (signed s a)
    go false a = omega arith
    go true a = omega arith

pub abs_times : (x y : Signed) → abs_z (times_z x y) ≡ abs_z x * abs_z y
abs_times x y = abs_same (times_z x y) (times_z (signed (negative x) (abs_z x)) (signed (negative y) (abs_z y))) (same_times x _ y _ (own_sign x) (own_sign y))
    ∙ (times_signed (negative x) (negative y) (abs_z x) (abs_z y)).1

pub part_re : (m : ℕ) (z : Gauss) → Disc m z → abs_z z.re ≤ m
part_re m z d = root_le (abs_z z.re) m (omega (arith, d.inside))

pub part_im : (m : ℕ) (z : Gauss) → Disc m z → abs_z z.im ≤ m
part_im m z d = root_le (abs_z z.im) m (omega (arith, d.inside))

-- ---- the sum
pub near_abs : (d : ℕ) (x y : Signed) → NearZ d x y → abs_z (minus_z x y) ≤ d
near_abs d x y h = omega arith

pub abs_near : (d : ℕ) (x y : Signed) → abs_z (minus_z x y) ≤ d → NearZ d x y
abs_near d x y h = omega arith

pub near_more : (d e : ℕ) (x y : Signed) → d ≤ e → NearZ d x y → NearZ e x y
near_more d e x y l h = omega arith

fit : (L : ℕ) (x y : Float) → abs_z (val binary32 x) ≤ L → abs_z (val binary32 y) ≤ L → mag binary32 x + mag binary32 y ≤ 2 * L
fit L x y a b = rw (mag_abs binary32 x, mag_abs binary32 y) (omega arith)

module _ (z w : Complex) (m : ℕ) (p : Around (2 ^ 250) z) (q : Around (2 ^ 250) w) (d : Disc m (plus_g (val_c z) (val_c w))) where
  pub plus_off : Held binary32 (plus_c z w).re × Held binary32 (plus_c z w).im
      × Off m (scale_g (2 ^ 24) (val_c (plus_c z w))) (scale_g (2 ^ 24) (plus_g (val_c z) (val_c w)))
  unfolding plus_c
  plus_off =
      let room : 2 * 2 ^ 250 < overflow binary32 = lit< tt in
      let a = (add_rounds binary32 z.re w.re 2 250 p.re q.re
      (lit≤ tt) room (fit (2 ^ 250) z.re w.re (part_re _ _ p.disc) (part_re _ _ q.disc))).0 in
      let b = (add_rounds binary32 z.im w.im 2 250 p.im q.im
      (lit≤ tt) room (fit (2 ^ 250) z.im w.im (part_im _ _ p.disc) (part_im _ _ q.disc))).0 in
      let x = square_le _ _ (near_abs _ (scale (2 ^ 24) (val binary32 (add binary32 z.re w.re)))
      (scale (2 ^ 24) (plus_z (val binary32 z.re) (val binary32 w.re))) a.near) in
      let y = square_le _ _ (near_abs _ (scale (2 ^ 24) (val binary32 (add binary32 z.im w.im)))
      (scale (2 ^ 24) (plus_z (val binary32 z.im) (val binary32 w.im))) b.near) in
      (a.held, b.held, record { inside = le_trans (add-le-add x y) d.inside })

combine : (K U α h σ : ℕ) (P r D : Signed) → NearZ (α + h) (scale (K * U) P) (scale K D) → NearZ σ (scale K r) (scale K P) → K * U * σ ≤ K * α + (α + h)
    → NearZ ((2 * K + 1) * α + (K + 1) * h) (scale (K * K * U) r) (scale (K * K) D)
combine K U α h σ P r D x y z =
    omega (arith, mul-le-mul_left K x.0, mul-le-mul_left K x.1, mul-le-mul_left (K * U) y.0, mul-le-mul_left (K * U) y.1)

-- ---- one part of a product: r is p₁ - p₂ rounded, which are A and B rounded, in parts of U
module _ (K H U : ℕ) (A B p₁ p₂ r : Signed) (x : NearZ (abs_z A + H * U) (scale (K * U) p₁) (scale K A))
    (y : NearZ (abs_z B + H * U) (scale (K * U) p₂) (scale K B))
    (s : NearZ (abs_z (minus_z p₁ p₂)) (scale K r) (scale K (minus_z p₁ p₂))) where
  e₁ : ℕ
  e₁ = abs_z A + abs_z B + 2 * (H * U)

  both : NearZ e₁ (scale (K * U) (minus_z p₁ p₂)) (scale K (minus_z A B))
  unfolding e₁
  both = omega arith

  size : K * U * abs_z (minus_z p₁ p₂) ≤ K * (abs_z A + abs_z B) + e₁
  size =
      let a : abs_z (scale (K * U) (minus_z p₁ p₂)) ≡ K * U * abs_z (minus_z p₁ p₂) = abs_scale (K * U) (minus_z p₁ p₂) in
      let b : abs_z (scale K (minus_z A B)) ≡ K * abs_z (minus_z A B) = abs_scale K (minus_z A B) in
      let c : abs_z (minus_z A B) ≤ abs_z A + abs_z B = omega arith in
      let d : K * abs_z (minus_z A B) ≤ K * (abs_z A + abs_z B) = mul-le-mul_left K c in
      let g : abs_z (scale (K * U) (minus_z p₁ p₂)) ≤ abs_z (scale K (minus_z A B)) + e₁ = within (scale (K * U) (minus_z p₁ p₂)) (scale K (minus_z A B))
      both in
      le_trans (le_of_eq (sym a)) (le_trans g (le_trans (le_of_eq (ap (λ (n : ℕ). n + e₁) b)) (add-le-add d (le_refl e₁))))
    where
      within : (u v : Signed) → NearZ e₁ u v → abs_z u ≤ abs_z v + e₁
      within u v h = omega arith

  pub part : NearZ ((2 * K + 1) * (abs_z A + abs_z B) + (K + 1) * (2 * (H * U))) (scale (K * K * U) r) (scale (K * K) (minus_z A B))
  unfolding e₁
  part = combine K U (abs_z A + abs_z B) (2 * (H * U)) (abs_z (minus_z p₁ p₂)) (minus_z p₁ p₂) r (minus_z A B) both s size

-- ---- the product
corner : (x y D X : ℕ) → x ≤ D → y ≤ D → 9 * D ≤ 19 * X → x * x + y * y ≤ 3 * X * (3 * X)
corner x y D X a b c = omega (arith, square_le x D a, square_le y D b, square_le (9 * D) (19 * X) c)

enough : (m n U α : ℕ) → α ≤ m * n → n * 1024 ≤ 1025 * U → 1024 * (2 ^ 24 + 1) ≤ m
    → 9 * ((2 * 2 ^ 24 + 1) * α + (2 ^ 24 + 1) * (2 * (2 ^ 23 * U))) ≤ 19 * (2 ^ 24 * m * U)
enough m n U α a b c = omega (arith, mul-le-mul_left m b, mul-le-mul_right U c)

pub negated : (K' K d d' : ℕ) (x y : Signed) → d ≡ d' → NearZ d (scale K' x) (scale K y) → NearZ d' (scale K' (neg_z x)) (scale K (neg_z y))
negated K' K d d' x y e h = omega arith

pub abs_neg : (x : Signed) (h : ℕ) → abs_z x + h ≡ abs_z (neg_z x) + h
abs_neg x h = omega arith

fit_product : (m n L U : ℕ) (x y : Float) → abs_z (val binary32 x) ≤ m → abs_z (val binary32 y) ≤ n → m ≤ L → n * 1024 ≤ 1025 * U
    → mag binary32 x * mag binary32 y ≤ 2 * L * U
fit_product m n L U x y a b c d =
    let n' : n ≤ 2 * U = omega arith in
    rw (mag_abs binary32 x, mag_abs binary32 y) (le_trans (mul-le-mul (le_trans a c) (le_trans b n')) (le_of_eq (omega arith)))

fit_sum : (L : ℕ) (x y : Float) → mag binary32 x ≤ 2 * L → mag binary32 y ≤ 2 * L → mag binary32 x + mag binary32 y ≤ 4 * L
fit_sum L x y a b = omega arith

up_to : (k α β d x : ℕ) → α ≤ β → x ≤ k * α + d → x ≤ k * β + d
up_to k α β d x h l = le_trans l (add-le-add (mul-le-mul_left k h) (le_refl d))

thinner : (K m U : ℕ) (y z : Gauss) → 0 < K → Off (3 * (K * m * U)) (scale_g (K * K * U) y) (scale_g (K * K) z)
    → Off (3 * (m * U)) (scale_g (K * U) y) (scale_g K z)
thinner K m U y z h o = off_unscale K (3 * (m * U)) (scale_g (K * U) y) (scale_g K z) h
    (disc_more (3 * (K * m * U)) (K * (3 * (m * U))) _ (le_of_eq (omega arith))
    (disc_same (3 * (K * m * U)) (minus_g (scale_g (K * K * U) y) (scale_g (K * K) z)) (minus_g (scale_g K (scale_g (K * U) y)) (scale_g K (scale_g K z)))
    (omega arith)
    (omega arith) o))

module _ (z t : Complex) (m n : ℕ) (p : Around m z) (q : Around n t) (unit : n * 1024 ≤ 1025 * 2 ^ 149) (large : 1024 * (2 ^ 24 + 1) ≤ m)
    (small : m ≤ 2 ^ 250) where
  product : (x y : Float) → Held binary32 x → Held binary32 y → abs_z (val binary32 x) ≤ m → abs_z (val binary32 y) ≤ n
      → RoundsTo binary32 (times_z (val binary32 x) (val binary32 y)) (2 ^ 149) (mul binary32 x y) × Within binary32 2 250 (mul binary32 x y)
  product x y hx hy bx by = mul_rounds binary32 x y 2 250 hx hy (lit≤ tt) (lit< tt) (fit_product m n (2 ^ 250) (2 ^ 149) x y bx by small unit)

  abbrev ac : Float
  ac = mul binary32 z.re t.re

  abbrev bd : Float
  bd = mul binary32 z.im t.im

  abbrev ad : Float
  ad = mul binary32 z.re t.im

  abbrev bc : Float
  bc = mul binary32 z.im t.re

  abbrev A : Signed
  A = times_z (val binary32 z.re) (val binary32 t.re)

  abbrev B : Signed
  B = times_z (val binary32 z.im) (val binary32 t.im)

  abbrev C : Signed
  C = times_z (val binary32 z.re) (val binary32 t.im)

  abbrev D : Signed
  D = times_z (val binary32 z.im) (val binary32 t.re)

  zr : abs_z (val binary32 z.re) ≤ m
  zr = part_re m (val_c z) p.disc

  zi : abs_z (val binary32 z.im) ≤ m
  zi = part_im m (val_c z) p.disc

  tr : abs_z (val binary32 t.re) ≤ n
  tr = part_re n (val_c t) q.disc

  ti : abs_z (val binary32 t.im) ≤ n
  ti = part_im n (val_c t) q.disc

  real : Held binary32 (sub binary32 ac bd) × NearZ ((2 * 2 ^ 24 + 1) * (abs_z A + abs_z B) + (2 ^ 24 + 1) * (2 * (2 ^ 23 * 2 ^ 149)))
      (scale (2 ^ 24 * 2 ^ 24 * 2 ^ 149) (val binary32 (sub binary32 ac bd))) (scale (2 ^ 24 * 2 ^ 24) (minus_z A B))
  real =
      let x = product z.re t.re p.re q.re zr tr in let y = product z.im t.im p.im q.im zi ti in
      let r = (sub_rounds binary32 ac bd 4 250 x.1.held y.1.held (lit≤ tt) (lit< tt) (fit_sum (2 ^ 250) ac bd x.1.bound y.1.bound)).0 in (
        r.held,
        part (2 ^ 24) (2 ^ 23) (2 ^ 149) A B (val binary32 ac) (val binary32 bd) (val binary32 (sub binary32 ac bd)) x.0.near y.0.near
            r.near,
      )

  imaginary : Held binary32 (add binary32 ad bc) × NearZ ((2 * 2 ^ 24 + 1) * (abs_z C + abs_z (neg_z D)) + (2 ^ 24 + 1) * (2 * (2 ^ 23 * 2 ^ 149)))
      (scale (2 ^ 24 * 2 ^ 24 * 2 ^ 149) (val binary32 (add binary32 ad bc))) (scale (2 ^ 24 * 2 ^ 24) (plus_z C D))
  imaginary =
      let x = product z.re t.im p.re q.im zr ti in let y = product z.im t.re p.im q.re zi tr in
      let r = (add_rounds binary32 ad bc 4 250 x.1.held y.1.held (lit≤ tt) (lit< tt) (fit_sum (2 ^ 250) ad bc x.1.bound y.1.bound)).0 in (
        r.held,
        part (2 ^ 24) (2 ^ 23) (2 ^ 149) C (neg_z D) (val binary32 ad) (neg_z (val binary32 bc)) (val binary32 (add binary32 ad bc)) x.0.near
            (negated (2 ^ 24 * 2 ^ 149) (2 ^ 24) _ _ (val binary32 bc) D (abs_neg D (2 ^ 23 * 2 ^ 149)) y.0.near) r.near,
      )

  bound_re : abs_z A + abs_z B ≤ m * n
  bound_re = rw (abs_times (val binary32 z.re) (val binary32 t.re), abs_times (val binary32 z.im) (val binary32 t.im))
      (cauchy _ _ _ _ m n p.disc.inside q.disc.inside)

  bound_im : abs_z C + abs_z (neg_z D) ≤ m * n
  bound_im =
      let e : abs_z C + abs_z D ≤ m * n =
      rw (abs_times (val binary32 z.re) (val binary32 t.im), abs_times (val binary32 z.im) (val binary32 t.re))
      (cauchy _ _ _ _ m n p.disc.inside (le_trans (le_of_eq (add_comm _ _)) q.disc.inside)) in
      le_trans (le_of_eq (ap (λ (k : ℕ). abs_z C + k) (add_comm _ _))) e

  pub mul_off : Held binary32 (mul_c z t).re × Held binary32 (mul_c z t).im
      × Off (3 * (2 ^ 24 * m * 2 ^ 149)) (scale_g (2 ^ 24 * 2 ^ 24 * 2 ^ 149) (val_c (mul_c z t))) (scale_g (2 ^ 24 * 2 ^ 24) (times_g (val_c z) (val_c t)))
  unfolding mul_c
  mul_off = (
    real.0,
    imaginary.0,
    record {
      inside = corner _ _ ((2 * 2 ^ 24 + 1) * (m * n) + (2 ^ 24 + 1) * (2 * (2 ^ 23 * 2 ^ 149))) (2 ^ 24 * m * 2 ^ 149)
          (up_to (2 * 2 ^ 24 + 1) (abs_z A + abs_z B) (m * n) _ _ bound_re
          (near_abs _ (scale (2 ^ 24 * 2 ^ 24 * 2 ^ 149) (val binary32 (sub binary32 ac bd))) (scale (2 ^ 24 * 2 ^ 24) (minus_z A B)) real.1))
          (up_to (2 * 2 ^ 24 + 1) (abs_z C + abs_z (neg_z D)) (m * n) _ _ bound_im
          (near_abs _ (scale (2 ^ 24 * 2 ^ 24 * 2 ^ 149) (val binary32 (add binary32 ad bc))) (scale (2 ^ 24 * 2 ^ 24) (plus_z C D)) imaginary.1))
          (enough m n (2 ^ 149) (m * n) (le_refl (m * n)) unit large);
    },
  )

  -- the product is at most 3 * 2 ^ -24 of the factors' bounds off, in units: m, where t is about 1
  pub mul_near : Off (3 * (m * 2 ^ 149)) (scale_g (2 ^ 24 * 2 ^ 149) (val_c (mul_c z t))) (scale_g (2 ^ 24) (times_g (val_c z) (val_c t)))
  mul_near = thinner (2 ^ 24) m (2 ^ 149) (val_c (mul_c z t)) (times_g (val_c z) (val_c t)) (pow_pos 24) mul_off.2
