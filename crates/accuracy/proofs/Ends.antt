-- The steps at the ends in f32, on a pair of cells, against the exact ones. Assumes nothing.
use Rattle.sequences.proofs.Basics.{◌≡◌, refl, sym, ap, ap₂, ◌∙◌, subst, ℕ, zero, suc, ◌+◌, ◌*◌, ◌^◌, ◌≤◌, ◌<◌, le_trans, le_of_eq, mul-le-mul_left}
use Rattle.sequences.proofs.Basics.{mul-le-mul, le_of_mul-le-mul_right, arith, Bool, true, false, not, cond, lit≤, lit<, ltb, eqb, pow_pos}
use lib.Ieee.{Float, nan, inf, fin, Format, binary32, units, odd, round, add, sub, mul, neg, unlike, prec, emax, low, up, down, of_bits}
use lib.Ieee.Fits.{round_is}
use Rattle.turn.specs.Turns.{one_half}
use Rattle.turn.specs.declared.Turn.TheVariants.{Quarter}
use Rattle.floats.specs.Complexes.{cx, plus, minus, conjugate}
use Rattle.floats.specs.declared.complex.Complex.{Complex}
use Rattle.floats.proofs.Signs.{neg_neg}
use Rattle.mixing.specs.Steps.{mixed, fft_near, fft_far, ifft_near, ifft_far}
use Rattle.accuracy.specs.Gauss.{Gauss, plus_g, minus_g, times_g, scale_g, Disc, Off, val_c}
use Rattle.accuracy.specs.Value.{Signed, NearZ, neg_z, times_z, scale, abs_z, mag, val, Held}
use Rattle.accuracy.proofs.Circle.{quarter, quarter_disc}
use Rattle.accuracy.proofs.Complexes.{plus_off, mul_off, mul_near, part_re, part_im, mag_abs, abs_times, near_abs}
use Rattle.accuracy.proofs.Conjugate.{conj_g}
use Rattle.accuracy.proofs.Floats.{plus_c, mul_c, turned_c}
use Rattle.accuracy.proofs.Plane.{triangle, Same, off_same, off_eq, off_more, off_sym, off_trans, off_plus, off_scale, off_unscale, off_times, disc_near}
use Rattle.accuracy.proofs.Plane.{abs_flip, same_60, disc_unscale, disc_more, disc_scale, disc_plus, disc_same, disc_times}
use Rattle.accuracy.proofs.Rounded.{corner}
use Rattle.accuracy.proofs.Rounds.{Around}
use Rattle.accuracy.proofs.Turned.{turn_within, turn_size, times_off}
use Rattle.accuracy.proofs.Turning.{same_self, same_scale_right}
use Rattle.accuracy.proofs.Turns.{Close, HalfClose}
use Rattle.accuracy.proofs.Values.{neg_val, neg_held, mul_rounds}

-- ---- a negated factor
odd_neg : (d : ℕ) (s : Bool) (q k l : ℕ) → odd d (not s) q k l ≡ neg (odd d s q k l)
unfolding odd neg
odd_neg d s zero k l = refl
odd_neg d s (suc q) k l = refl

cond_neg : (b : Bool) (x y x' y' : Float) → x' ≡ neg x → y' ≡ neg y → cond b x' y' ≡ neg (cond b x y)
cond_neg true x y x' y' e f = e
cond_neg false x y x' y' e f = f

units_neg : (f : Format) (s : Bool) (q k : ℕ) → units f (not s) q k ≡ neg (units f s q k)
unfolding units neg
units_neg f s q k = cond_neg (ltb (q * 2 ^ k) (2 ^ (low f + suc (emax f)))) _ _ _ _ (odd_neg (suc (prec f)) s q k (low f)) refl

round_neg : (f : Format) (s : Bool) (a c : ℕ) → round f (not s) a c ≡ neg (round f s a c)
round_neg f s a c = round_is f (not s) a c ∙ units_neg f s _ _ ∙ ap neg (sym (round_is f s a c))

unlike_not : (s t : Bool) → unlike (not s) t ≡ not (unlike s t)
unlike_not false false = refl
unlike_not false true = refl
unlike_not true false = refl
unlike_not true true = refl

mul_neg : (f : Format) (x y : Float) → mul f (neg x) y ≡ neg (mul f x y)
unfolding mul neg
mul_neg f nan y = refl
mul_neg f (inf s) nan = refl
mul_neg f (inf s) (inf t) = ap inf (unlike_not s t)
mul_neg f (inf s) (fin t n d) = cond_neg (eqb n 0) nan (inf (unlike s t)) nan (inf (unlike (not s) t)) refl (ap inf (unlike_not s t))
mul_neg f (fin s m e) nan = refl
mul_neg f (fin s m e) (inf t) = cond_neg (eqb m 0) nan (inf (unlike s t)) nan (inf (unlike (not s) t)) refl (ap inf (unlike_not s t))
mul_neg f (fin s m e) (fin t n d) = ap (λ (b : Bool). round f b (m * up e * (n * up d)) (down e * down d)) (unlike_not s t)
    ∙ round_neg f (unlike s t) (m * up e * (n * up d)) (down e * down d)

-- ---- the end step is a sum of a half and a product
conj_c : Complex → Complex
conj_c b = record { re = b.re; im = neg b.im }

mirror_c : Complex → Complex
mirror_c b = record { re = neg b.re; im = b.im }

unfoldable pub half_c : Complex → Complex
half_c q = record { re = mul binary32 one_half q.re; im = mul binary32 one_half q.im }

-- the product that is added to the half, or taken from it
turn_is : (a b t : Complex) → mixed (plus a b) (minus a b) t ≡ mul_c (turned_c Quarter (plus_c a (mirror_c b))) t
unfolding plus_c mirror_c mul_c turned_c sub
turn_is a b t =
    let sim = add binary32 a.im b.im in let dre = add binary32 a.re (neg b.re) in
    ap₂ (λ (u v : Float). cx (add binary32 (mul binary32 sim t.re) u) (add binary32 (mul binary32 sim t.im) v))
    (sym (ap neg (mul_neg binary32 dre t.im) ∙ neg_neg (mul binary32 dre t.im))) (sym (mul_neg binary32 dre t.re))

near_halved : (a b t : Complex) → fft_near a b t ≡ plus_c (half_c (plus_c a (conj_c b))) (mixed (plus a b) (minus a b) t)
unfolding plus_c half_c conj_c sub of_bits
near_halved a b t = refl

near_is : (a b t : Complex) → fft_near a b t ≡ plus_c (half_c (plus_c a (conj_c b))) (mul_c (turned_c Quarter (plus_c a (mirror_c b))) t)
near_is a b t = near_halved a b t ∙ ap (plus_c (half_c (plus_c a (conj_c b)))) (turn_is a b t)

-- the conjugate of what is left of H without J
apart : Complex → Complex → Complex
apart H J = cx (sub binary32 H.re J.re) (sub binary32 J.im H.im)

far_halved : (a b t : Complex) → fft_far a b t ≡ apart (half_c (plus_c a (conj_c b))) (mixed (plus a b) (minus a b) t)
unfolding plus_c half_c conj_c apart sub of_bits
far_halved a b t = refl

far_is : (a b t : Complex) → fft_far a b t ≡ apart (half_c (plus_c a (conj_c b))) (mul_c (turned_c Quarter (plus_c a (mirror_c b))) t)
far_is a b t = far_halved a b t ∙ ap (apart (half_c (plus_c a (conj_c b)))) (turn_is a b t)

-- ---- halves
half_part : (K H v α : ℕ) (h x : Signed) → 0 < v → NearZ (v * α + H * (2 * v)) (scale (K * (2 * v)) h) (scale K (times_z (record { more = v; less = 0 }) x))
    → NearZ (α + 2 * H) (scale (2 * K) h) (scale K x)
half_part K H v α h x p n = (
  le_of_mul-le-mul_right {k = v} (le_trans (le_of_eq (omega arith)) (le_trans n.0 (le_of_eq (omega arith)))) p,
  le_of_mul-le-mul_right {k = v} (le_trans (le_of_eq (omega arith)) (le_trans n.1 (le_of_eq (omega arith)))) p,
)

half_near : (x : Float) → Held binary32 x → abs_z (val binary32 x) ≤ 2 ^ 250 → Held binary32 (mul binary32 one_half x)
    × NearZ (abs_z (val binary32 x) + 2 * 2 ^ 23) (scale (2 * 2 ^ 24) (val binary32 (mul binary32 one_half x))) (scale (2 ^ 24) (val binary32 x))
unfolding of_bits
half_near x hx l =
    let one : mag binary32 one_half ≤ 2 ^ 149 = lit≤ tt in
    let le : mag binary32 one_half * mag binary32 x ≤ 1 * 2 ^ 250 * 2 ^ 149 =
    le_trans (mul-le-mul one (le_trans (le_of_eq (mag_abs binary32 x)) l)) (le_of_eq (swap (2 ^ 149) (2 ^ 250))) in
    let r = (mul_rounds binary32 one_half x 1 250 refl hx (lit≤ tt) (lit< tt) le).0 in
    let e : abs_z (times_z (val binary32 one_half) (val binary32 x)) ≡ 2 ^ 148 * abs_z (val binary32 x) = abs_times (val binary32 one_half) (val binary32
    x) in (
      r.held,
      half_part (2 ^ 24) (2 ^ 23) (2 ^ 148) (abs_z (val binary32 x)) (val binary32 (mul binary32 one_half x)) (val binary32 x) (pow_pos 148)
          (subst (λ (m : ℕ). NearZ (m + 2 ^ 23 * (2 * 2 ^ 148)) (scale (2 ^ 24 * (2 * 2 ^ 148)) (val binary32 (mul binary32 one_half x)))
          (scale (2 ^ 24) (times_z (val binary32 one_half) (val binary32 x)))) e r.near),
    )
  where
    swap : (a b : ℕ) → a * b ≡ 1 * b * a
    swap a b = omega arith

half_off : (q : Complex) (m : ℕ) → Around m q → m ≤ 2 ^ 250 → Held binary32 (half_c q).re × Held binary32 (half_c q).im
    × Off (m + 2 * (2 * 2 ^ 23)) (scale_g (2 * 2 ^ 24) (val_c (half_c q))) (scale_g (2 ^ 24) (val_c q))
unfolding half_c
half_off q m p small =
    let a = half_near q.re p.re (le_trans (part_re m (val_c q) p.disc) small) in
    let b = half_near q.im p.im (le_trans (part_im m (val_c q) p.disc) small) in (
      a.0,
      b.0,
      record {
        inside =
            triangle (abs_z (val binary32 q.re)) (abs_z (val binary32 q.im)) (2 * 2 ^ 23) (2 * 2 ^ 23) m (2 * (2 * 2 ^ 23)) _ _ p.disc.inside
            (corner (2 * 2 ^ 23))
            (near_abs _ (scale (2 * 2 ^ 24) (val binary32 (mul binary32 one_half q.re))) (scale (2 ^ 24) (val binary32 q.re)) a.1)
            (near_abs _ (scale (2 * 2 ^ 24) (val binary32 (mul binary32 one_half q.im))) (scale (2 ^ 24) (val binary32 q.im)) b.1);
      },
    )

-- ---- conjugates
pub conj_disc : (E : ℕ) (z : Gauss) → Disc E z → Disc E (conj_g z)
conj_disc E z d = record { inside = le_trans (le_of_eq (ap (λ (n : ℕ). abs_z z.re * abs_z z.re + n * n) (abs_flip z.im))) d.inside }

neg_disc : (E : ℕ) (z : Gauss) → Disc E z → Disc E (record { re = neg_z z.re; im = z.im })
neg_disc E z d = record { inside = le_trans (le_of_eq (ap (λ (n : ℕ). n * n + abs_z z.im * abs_z z.im) (abs_flip z.re))) d.inside }

pub conj_val : (z : Complex) → val_c (conjugate z) ≡ conj_g (val_c z)
conj_val z = ap (λ (s : Signed). record { re = val binary32 z.re; im = s }) (neg_val binary32 z.im)

-- ---- negated
unfoldable pub neg_c : Complex → Complex
neg_c z = cx (neg z.re) (neg z.im)

abbrev pub neg_g : Gauss → Gauss
neg_g z = record { re = neg_z z.re; im = neg_z z.im }

pub neg_val_c : (z : Complex) → val_c (neg_c z) ≡ neg_g (val_c z)
unfolding neg_c
neg_val_c z = ap₂ (λ (x y : Signed). record { re = x; im = y }) (neg_val binary32 z.re) (neg_val binary32 z.im)

pub neg_both_disc : (E : ℕ) (z : Gauss) → Disc E z → Disc E (neg_g z)
neg_both_disc E z p = conj_disc E (record { re = neg_z z.re; im = z.im }) (neg_disc E z p)

pub neg_around : (m : ℕ) (z : Complex) → Around m z → Around m (neg_c z)
unfolding neg_c
neg_around m z p =
    record {
      re = neg_held binary32 z.re p.re;
      im = neg_held binary32 z.im p.im;
      disc = subst (Disc m) (sym (neg_val_c z)) (neg_both_disc m (val_c z) p.disc);
    }

-- the inverse steps: the half is not taken, and the product is negated
near_whole : (a b t : Complex) → ifft_near a b t ≡ plus_c (plus_c a (conj_c b)) (neg_c (mixed (plus a b) (minus a b) t))
unfolding plus_c conj_c neg_c sub
near_whole a b t = refl

ifft_near_is : (a b t : Complex) → ifft_near a b t ≡ plus_c (plus_c a (conj_c b)) (neg_c (mul_c (turned_c Quarter (plus_c a (mirror_c b))) t))
ifft_near_is a b t = near_whole a b t ∙ ap (λ (z : Complex). plus_c (plus_c a (conj_c b)) (neg_c z)) (turn_is a b t)

far_whole : (a b t : Complex) → ifft_far a b t ≡ apart (plus_c a (conj_c b)) (neg_c (mixed (plus a b) (minus a b) t))
unfolding plus_c conj_c neg_c apart sub
far_whole a b t = ap (λ (x : Float). cx (add binary32 (add binary32 a.re b.re) x) (ifft_far a b t).im)
    (sym (neg_neg (mixed (plus a b) (minus a b) t).re))

ifft_far_is : (a b t : Complex) → ifft_far a b t ≡ apart (plus_c a (conj_c b)) (neg_c (mul_c (turned_c Quarter (plus_c a (mirror_c b))) t))
ifft_far_is a b t = far_whole a b t ∙ ap (λ (z : Complex). apart (plus_c a (conj_c b)) (neg_c z)) (turn_is a b t)

-- ---- the numbers
sum_size : (ω : ℕ) → (2 ^ 20 + 2 ^ 7) * ω + (2 ^ 20 + 2 ^ 7) * ω + 2 ^ 24 * ((2 ^ 20 + 2 ^ 7) * ω + (2 ^ 20 + 2 ^ 7) * ω) ≤ 2 ^ 24 * ((2 ^ 21 + 2 ^ 9) * ω)
sum_size ω = omega arith

half_size : (ω : ℕ) → 2 ^ 20 ≤ ω → (2 ^ 21 + 2 ^ 9) * ω + 2 * (2 * 2 ^ 23) + 2 ^ 24 * ((2 ^ 21 + 2 ^ 9) * ω) ≤ 2 * 2 ^ 24 * ((2 ^ 20 + 2 ^ 9) * ω)
half_size ω h = omega arith

turn_bound : (ω : ℕ) → (2 ^ 21 + 2 ^ 9) * ω * (2 ^ 39 + 1) + (2 ^ 21 + 2 ^ 9) * ω * (2 ^ 60 + 1) ≤ 2 * 2 ^ 60 * ((2 ^ 20 + 2 ^ 9) * ω)
turn_bound ω = omega arith

about_half : (v : ℕ) → 1024 * v * (2 * 2 ^ 60 + 2) + 2 ^ 24 * (1024 * v) * (2 * 2 ^ 60 + 1) ≤ 2 ^ 24 * (2 * 2 ^ 60) * (1025 * v)
about_half v = omega arith

large_enough : (ω k : ℕ) → 2 ^ 20 ≤ ω → 2 ^ 20 ≤ k → 1024 * (2 ^ 24 + 1) ≤ k * ω
large_enough ω k h l = le_trans (lit≤ tt) (mul-le-mul l h)

small_enough : (ω k : ℕ) → ω ≤ 2 ^ 220 → k ≤ 2 ^ 30 → k * ω ≤ 2 ^ 250
small_enough ω k h l = le_trans (mul-le-mul l h) (lit≤ tt)

end_radius : (ω : ℕ) → 2 ^ 20 ≤ ω
    → 2 ^ 37 * ((2 ^ 20 + 2 ^ 9) * ω + (2 ^ 20 + 2 ^ 9) * ω) + (2 ^ 36 * ((2 ^ 21 + 2 ^ 9) * ω + 2 * (2 * 2 ^ 23)) + 2 ^ 36 *
    ((2 ^ 20 + 2 ^ 7) * ω + (2 ^ 20 + 2 ^ 7) * ω)
    + ((2 ^ 21 + 2 ^ 9) * ω * (2 ^ 39 + 1) + ((2 ^ 20 + 2 ^ 7) * ω + (2 ^ 20 + 2 ^ 7) * ω) * (2 ^ 36 + 1))) ≤ (13 * 2 ^ 57 + 2 ^ 50) * ω
end_radius ω h = omega arith

turned_size : (ω : ℕ) → (2 ^ 21 + 2 ^ 9) * ω * (2 ^ 38 + 1) + (2 ^ 21 + 2 ^ 9) * ω * (2 ^ 60 + 1) ≤ 2 ^ 60 * ((2 ^ 21 + 2 ^ 10) * ω)
turned_size ω = omega arith

wider : (ω : ℕ) → (2 ^ 21 + 2 ^ 9) * ω ≤ (2 ^ 21 + 2 ^ 10) * ω
wider ω = omega arith

twofold : (n : ℕ) → n ≤ 2 * n
twofold n = omega arith

inverse_radius : (ω : ℕ) → 2 ^ 36 * ((2 ^ 21 + 2 ^ 10) * ω + (2 ^ 21 + 2 ^ 10) * ω) + (2 ^ 36 * ((2 ^ 20 + 2 ^ 7) * ω + (2 ^ 20 + 2 ^ 7) * ω)
    + ((2 ^ 21 + 2 ^ 9) * ω * (2 ^ 38 + 1) + ((2 ^ 20 + 2 ^ 7) * ω + (2 ^ 20 + 2 ^ 7) * ω) * (2 ^ 36 + 1))) ≤ (2 ^ 60 + 2 ^ 50) * ω
inverse_radius ω = omega arith

pub same_60_sum : (z t : Gauss) → Same (scale_g (2 ^ 36) (scale_g (2 ^ 24) (plus_g z t))) (plus_g (scale_g (2 ^ 60) z) (scale_g (2 ^ 60) t))
same_60_sum z t = (omega arith, omega arith)

same_60_conj : (z t : Gauss) → Same (scale_g (2 ^ 36) (scale_g (2 ^ 24) (conj_g (minus_g z t)))) (conj_g (minus_g (scale_g (2 ^ 60) z) (scale_g (2 ^ 60) t)))
same_60_conj z t = (omega arith, omega arith)

pub same_61 : (z : Gauss) → Same (scale_g (2 ^ 37) (scale_g (2 ^ 24) z)) (scale_g (2 * 2 ^ 60) z)
same_61 z = (omega arith, omega arith)

same_half : (z : Gauss) → Same (scale_g (2 ^ 36) (scale_g (2 * 2 ^ 24) z)) (scale_g (2 * 2 ^ 60) z)
same_half z = (omega arith, omega arith)

same_sum : (k : ℕ) (z t : Gauss) → Same (scale_g k (plus_g z t)) (plus_g (scale_g k z) (scale_g k t))
same_sum k z t = (omega arith, omega arith)

thinner : (K G x : ℕ) → G + 1 ≤ K * (2 ^ 36 + 1) → x * (G + 1) ≤ K * (x * (2 ^ 36 + 1))
thinner K G x h = le_trans (mul-le-mul_left x h) (le_of_eq (omega arith))

pub off_minus : (E F : ℕ) (x y x' y' : Gauss) → Off E x x' → Off F y y' → Off (E + F) (minus_g x y) (minus_g x' y')
off_minus E F x y x' y' p q = disc_same (E + F) (plus_g (minus_g x x') (minus_g y' y)) (minus_g (minus_g x y) (minus_g x' y')) (omega arith) (omega arith)
    (disc_plus E F (minus_g x x') (minus_g y' y) p (off_sym F y y' q))

small_twice : (ω : ℕ) → ω ≤ 2 ^ 220 → 2 * ((2 ^ 20 + 2 ^ 9) * ω) ≤ 2 ^ 250
small_twice ω h = le_trans (mul-le-mul_left 2 (mul-le-mul_left (2 ^ 20 + 2 ^ 9) h)) (lit≤ tt)

-- one part of each
mixed_disc : (m : ℕ) (z w : Gauss) → Disc m z → Disc m w → Disc (2 * m) (record { re = z.re; im = w.im })
mixed_disc m z w p q = record { inside = both (abs_z z.re) (abs_z w.im) m (part_re m z p) (part_im m w q) }
  where
    both : (x y m : ℕ) → x ≤ m → y ≤ m → x * x + y * y ≤ 2 * m * (2 * m)
    both x y m a b = omega (arith, mul-le-mul a a, mul-le-mul b b)

module _ (H J : Complex) (m : ℕ) (small : 2 * m ≤ 2 ^ 250) (pH : Around m H) (pJ : Around m J) where
  ahead : Complex
  ahead = cx H.re J.im

  behind : Complex
  behind = cx (neg J.re) (neg H.im)

  behind_val : val_c behind ≡ record { re = neg_z (val binary32 J.re); im = neg_z (val binary32 H.im) }
  unfolding behind
  behind_val = ap₂ (λ (x y : Signed). record { re = x; im = y }) (neg_val binary32 J.re) (neg_val binary32 H.im)

  neg_both : (z : Gauss) → Disc (2 * m) z → Disc (2 * m) (record { re = neg_z z.re; im = neg_z z.im })
  neg_both z p = conj_disc (2 * m) (record { re = neg_z z.re; im = z.im }) (neg_disc (2 * m) z p)

  ahead_around : Around (2 ^ 250) ahead
  unfolding ahead
  ahead_around = record { re = pH.re; im = pJ.im; disc = disc_more (2 * m) (2 ^ 250) _ small (mixed_disc m (val_c H) (val_c J) pH.disc pJ.disc) }

  behind_around : Around (2 ^ 250) behind
  unfolding behind
  behind_around = record {
    re = neg_held binary32 J.re pJ.re;
    im = neg_held binary32 H.im pH.im;
    disc = disc_more (2 * m) (2 ^ 250) _ small (subst (Disc (2 * m)) (sym behind_val)
        (neg_both (record { re = val binary32 J.re; im = val binary32 H.im }) (mixed_disc m (val_c J) (val_c H) pJ.disc pH.disc)));
  }

  sum_same : Same (conj_g (minus_g (val_c H) (val_c J))) (plus_g (val_c ahead) (record { re = neg_z (val binary32 J.re); im = neg_z (val binary32 H.im) }))
  unfolding ahead
  sum_same = (omega arith, omega arith)

  sum_is : plus_g (val_c ahead) (val_c behind) ≡ plus_g (val_c ahead) (record { re = neg_z (val binary32 J.re); im = neg_z (val binary32 H.im) })
  sum_is = ap (plus_g (val_c ahead)) behind_val

  sum_disc : Disc (m + m) (plus_g (val_c ahead) (val_c behind))
  sum_disc = subst (Disc (m + m)) (sym sum_is)
      (disc_same (m + m) _ _ sum_same.0 sum_same.1 (conj_disc (m + m) (minus_g (val_c H) (val_c J))
      (disc_plus m m (val_c H) (record { re = neg_z (val binary32 J.re); im = neg_z (val binary32 J.im) }) pH.disc
      (conj_disc m (record { re = neg_z (val binary32 J.re); im = val binary32 J.im }) (neg_disc m (val_c J) pJ.disc)))))

  apart_is : apart H J ≡ plus_c ahead behind
  unfolding apart plus_c ahead behind sub
  apart_is = refl

  apart_off : Held binary32 (apart H J).re × Held binary32 (apart H J).im
      × Off (m + m) (scale_g (2 ^ 24) (val_c (apart H J))) (scale_g (2 ^ 24) (conj_g (minus_g (val_c H) (val_c J))))
  apart_off =
      let o = plus_off ahead behind (m + m) ahead_around behind_around sum_disc in
      subst (λ (z : Complex). Held binary32 z.re × Held binary32 z.im
      × Off (m + m) (scale_g (2 ^ 24) (val_c z)) (scale_g (2 ^ 24) (conj_g (minus_g (val_c H) (val_c J))))) (sym apart_is)
      (o.0, o.1, off_same _ _ _ _ _ (same_self _) (back (2 ^ 24) _ _ sum_same) (off_eq _ _ _ _ _ refl (ap (scale_g (2 ^ 24)) sum_is) o.2))
    where
      back : (k : ℕ) (z w : Gauss) → Same z w → Same (scale_g k w) (scale_g k z)
      back k z w e = (one z.re w.re e.0, one z.im w.im e.1)
        where
          one : (x y : Signed) → NearZ 0 x y → NearZ 0 (scale k y) (scale k x)
          one x y f =
              let g : y.more + x.less ≡ x.more + y.less = omega arith in
              omega (arith, ap (λ (n : ℕ). k * n) g)

module _ (A B : Complex) (ω : ℕ) (least : 2 ^ 20 ≤ ω) (most : ω ≤ 2 ^ 220)
    (pA : Around ((2 ^ 20 + 2 ^ 7) * ω) A) (pB : Around ((2 ^ 20 + 2 ^ 7) * ω) B) where
  abbrev m : ℕ
  m = (2 ^ 20 + 2 ^ 7) * ω

  abbrev m₁ : ℕ
  m₁ = (2 ^ 21 + 2 ^ 9) * ω

  abbrev m₂ : ℕ
  m₂ = (2 ^ 20 + 2 ^ 9) * ω

  abbrev Q : Gauss
  Q = plus_g (val_c A) (conj_g (val_c B))

  abbrev P : Gauss
  P = minus_g (val_c A) (conj_g (val_c B))

  Qf : Complex
  Qf = plus_c A (conj_c B)

  Pf : Complex
  Pf = plus_c A (mirror_c B)

  wide : (z : Complex) → Around m z → Around (2 ^ 250) z
  wide z p = record { re = p.re; im = p.im; disc = disc_more _ _ _ (small_enough ω _ most (lit≤ tt)) p.disc }

  conj_around : Around m (conj_c B)
  unfolding conj_c
  conj_around =
      record {
        re = pB.re;
        im = neg_held binary32 B.im pB.im;
        disc =
            subst (λ (v : Signed). Disc m (record { re = val binary32 B.re; im = v })) (sym (neg_val binary32 B.im)) (conj_disc m (val_c B) pB.disc);
      }

  mirror_around : Around m (mirror_c B)
  unfolding mirror_c
  mirror_around =
      record {
        re = neg_held binary32 B.re pB.re;
        im = pB.im;
        disc =
            subst (λ (v : Signed). Disc m (record { re = v; im = val binary32 B.im })) (sym (neg_val binary32 B.re)) (neg_disc m (val_c B) pB.disc);
      }

  -- the sum and the difference
  q_off : Held binary32 Qf.re × Held binary32 Qf.im × Off (m + m) (scale_g (2 ^ 24) (val_c Qf)) (scale_g (2 ^ 24) Q)
  unfolding Qf conj_c
  q_off =
      let o = plus_off A (conj_c B) (m + m) (wide A pA) (wide (conj_c B) conj_around)
      (disc_plus m m (val_c A) (val_c (conj_c B)) pA.disc conj_around.disc) in (
        o.0,
        o.1,
        subst (λ (v : Signed). Off (m + m) (scale_g (2 ^ 24) (val_c (plus_c A (conj_c B))))
            (scale_g (2 ^ 24) (plus_g (val_c A) (record { re = val binary32 B.re; im = v })))) (neg_val binary32 B.im) o.2,
      )

  p_off : Held binary32 Pf.re × Held binary32 Pf.im × Off (m + m) (scale_g (2 ^ 24) (val_c Pf)) (scale_g (2 ^ 24) P)
  unfolding Pf mirror_c
  p_off =
      let o = plus_off A (mirror_c B) (m + m) (wide A pA) (wide (mirror_c B) mirror_around)
      (disc_plus m m (val_c A) (val_c (mirror_c B)) pA.disc mirror_around.disc) in (
        o.0,
        o.1,
        subst (λ (v : Signed). Off (m + m) (scale_g (2 ^ 24) (val_c (plus_c A (mirror_c B))))
            (scale_g (2 ^ 24) (plus_g (val_c A) (record { re = v; im = val binary32 B.im })))) (neg_val binary32 B.re) o.2,
      )

  q_around : Around m₁ Qf
  q_around =
      record {
        re = q_off.0;
        im = q_off.1;
        disc = disc_unscale (2 ^ 24) m₁ (val_c Qf) (pow_pos 24)
            (disc_more _ _ _ (sum_size ω) (disc_near _ _ (scale_g (2 ^ 24) (val_c Qf)) (scale_g (2 ^ 24) Q) q_off.2
            (disc_scale (2 ^ 24) (m + m) Q (disc_plus m m (val_c A) (conj_g (val_c B)) pA.disc (conj_disc m (val_c B) pB.disc)))));
      }

  p_around : Around m₁ Pf
  p_around =
      record {
        re = p_off.0;
        im = p_off.1;
        disc = disc_unscale (2 ^ 24) m₁ (val_c Pf) (pow_pos 24)
            (disc_more _ _ _ (sum_size ω) (disc_near _ _ (scale_g (2 ^ 24) (val_c Pf)) (scale_g (2 ^ 24) P) p_off.2
            (disc_scale (2 ^ 24) (m + m) P (disc_plus m m (val_c A) (record { re = neg_z (val binary32 B.re); im = val binary32 B.im }) pA.disc
            (neg_disc m (val_c B) pB.disc)))));
      }

  -- turned by a quarter, exactly
  Pt : Complex
  Pt = turned_c Quarter Pf

  quarter_val : val_c Pt ≡ quarter (val_c Pf)
  unfolding Pt turned_c
  quarter_val = ap (λ (v : Signed). record { re = val binary32 Pf.im; im = v }) (neg_val binary32 Pf.re)

  t_around : Around m₁ Pt
  unfolding Pt turned_c
  t_around =
      record {
        re = p_around.im;
        im = neg_held binary32 Pf.re p_around.re;
        disc =
            subst (Disc m₁) (sym quarter_val) (quarter_disc m₁ (val_c Pf) p_around.disc);
      }

  pt_off : Off (m + m) (scale_g (2 ^ 24) (val_c Pt)) (scale_g (2 ^ 24) (quarter P))
  pt_off = off_eq _ _ _ _ _ (ap (scale_g (2 ^ 24)) (sym quarter_val)) refl
      (quarter_disc (m + m) (minus_g (scale_g (2 ^ 24) (val_c Pf)) (scale_g (2 ^ 24) P)) p_off.2)

  q_near : Off (2 ^ 36 * (m + m)) (scale_g (2 ^ 60) (val_c Qf)) (scale_g (2 ^ 60) Q)
  q_near = off_same _ _ _ _ _ (same_60 (val_c Qf)) (same_60 Q) (off_scale (2 ^ 36) (m + m) _ _ q_off.2)

  -- times an exact turn
  pt_turned : (w : Gauss) → Disc (2 ^ 60 + 1) w → Off ((m + m) * (2 ^ 36 + 1)) (times_g (val_c Pt) w) (times_g (quarter P) w)
  pt_turned w d = off_unscale (2 ^ 24) ((m + m) * (2 ^ 36 + 1)) (times_g (val_c Pt) w) (times_g (quarter P) w) (pow_pos 24)
      (off_more ((m + m) * (2 ^ 60 + 1)) (2 ^ 24 * ((m + m) * (2 ^ 36 + 1))) _ _ (thinner (2 ^ 24) (2 ^ 60) (m + m) (lit≤ tt))
      (off_same _ _ _ _ _ (same_scale_right (2 ^ 24) (val_c Pt) w) (same_scale_right (2 ^ 24) (quarter P) w)
      (off_times (m + m) (2 ^ 60 + 1) (scale_g (2 ^ 24) (val_c Pt)) (scale_g (2 ^ 24) (quarter P)) w pt_off d)))

  -- ---- forward: times an end twiddle of half the size
  module _ (t : Complex) (w : Gauss) (cl : HalfClose w t) (d : Disc (2 ^ 60 + 1) w) where
    twiddle : Off (2 ^ 149 * (2 * 2 ^ 60 + 2)) (scale_g (2 ^ 24 * (2 * 2 ^ 60)) (val_c t)) (scale_g (2 ^ 24 * 2 ^ 149) w)
    twiddle = off_more _ _ _ _ (lit≤ tt) cl.off

    twiddle_around : Around (1025 * 2 ^ 139) t
    twiddle_around =
        record {
          re = cl.re;
          im = cl.im;
          disc = turn_size (2 ^ 24) (2 * 2 ^ 60) (2 ^ 149) (1025 * 2 ^ 139)
              (val_c t) w (lit< tt) twiddle (disc_more _ _ _ (lit≤ tt) d) (about_half (2 ^ 139));
        }

    unit : 1025 * 2 ^ 139 * 1024 ≤ 1025 * 2 ^ 149
    unit = lit≤ tt

    Vf : Complex
    Vf = mul_c Pt t

    v_off : Held binary32 Vf.re × Held binary32 Vf.im × Off (m₁ * (2 ^ 39 + 1)) (scale_g (2 * 2 ^ 60) (val_c Vf)) (times_g (val_c Pt) w)
    unfolding Vf
    v_off =
        let large = large_enough ω (2 ^ 21 + 2 ^ 9) least (lit≤ tt) in
        let small = small_enough ω (2 ^ 21 + 2 ^ 9) most (lit≤ tt) in
        let o = mul_off Pt t m₁ (1025 * 2 ^ 139) t_around twiddle_around unit large small in (
          o.0,
          o.1,
          turn_within (2 ^ 24) (2 * 2 ^ 60) (2 ^ 149) m₁ (val_c (mul_c Pt t)) (val_c Pt) (val_c t) w (pow_pos 24) (pow_pos 149)
              (mul_near Pt t m₁ (1025 * 2 ^ 139) t_around twiddle_around unit large small) twiddle t_around.disc (2 ^ 39 + 1) (lit≤ tt),
        )

    v_around : Around (2 ^ 250) Vf
    v_around = record { re = v_off.0; im = v_off.1; disc = disc_more _ _ _ (small_enough ω (2 ^ 20 + 2 ^ 9) most (lit≤ tt)) v_disc }
      where
        v_disc : Disc m₂ (val_c Vf)
        v_disc = disc_unscale (2 * 2 ^ 60) m₂ (val_c Vf) (lit< tt)
            (disc_more _ _ _ (turn_bound ω) (disc_near (m₁ * (2 ^ 39 + 1)) (m₁ * (2 ^ 60 + 1)) (scale_g (2 * 2 ^ 60) (val_c Vf)) (times_g (val_c Pt) w) v_off.2
            (disc_times m₁ (2 ^ 60 + 1) (val_c Pt) w t_around.disc d)))

    Hf : Complex
    Hf = half_c Qf

    h_off : Held binary32 Hf.re × Held binary32 Hf.im × Off (m₁ + 2 * (2 * 2 ^ 23)) (scale_g (2 * 2 ^ 24) (val_c Hf)) (scale_g (2 ^ 24) (val_c Qf))
    unfolding Hf
    h_off = half_off Qf m₁ q_around (small_enough ω (2 ^ 21 + 2 ^ 9) most (lit≤ tt))

    h_disc : Disc m₂ (val_c Hf)
    h_disc = disc_unscale (2 * 2 ^ 24) m₂ (val_c Hf) (lit< tt) (disc_more _ _ _ (half_size ω least)
        (disc_near _ _ (scale_g (2 * 2 ^ 24) (val_c Hf)) (scale_g (2 ^ 24) (val_c Qf)) h_off.2 (disc_scale (2 ^ 24) m₁ (val_c Qf) q_around.disc)))

    v_disc : Disc m₂ (val_c Vf)
    v_disc = disc_unscale (2 * 2 ^ 60) m₂ (val_c Vf) (lit< tt) (disc_more _ _ _ (turn_bound ω)
        (disc_near (m₁ * (2 ^ 39 + 1)) (m₁ * (2 ^ 60 + 1)) (scale_g (2 * 2 ^ 60) (val_c Vf)) (times_g (val_c Pt) w) v_off.2
        (disc_times m₁ (2 ^ 60 + 1) (val_c Pt) w t_around.disc d)))

    h_around : Around (2 ^ 250) Hf
    h_around = record { re = h_off.0; im = h_off.1; disc = disc_more _ _ _ (small_enough ω (2 ^ 20 + 2 ^ 9) most (lit≤ tt)) h_disc }

    abbrev half_error : ℕ
    half_error = 2 ^ 36 * (m₁ + 2 * (2 * 2 ^ 23)) + 2 ^ 36 * (m + m)

    abbrev turn_error : ℕ
    turn_error = m₁ * (2 ^ 39 + 1) + (m + m) * (2 ^ 36 + 1)

    half_near_exact : Off half_error (scale_g (2 * 2 ^ 60) (val_c Hf)) (scale_g (2 ^ 60) Q)
    half_near_exact =
        let x₂ : Off (2 ^ 36 * (m₁ + 2 * (2 * 2 ^ 23))) (scale_g (2 * 2 ^ 60) (val_c Hf)) (scale_g (2 ^ 60) (val_c Qf)) =
        off_same _ _ _ _ _ (same_half (val_c Hf)) (same_60 (val_c Qf)) (off_scale (2 ^ 36) (m₁ + 2 * (2 * 2 ^ 23)) _ _ h_off.2) in
        off_trans _ _ _ _ _ x₂ q_near

    turn_near_exact : Off turn_error (scale_g (2 * 2 ^ 60) (val_c Vf)) (times_g (quarter P) w)
    turn_near_exact = off_trans _ _ _ _ _ v_off.2 (pt_turned w d)

    -- Bin k of two numbers A and B of the transform: 2 ^ 61 times it is near 2 ^ 60 times their even part and their odd part turned.
    pub near_off : Held binary32 (fft_near A B t).re × Held binary32 (fft_near A B t).im
        × Off ((13 * 2 ^ 57 + 2 ^ 50) * ω) (scale_g (2 * 2 ^ 60) (val_c (fft_near A B t))) (plus_g (scale_g (2 ^ 60) Q) (times_g (quarter P) w))
    unfolding Hf Vf Pt Qf Pf
    near_off =
        let X = plus_c Hf Vf in
        let o = plus_off Hf Vf (m₂ + m₂) h_around v_around (disc_plus m₂ m₂ (val_c Hf) (val_c Vf) h_disc v_disc) in
        let x₁ : Off (2 ^ 37 * (m₂ + m₂)) (scale_g (2 * 2 ^ 60) (val_c X)) (scale_g (2 * 2 ^ 60) (plus_g (val_c Hf) (val_c Vf))) =
        off_same _ _ _ _ _ (same_61 (val_c X)) (same_61 (plus_g (val_c Hf) (val_c Vf))) (off_scale (2 ^ 37) (m₂ + m₂) _ _ o.2) in
        let y : Off (half_error + turn_error) (scale_g (2 * 2 ^ 60) (plus_g (val_c Hf) (val_c Vf))) (plus_g (scale_g (2 ^ 60) Q) (times_g (quarter P) w)) =
        off_same _ _ _ _ _ (same_back (2 * 2 ^ 60) (val_c Hf) (val_c Vf)) (same_self _) (off_plus _ _ _ _ _ _ half_near_exact turn_near_exact) in
        subst (λ (z : Complex). Held binary32 z.re × Held binary32 z.im
        × Off ((13 * 2 ^ 57 + 2 ^ 50) * ω) (scale_g (2 * 2 ^ 60) (val_c z)) (plus_g (scale_g (2 ^ 60) Q) (times_g (quarter P) w))) (sym (near_is A B t))
        (o.0, o.1, off_more _ _ _ _ (end_radius ω least) (off_trans _ _ _ _ _ x₁ y))
      where
        same_back : (k : ℕ) (z t : Gauss) → Same (plus_g (scale_g k z) (scale_g k t)) (scale_g k (plus_g z t))
        same_back k z t = (omega arith, omega arith)

    -- and bin h - k is near the conjugate of what is left of one without the other
    pub far_off : Held binary32 (fft_far A B t).re × Held binary32 (fft_far A B t).im
        × Off ((13 * 2 ^ 57 + 2 ^ 50) * ω) (scale_g (2 * 2 ^ 60) (val_c (fft_far A B t))) (conj_g (minus_g (scale_g (2 ^ 60) Q) (times_g (quarter P) w)))
    unfolding Hf Vf Pt Qf Pf
    far_off =
        let X = apart Hf Vf in
        let o = apart_off Hf Vf m₂ (small_twice ω most) (record { re = h_off.0; im = h_off.1; disc = h_disc })
        (record { re = v_off.0; im = v_off.1; disc = v_disc }) in
        let x₁ : Off (2 ^ 37 * (m₂ + m₂)) (scale_g (2 * 2 ^ 60) (val_c X)) (scale_g (2 * 2 ^ 60) (conj_g (minus_g (val_c Hf) (val_c Vf)))) =
        off_same _ _ _ _ _ (same_61 (val_c X)) (same_61 (conj_g (minus_g (val_c Hf) (val_c Vf)))) (off_scale (2 ^ 37) (m₂ + m₂) _ _ o.2) in
        let y : Off (half_error + turn_error) (conj_g (minus_g (scale_g (2 * 2 ^ 60) (val_c Hf)) (scale_g (2 * 2 ^ 60) (val_c Vf))))
        (conj_g (minus_g (scale_g (2 ^ 60) Q) (times_g (quarter P) w))) =
        conj_disc (half_error + turn_error) (minus_g (minus_g (scale_g (2 * 2 ^ 60) (val_c Hf)) (scale_g (2 * 2 ^ 60) (val_c Vf)))
        (minus_g (scale_g (2 ^ 60) Q) (times_g (quarter P) w)))
        (off_minus _ _ (scale_g (2 * 2 ^ 60) (val_c Hf)) (scale_g (2 * 2 ^ 60) (val_c Vf)) (scale_g (2 ^ 60) Q)
        (times_g (quarter P) w) half_near_exact turn_near_exact) in
        let y' : Off (half_error + turn_error) (scale_g (2 * 2 ^ 60) (conj_g (minus_g (val_c Hf) (val_c Vf))))
        (conj_g (minus_g (scale_g (2 ^ 60) Q) (times_g (quarter P) w))) =
        off_same _ _ _ _ _ (same_left (2 * 2 ^ 60) (val_c Hf) (val_c Vf)) (same_self _) y in
        subst (λ (z : Complex). Held binary32 z.re × Held binary32 z.im
        × Off ((13 * 2 ^ 57 + 2 ^ 50) * ω) (scale_g (2 * 2 ^ 60) (val_c z)) (conj_g (minus_g (scale_g (2 ^ 60) Q) (times_g (quarter P) w)))) (sym (far_is
        A B t))
        (o.0, o.1, off_more _ _ _ _ (end_radius ω least) (off_trans _ _ _ _ _ x₁ y'))
      where
        same_left : (k : ℕ) (z t : Gauss) → Same (conj_g (minus_g (scale_g k z) (scale_g k t))) (scale_g k (conj_g (minus_g z t)))
        same_left k z t = (omega arith, omega arith)

  -- ---- inverse: times an end twiddle that is not halved
  module _ (t : Complex) (w : Gauss) (cl : Close w t) (d : Disc (2 ^ 60 + 1) w) where
    abbrev m₃ : ℕ
    m₃ = (2 ^ 21 + 2 ^ 10) * ω

    If : Complex
    If = mul_c Pt t

    i_off : Held binary32 If.re × Held binary32 If.im × Off (m₁ * (2 ^ 38 + 1)) (scale_g (2 ^ 60) (val_c If)) (times_g (val_c Pt) w)
    unfolding If
    i_off = times_off Pt t w m₁ t_around cl d (large_enough ω (2 ^ 21 + 2 ^ 9) least (lit≤ tt)) (small_enough ω (2 ^ 21 + 2 ^ 9) most (lit≤ tt))

    i_around : Around m₃ If
    i_around =
        record {
          re = i_off.0;
          im = i_off.1;
          disc = disc_unscale (2 ^ 60) m₃ (val_c If) (pow_pos 60) (disc_more _ _ _ (turned_size ω)
              (disc_near (m₁ * (2 ^ 38 + 1)) (m₁ * (2 ^ 60 + 1)) (scale_g (2 ^ 60) (val_c If)) (times_g (val_c Pt) w) i_off.2
              (disc_times m₁ (2 ^ 60 + 1) (val_c Pt) w t_around.disc d)));
        }

    -- what is added to the sum: the product negated
    Jf : Complex
    Jf = neg_c If

    abbrev J : Gauss
    J = neg_g (times_g (quarter P) w)

    j_around : Around m₃ Jf
    unfolding Jf
    j_around = neg_around m₃ If i_around

    q_around' : Around m₃ Qf
    q_around' = record { re = q_around.re; im = q_around.im; disc = disc_more _ _ _ (wider ω) q_around.disc }

    small₃ : 2 * m₃ ≤ 2 ^ 250
    small₃ = le_trans (mul-le-mul_left 2 (mul-le-mul_left (2 ^ 21 + 2 ^ 10) most)) (lit≤ tt)

    wide₃ : (z : Complex) → Around m₃ z → Around (2 ^ 250) z
    wide₃ z p = record { re = p.re; im = p.im; disc = disc_more _ _ _ (le_trans (twofold m₃) small₃) p.disc }

    abbrev turned_error : ℕ
    turned_error = m₁ * (2 ^ 38 + 1) + (m + m) * (2 ^ 36 + 1)

    j_near : Off turned_error (scale_g (2 ^ 60) (val_c Jf)) J
    unfolding Jf
    j_near = off_eq _ _ _ _ _ (ap (scale_g (2 ^ 60)) (sym (neg_val_c If))) refl
        (neg_both_disc turned_error (minus_g (scale_g (2 ^ 60) (val_c If)) (times_g (quarter P) w)) (off_trans _ _ _ _ _ i_off.2 (pt_turned w d)))

    -- Cell k of bins A and B: near their sum less the product, conjugated as the stages read it.
    pub ifft_near_off : Held binary32 (ifft_near A B t).re × Held binary32 (ifft_near A B t).im
        × Off ((2 ^ 60 + 2 ^ 50) * ω) (scale_g (2 ^ 60) (val_c (ifft_near A B t))) (plus_g (scale_g (2 ^ 60) Q) J)
    unfolding Jf If Pt Qf Pf
    ifft_near_off =
        let X = plus_c Qf Jf in
        let o = plus_off Qf Jf (m₃ + m₃) (wide₃ Qf q_around') (wide₃ Jf j_around) (disc_plus m₃ m₃ (val_c Qf) (val_c Jf) q_around'.disc j_around.disc) in
        let x₁ : Off (2 ^ 36 * (m₃ + m₃)) (scale_g (2 ^ 60) (val_c X)) (plus_g (scale_g (2 ^ 60) (val_c Qf)) (scale_g (2 ^ 60) (val_c Jf))) =
        off_same _ _ _ _ _ (same_60 (val_c X)) (same_60_sum (val_c Qf) (val_c Jf)) (off_scale (2 ^ 36) (m₃ + m₃) _ _ o.2) in
        subst (λ (z : Complex). Held binary32 z.re × Held binary32 z.im
        × Off ((2 ^ 60 + 2 ^ 50) * ω) (scale_g (2 ^ 60) (val_c z)) (plus_g (scale_g (2 ^ 60) Q) J))
        (sym (ifft_near_is A B t)) (o.0, o.1, off_more _ _ _ _ (inverse_radius ω) (off_trans _ _ _ _ _ x₁ (off_plus _ _ _ _ _ _ q_near j_near)))

    -- and cell h - k is near the conjugate of their sum and the product
    pub ifft_far_off : Held binary32 (ifft_far A B t).re × Held binary32 (ifft_far A B t).im
        × Off ((2 ^ 60 + 2 ^ 50) * ω) (scale_g (2 ^ 60) (val_c (ifft_far A B t))) (conj_g (minus_g (scale_g (2 ^ 60) Q) J))
    unfolding Jf If Pt Qf Pf
    ifft_far_off =
        let X = apart Qf Jf in let o = apart_off Qf Jf m₃ small₃ q_around' j_around in
        let x₁ : Off (2 ^ 36 * (m₃ + m₃)) (scale_g (2 ^ 60) (val_c X)) (conj_g (minus_g (scale_g (2 ^ 60) (val_c Qf)) (scale_g (2 ^ 60) (val_c Jf)))) =
        off_same _ _ _ _ _ (same_60 (val_c X)) (same_60_conj (val_c Qf) (val_c Jf)) (off_scale (2 ^ 36) (m₃ + m₃) _ _ o.2) in
        let y : Off (2 ^ 36 * (m + m) + turned_error) (conj_g (minus_g (scale_g (2 ^ 60) (val_c Qf)) (scale_g (2 ^ 60) (val_c Jf))))
        (conj_g (minus_g (scale_g (2 ^ 60) Q) J)) =
        conj_disc _ (minus_g (minus_g (scale_g (2 ^ 60) (val_c Qf)) (scale_g (2 ^ 60) (val_c Jf))) (minus_g (scale_g (2 ^ 60) Q) J))
        (off_minus _ _ (scale_g (2 ^ 60) (val_c Qf)) (scale_g (2 ^ 60) (val_c Jf)) (scale_g (2 ^ 60) Q) J q_near j_near) in
        subst (λ (z : Complex). Held binary32 z.re × Held binary32 z.im
        × Off ((2 ^ 60 + 2 ^ 50) * ω) (scale_g (2 ^ 60) (val_c z)) (conj_g (minus_g (scale_g (2 ^ 60) Q) J)))
        (sym (ifft_far_is A B t)) (o.0, o.1, off_more _ _ _ _ (inverse_radius ω) (off_trans _ _ _ _ _ x₁ y))
