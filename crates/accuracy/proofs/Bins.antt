-- Every bin that the forward steps make of computed numbers, against the spectrum. Assumes nothing.
use Rattle.sequences.proofs.Basics.{◌≡◌, refl, sym, ap, ◌∙◌, ℕ, ◌+◌, ◌-◌, ◌*◌, ◌^◌, ◌≤◌, ◌<◌, zero-le, le_refl, le_trans, le_of_eq, le_of_lt, mul-le-mul_left}
use Rattle.sequences.proofs.Basics.{arith, lit≤, lit<, pow_pos}
use lib.Ieee.{Float, binary32, of_bits, add, sub}
use Rattle.turn.specs.Turns.{+0}
use Rattle.floats.specs.Complexes.{cx, conjugate}
use Rattle.floats.specs.declared.complex.Complex.{Complex}
use Rattle.mixing.specs.Steps.{fft_near, fft_far, fft_steps}
use Rattle.ends.specs.Ends.{end_cell}
use Rattle.finite.proofs.Ends.{end_cell_lem}
use Rattle.accuracy.specs.Gauss.{Gauss, plus_g, minus_g, times_g, scale_g, Disc, Off, val_c}
use Rattle.accuracy.specs.House.{house}
use Rattle.accuracy.specs.Spectrum.{real_g, spectrum}
use Rattle.accuracy.specs.Value.{Signed, zero_z, neg_z, plus_z, minus_z, scale, abs_z, NearZ, mag, val, Held}
use Rattle.accuracy.proofs.Blocks.{circles}
use Rattle.accuracy.proofs.Circle.{quarter, spin}
use Rattle.accuracy.proofs.Complexes.{mag_abs, part_re, part_im, near_abs, near_more}
use Rattle.accuracy.proofs.Conjugate.{conj_g}
use Rattle.accuracy.proofs.Dft.{sum_n, dft, paired}
use Rattle.accuracy.proofs.Ends.{near_off, far_off, same_61}
use Rattle.accuracy.proofs.Halves.{halves}
use Rattle.accuracy.proofs.House.{turns, house_conj, house_whole, house_mirror}
use Rattle.accuracy.proofs.Joined.{joined}
use Rattle.accuracy.proofs.Plane.{Same, off_same, off_eq, off_more, off_zero, off_scale, disc_near, disc_unscale, disc_more, disc_times}
use Rattle.accuracy.proofs.Rounds.{Around}
use Rattle.accuracy.proofs.Stages.{cell_size}
use Rattle.accuracy.proofs.Sums.{sum_equal, disc_sum, sum_n_times}
use Rattle.accuracy.proofs.Turning.{same_self}
use Rattle.accuracy.proofs.Turns.{HalfClose}
use Rattle.accuracy.proofs.Values.{neg_val, neg_held, add_rounds, sub_rounds}

-- ---- the forms of the steps

flip : (G : ℕ) (A B w : Gauss) → Same (conj_g (minus_g (scale_g G (plus_g A (conj_g B))) (times_g (quarter (minus_g A (conj_g B))) w)))
    (plus_g (scale_g G (plus_g B (conj_g A))) (times_g (quarter (minus_g B (conj_g A))) (record { re = neg_z w.re; im = w.im })))
flip G A B w = (omega arith, omega arith)

first_same : (G : ℕ) (A : Gauss) → Same (scale_g (2 * G) (real_g (plus_z A.re A.im)))
    (plus_g (scale_g G (plus_g A (conj_g A))) (times_g (quarter (minus_g A (conj_g A)))
    (record { re = record { more = G; less = 0 }; im = record { more = 0; less = 0 } })))
first_same G A = (omega arith, omega arith)

last_same : (G : ℕ) (A : Gauss) → Same (scale_g (2 * G) (real_g (minus_z A.re A.im)))
    (plus_g (scale_g G (plus_g A (conj_g A))) (times_g (quarter (minus_g A (conj_g A)))
    (record { re = record { more = 0; less = G }; im = record { more = 0; less = 0 } })))
last_same G A = (omega arith, omega arith)

centre_same : (G : ℕ) (A : Gauss) → Same (scale_g (2 * G) (conj_g A))
    (plus_g (scale_g G (plus_g A (conj_g A))) (times_g (quarter (minus_g A (conj_g A)))
    (record { re = record { more = 0; less = 0 }; im = record { more = 0; less = G } })))
centre_same G A = (omega arith, omega arith)

-- ---- a sum and a difference of the parts of one cell

real_off : (E : ℕ) (x y : Signed) → NearZ E x y → Off E (real_g x) (real_g y)
real_off E x y h = record { inside = go (abs_z (minus_z x y)) (near_abs E x y h) }
  where
    go : (a : ℕ) → a ≤ E → a * a + abs_z (minus_z zero_z zero_z) * abs_z (minus_z zero_z zero_z) ≤ E * E
    go a l = omega (arith, native.Mathlib.Nat.mul-le-mul l l)

module _ (z : Complex) (ω : ℕ) (most : ω ≤ 2 ^ 220) (p : Around ((2 ^ 20 + 2 ^ 7) * ω) z) where
  abbrev m : ℕ
  m = (2 ^ 20 + 2 ^ 7) * ω

  small : m ≤ 2 ^ 250
  small = le_trans (mul-le-mul_left (2 ^ 20 + 2 ^ 7) most) (lit≤ tt)

  parts_fit : mag binary32 z.re + mag binary32 z.im ≤ 2 * 2 ^ 250
  parts_fit = together _ _ (le_trans (le_of_eq (mag_abs binary32 z.re)) (le_trans (part_re m (val_c z) p.disc) small))
      (le_trans (le_of_eq (mag_abs binary32 z.im)) (le_trans (part_im m (val_c z) p.disc) small))
    where
      together : (a b : ℕ) → a ≤ 2 ^ 250 → b ≤ 2 ^ 250 → a + b ≤ 2 * 2 ^ 250
      together a b u v = le_trans (native.Mathlib.Nat.add-le-add u v) (lit≤ tt)

  abs_plus : (x y : Signed) (m : ℕ) → abs_z x ≤ m → abs_z y ≤ m → (abs_z (plus_z x y) ≤ m + m) × (abs_z (minus_z x y) ≤ m + m)
  abs_plus x y m a b = (omega arith, omega arith)

  radius : (ω : ℕ) → 2 ^ 37 * ((2 ^ 20 + 2 ^ 7) * ω + (2 ^ 20 + 2 ^ 7) * ω) ≤ (13 * 2 ^ 57 + 2 ^ 50) * ω
  radius ω = omega arith

  raised : (x : Float) (s : Signed) → NearZ (m + m) (scale (2 ^ 24) (val binary32 x)) (scale (2 ^ 24) s)
      → Off ((13 * 2 ^ 57 + 2 ^ 50) * ω) (scale_g (2 * 2 ^ 60) (real_g (val binary32 x))) (scale_g (2 * 2 ^ 60) (real_g s))
  raised x s h = off_more (2 ^ 37 * (m + m)) _ (scale_g (2 * 2 ^ 60) (real_g (val binary32 x))) (scale_g (2 * 2 ^ 60) (real_g s)) (radius ω)
      (off_same (2 ^ 37 * (m + m)) (scale_g (2 ^ 37) (scale_g (2 ^ 24) (real_g (val binary32 x)))) (scale_g (2 ^ 37) (scale_g (2 ^ 24) (real_g s)))
      (scale_g (2 * 2 ^ 60) (real_g (val binary32 x))) (scale_g (2 * 2 ^ 60) (real_g s))
      (same_61 (real_g (val binary32 x))) (same_61 (real_g s)) (off_scale (2 ^ 37) (m + m) (scale_g (2 ^ 24) (real_g (val binary32 x))) (scale_g (2 ^ 24)
      (real_g s))
      (real_off (m + m) (scale (2 ^ 24) (val binary32 x)) (scale (2 ^ 24) s) h)))

  both : (abs_z (plus_z (val binary32 z.re) (val binary32 z.im)) ≤ m + m) × (abs_z (minus_z (val binary32 z.re) (val binary32 z.im)) ≤ m + m)
  both = abs_plus (val binary32 z.re) (val binary32 z.im) m (part_re m (val_c z) p.disc) (part_im m (val_c z) p.disc)

  sum_off : Held binary32 (add binary32 z.re z.im) × Off ((13 * 2 ^ 57 + 2 ^ 50) * ω)
      (scale_g (2 * 2 ^ 60) (real_g (val binary32 (add binary32 z.re z.im))))
      (scale_g (2 * 2 ^ 60) (real_g (plus_z (val binary32 z.re) (val binary32 z.im))))
  sum_off =
      let r = (add_rounds binary32 z.re z.im 2 250 p.re p.im (lit≤ tt) (lit< tt) parts_fit).0 in (
        r.held,
        raised (add binary32 z.re z.im) _ (near_more _ _ (scale (2 ^ 24) (val binary32 (add binary32 z.re z.im)))
            (scale (2 ^ 24) (plus_z (val binary32 z.re) (val binary32 z.im))) both.0 r.near),
      )

  difference_off : Held binary32 (sub binary32 z.re z.im) × Off ((13 * 2 ^ 57 + 2 ^ 50) * ω)
      (scale_g (2 * 2 ^ 60) (real_g (val binary32 (sub binary32 z.re z.im))))
      (scale_g (2 * 2 ^ 60) (real_g (minus_z (val binary32 z.re) (val binary32 z.im))))
  difference_off =
      let r = (sub_rounds binary32 z.re z.im 2 250 p.re p.im (lit≤ tt) (lit< tt) parts_fit).0 in (
        r.held,
        raised (sub binary32 z.re z.im) _ (near_more _ _ (scale (2 ^ 24) (val binary32 (sub binary32 z.re z.im)))
            (scale (2 ^ 24) (minus_z (val binary32 z.re) (val binary32 z.im))) both.1 r.near),
      )

zero_held : Held binary32 +0
unfolding of_bits
zero_held = refl

-- a cell with no imaginary part
real_val : (x : Float) → val_c (cx x +0) ≡ real_g (val binary32 x)
unfolding of_bits
real_val x = refl

-- ---- all bins

module _ (d h : ℕ) (circle : d * (h * 2) ≡ 6720) (some : 0 < h) (E F : ℕ) (fine : E ≤ 2 ^ 66)
    (root : 2 * ((2 ^ 60 + 1) * (2 ^ 60 + 1) * (E * E)) ≤ 2 ^ 60 * 2 ^ 60 * (F * F))
    (y : ℕ → Signed) (a : ℕ → ℕ) (sized : (u : ℕ) → u < h → Disc (2 ^ 20 * a u) (paired y u)) (big : 2 ^ 20 ≤ sum_n h a) (most : sum_n h a ≤ 2 ^ 220)
    (c t : ℕ → Complex) (held : (k : ℕ) → k < h → Held binary32 (c k).re × Held binary32 (c k).im)
    (number : (k : ℕ) → k < h → Off (E * sum_n h a) (scale_g (2 ^ 60) (val_c (c k))) (dft house (d * 2) h (paired y) k))
    (twiddles : (q : ℕ) → 0 < q → 2 * q < h → HalfClose (house (d * q)) (t q)) where
  abbrev ω : ℕ
  ω = sum_n h a

  abbrev Z : ℕ → Gauss
  Z k = dft house (d * 2) h (paired y) k

  number_size : (k : ℕ) → Disc ((2 ^ 60 + 1) * 2 ^ 20 * ω) (Z k)
  unfolding dft
  number_size k = disc_more _ _ _ (le_of_eq (sum_n_times h a ((2 ^ 60 + 1) * 2 ^ 20)))
      (disc_sum h (λ u. (2 ^ 60 + 1) * 2 ^ 20 * a u) (λ u. times_g (paired y u) (house (d * 2 * (u * k))))
      (λ u l. disc_more _ _ _ (le_of_eq (order (a u))) (disc_times (2 ^ 20 * a u) (2 ^ 60 + 1) (paired y u) (house (d * 2 * (u * k))) (sized u l)
      (turns.norm (d * 2 * (u * k))))))
    where
      order : (b : ℕ) → 2 ^ 20 * b * (2 ^ 60 + 1) ≡ (2 ^ 60 + 1) * 2 ^ 20 * b
      order b = omega arith

  around : (k : ℕ) → k < h → Around ((2 ^ 20 + 2 ^ 7) * ω) (c k)
  around k l =
      record {
        re = (held k l).0;
        im = (held k l).1;
        disc = disc_unscale (2 ^ 60) ((2 ^ 20 + 2 ^ 7) * ω) (val_c (c k)) (pow_pos 60)
            (disc_more _ _ _ (cell_size ω E fine) (disc_near _ _ (scale_g (2 ^ 60) (val_c (c k))) (Z k) (number k l) (number_size k)));
      }

  -- number h is number 0
  last_number : Z h ≡ Z 0
  unfolding dft
  last_number = sum_equal h _ _ (λ u l. ap (times_g (paired y u)) (ap house (whole u) ∙ circles (2 ^ 60) 6720 house turns 0 u ∙ ap house (none u)))
    where
      whole : (u : ℕ) → d * 2 * (u * h) ≡ 0 + 6720 * u
      whole u = omega (arith, ap (λ (n : ℕ). n * u) circle)

      none : (u : ℕ) → 0 ≡ d * 2 * (u * 0)
      none u = omega arith

  from : (k : ℕ) → k ≤ h → (X A B : Gauss) → Off ((13 * 2 ^ 57 + 2 ^ 50) * ω) (scale_g (2 * 2 ^ 60) X)
      (plus_g (scale_g (2 ^ 60) (plus_g A (conj_g B))) (times_g (quarter (minus_g A (conj_g B))) (house (d * k))))
      → Off (E * ω) (scale_g (2 ^ 60) A) (Z k) → Off (E * ω) (scale_g (2 ^ 60) B) (Z (h - k))
      → Off ((F + 13 * 2 ^ 56 + 2 ^ 50) * ω) (scale_g (2 ^ 60) X) (spectrum house d h y k)
  from k l X A B stepped oa ob =
      joined (2 ^ 60) E F ω root (pow_pos 60) X A B (Z k) (Z (h - k)) (house (d * k)) (spectrum house d h y k) (turns.norm (d * k)) stepped oa ob
      (halves (2 ^ 60) 6720 house turns d h circle house_conj y k l a (small d k h l circle) (lit≤ tt)
      (λ u m. part_disc (2 ^ 20 * a u) (y (u * 2 + 0)) (y (u * 2 + 1)) (sized u m)))
    where
      small : (d k h : ℕ) → k ≤ h → d * (h * 2) ≡ 6720 → d * k ≤ 2 ^ 14
      small d k h l e = omega (arith, mul-le-mul_left d l)

      -- the imaginary part alone
      part_disc : (E : ℕ) (x y : Signed) → Disc E (record { re = x; im = y }) → Disc E (real_g y)
      part_disc E x y d = record { inside = le_trans (only (abs_z x) (abs_z y)) d.inside }
        where
          only : (a b : ℕ) → b * b + abs_z (record { more = 0; less = 0 }) * abs_z (record { more = 0; less = 0 }) ≤ a * a + b * b
          only a b = omega arith

  -- z is bin k, within a stated distance
  abbrev Near : ℕ → Complex → Type 0
  Near k z = Held binary32 z.re × Held binary32 z.im × Off ((F + 13 * 2 ^ 56 + 2 ^ 50) * ω) (scale_g (2 ^ 60) (val_c z)) (spectrum house d h y k)

  first_bin : Near 0 (fft_steps.first (c 0) (c h))
  first_bin =
      let o = sum_off (c 0) ω most (around 0 some) in let A = val_c (c 0) in
      let X = cx (add binary32 (c 0).re (c 0).im) +0 in let e : d * 0 ≡ 0 = omega arith in
      let w : house (d * 0) ≡ record { re = record { more = 2 ^ 60; less = 0 }; im = record { more = 0; less = 0 } } = ap house e ∙ turns.start in
      let o' : Off ((13 * 2 ^ 57 + 2 ^ 50) * ω) (scale_g (2 * 2 ^ 60) (val_c X))
      (plus_g (scale_g (2 ^ 60) (plus_g A (conj_g A))) (times_g (quarter (minus_g A (conj_g A))) (house (d * 0)))) =
      off_eq _ _ _ _ _ (ap (scale_g (2 * 2 ^ 60)) (sym (real_val (add binary32 (c 0).re (c 0).im))))
      (ap (λ (w : Gauss). plus_g (scale_g (2 ^ 60) (plus_g A (conj_g A))) (times_g (quarter (minus_g A (conj_g A))) w)) (sym w))
      (off_same _ (scale_g (2 * 2 ^ 60) (real_g (val binary32 (add binary32 (c 0).re (c 0).im)))) (scale_g (2 * 2 ^ 60) (real_g (plus_z A.re A.im)))
      (scale_g (2 * 2 ^ 60) (real_g (val binary32 (add binary32 (c 0).re (c 0).im)))) _
      (same_self (scale_g (2 * 2 ^ 60) (real_g (val binary32 (add binary32 (c 0).re (c 0).im))))) (first_same (2 ^ 60) A) o.1) in
      let z : h ≡ h - 0 = omega arith in
      (o.0, zero_held, from 0 zero-le (val_c X) A A o' (number 0 some) (off_eq _ _ _ _ _ refl (sym last_number ∙ ap Z z) (number 0 some)))

  last_bin : Near h (fft_steps.last (c 0) (c h))
  unfolding spin
  last_bin =
      let o = difference_off (c 0) ω most (around 0 some) in let A = val_c (c 0) in
      let X = cx (sub binary32 (c 0).re (c 0).im) +0 in let e : d * h ≡ 3360 = half d h circle in
      let w : house (d * h) ≡ record { re = record { more = 0; less = 2 ^ 60 }; im = record { more = 0; less = 0 } } = ap house e ∙ house_whole 3360 refl in
      let o' : Off ((13 * 2 ^ 57 + 2 ^ 50) * ω) (scale_g (2 * 2 ^ 60) (val_c X))
      (plus_g (scale_g (2 ^ 60) (plus_g A (conj_g A))) (times_g (quarter (minus_g A (conj_g A))) (house (d * h)))) =
      off_eq _ _ _ _ _ (ap (scale_g (2 * 2 ^ 60)) (sym (real_val (sub binary32 (c 0).re (c 0).im))))
      (ap (λ (w : Gauss). plus_g (scale_g (2 ^ 60) (plus_g A (conj_g A))) (times_g (quarter (minus_g A (conj_g A))) w)) (sym w))
      (off_same _ (scale_g (2 * 2 ^ 60) (real_g (val binary32 (sub binary32 (c 0).re (c 0).im)))) (scale_g (2 * 2 ^ 60) (real_g (minus_z A.re A.im)))
      (scale_g (2 * 2 ^ 60) (real_g (val binary32 (sub binary32 (c 0).re (c 0).im)))) _
      (same_self (scale_g (2 * 2 ^ 60) (real_g (val binary32 (sub binary32 (c 0).re (c 0).im))))) (last_same (2 ^ 60) A) o.1) in
      let z : h - h ≡ 0 = omega arith in (
        o.0,
        zero_held,
        from h (le_refl h) (val_c X) A A o' (off_eq _ _ _ _ _ refl (sym last_number) (number 0 some))
            (off_eq _ _ _ _ _ refl (ap Z (sym z)) (number 0 some)),
      )
    where
      half : (d h : ℕ) → d * (h * 2) ≡ 6720 → d * h ≡ 3360
      half d h e = omega arith

  near_bin : (j : ℕ) → 0 < j → 2 * j < h → Near j (fft_near (c j) (c (h - j)) (t j))
  near_bin j pj lj =
      let l : j < h = omega arith in let l' : h - j < h = omega arith in
      let o = near_off (c j) (c (h - j)) ω big most (around j l) (around (h - j) l') (t j) (house (d * j)) (twiddles j pj lj) (turns.norm (d * j)) in
      (o.0, o.1, from j (le_of_lt l) (val_c (fft_near (c j) (c (h - j)) (t j))) (val_c (c j)) (val_c (c (h - j))) o.2 (number j l) (number (h - j) l'))

  far_bin : (j : ℕ) → 0 < j → 2 * j < h → Near (h - j) (fft_far (c j) (c (h - j)) (t j))
  far_bin j pj lj =
      let l : j < h = omega arith in let l' : h - j < h = omega arith in let A = val_c (c j) in
      let B = val_c (c (h - j)) in let w = house (d * j) in let X = val_c (fft_far (c j) (c (h - j)) (t j)) in
      let o = far_off (c j) (c (h - j)) ω big most (around j l) (around (h - j) l') (t j) w (twiddles j pj lj) (turns.norm (d * j)) in
      let m : house (d * (h - j)) ≡ record { re = neg_z w.re; im = w.im } = house_mirror (d * j) (d * (h - j)) 0 (half d h j (le_of_lt l) circle) in
      let o' : Off ((13 * 2 ^ 57 + 2 ^ 50) * ω) (scale_g (2 * 2 ^ 60) X)
      (plus_g (scale_g (2 ^ 60) (plus_g B (conj_g A))) (times_g (quarter (minus_g B (conj_g A))) (house (d * (h - j))))) =
      off_eq _ _ _ _ _ refl (ap (λ (w : Gauss). plus_g (scale_g (2 ^ 60) (plus_g B (conj_g A))) (times_g (quarter (minus_g B (conj_g A))) w)) (sym m))
      (off_same _ _ _ _ _ (same_self _) (flip (2 ^ 60) A B w) o.2) in
      let back : h - (h - j) ≡ j = omega arith in
      (o.0, o.1, from (h - j) (le_of_lt l') X B A o' (number (h - j) l') (off_eq _ _ _ _ _ refl (ap Z (sym back)) (number j l)))
    where
      half : (d h j : ℕ) → j ≤ h → d * (h * 2) ≡ 6720 → d * j + d * (h - j) ≡ 3360 + 6720 * 0
      half d h j l e =
          let s : j + (h - j) ≡ h = omega arith in
          omega (arith, ap (λ (n : ℕ). d * n) s)

  centre_bin : (j : ℕ) → 0 < j → 2 * j ≡ h → Near j (conjugate (c j))
  unfolding spin
  centre_bin j pj e =
      let l : j < h = omega arith in let A = val_c (c j) in let q : d * j ≡ 1680 = quarter_of d h j e circle in
      let w : house (d * j) ≡ record { re = record { more = 0; less = 0 }; im = record { more = 0; less = 2 ^ 60 } } = ap house q ∙ house_whole 1680 refl in
      let x : val_c (conjugate (c j)) ≡ conj_g A = ap (λ (v : Signed). record { re = val binary32 (c j).re; im = v }) (neg_val binary32 (c j).im) in
      let o' : Off ((13 * 2 ^ 57 + 2 ^ 50) * ω) (scale_g (2 * 2 ^ 60) (val_c (conjugate (c j))))
      (plus_g (scale_g (2 ^ 60) (plus_g A (conj_g A))) (times_g (quarter (minus_g A (conj_g A))) (house (d * j)))) =
      off_eq _ _ _ _ _ (ap (scale_g (2 * 2 ^ 60)) (sym x))
      (ap (λ (w : Gauss). plus_g (scale_g (2 ^ 60) (plus_g A (conj_g A))) (times_g (quarter (minus_g A (conj_g A))) w)) (sym w))
      (off_more 0 _ _ _ zero-le (off_zero _ _ (centre_same (2 ^ 60) A))) in
      let other : h - j ≡ j = omega arith in (
        (held j l).0,
        neg_held binary32 (c j).im (held j l).1,
        from j (le_of_lt l) (val_c (conjugate (c j))) A A o' (number j l)
            (off_eq _ _ _ _ _ refl (ap Z (sym other)) (number j l)),
      )
    where
      quarter_of : (d h j : ℕ) → 2 * j ≡ h → d * (h * 2) ≡ 6720 → d * j ≡ 1680
      quarter_of d h j e f = omega (arith, ap (λ (n : ℕ). d * (n * 2)) e)

  pub bins_near : (k : ℕ) → k ≤ h → Near k (end_cell fft_steps h c t k)
  bins_near = end_cell_lem fft_steps h c t Near first_bin last_bin near_bin far_bin centre_bin
