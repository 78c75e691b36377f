-- The bins that the inverse prepares in f32, conjugated as the stages read them, against exactly prepared ones. Assumes nothing.
use Rattle.sequences.proofs.Basics.{◌≡◌, refl, sym, ap, ap₂, ◌∙◌, subst, ℕ, ◌+◌, ◌-◌, ◌*◌, ◌^◌, ◌≤◌, ◌<◌, le_trans, le_of_eq, le_of_lt, mul-le-mul}
use Rattle.sequences.proofs.Basics.{mul-le-mul_left, arith, dec_le, Bool, cond, dite, eqb, lit≤, pow_pos, eq-eqb, ne_eqb}
use lib.Ieee.{Float, binary32, sub, neg}
use Rattle.floats.specs.Complexes.{cx, plus}
use Rattle.floats.specs.declared.complex.Complex.{Complex}
use Rattle.mixing.specs.Steps.{ifft_steps}
use Rattle.ends.specs.Ends.{end_cell}
use Rattle.finite.proofs.Ends.{end_cell_lem}
use Rattle.accuracy.specs.Gauss.{Gauss, plus_g, minus_g, times_g, scale_g, Disc, Off, val_c}
use Rattle.accuracy.specs.House.{house}
use Rattle.accuracy.specs.Spectrum.{real_g, folded, bin_taken}
use Rattle.accuracy.specs.Value.{Signed, zero_z, neg_z, plus_z, minus_z, abs_z, val, Held}
use Rattle.accuracy.proofs.Circle.{quarter, spin, quarter_disc}
use Rattle.accuracy.proofs.Complexes.{plus_off, part_re, part_im}
use Rattle.accuracy.proofs.Conjugate.{conj_g}
use Rattle.accuracy.proofs.Ends.{conj_disc, neg_c, neg_g, neg_val_c, neg_both_disc, neg_around, same_60_sum, ifft_near_off, ifft_far_off, conj_val}
use Rattle.accuracy.proofs.Floats.{plus_c}
use Rattle.accuracy.proofs.Formed.{formed, formed_disc}
use Rattle.accuracy.proofs.House.{turns, house_whole, house_mirror}
use Rattle.accuracy.proofs.Mirror.{prepared}
use Rattle.accuracy.proofs.Plane.{real_both, Same, off_same, off_eq, off_more, off_trans, off_plus, off_scale, disc_near, disc_unscale, disc_more}
use Rattle.accuracy.proofs.Plane.{same_60, disc_scale, disc_plus, disc_same}
use Rattle.accuracy.proofs.Rounds.{Around}
use Rattle.accuracy.proofs.Turning.{same_self}
use Rattle.accuracy.proofs.Turns.{Close}
use Rattle.accuracy.proofs.Values.{neg_val, neg_held}

-- ---- the forms of the steps

near_form : (G : ℕ) (A B w : Gauss)
    → Same (conj_g (plus_g (scale_g G (plus_g A (conj_g B))) (neg_g (times_g (quarter (minus_g A (conj_g B))) (conj_g w))))) (formed G (conj_g A) (conj_g B) w)
near_form G A B w = (omega arith, omega arith)

far_form : (G : ℕ) (A B w : Gauss) → Same (conj_g (conj_g (minus_g (scale_g G (plus_g A (conj_g B))) (neg_g (times_g (quarter (minus_g A (conj_g B)))
    (conj_g w))))))
    (formed G (conj_g B) (conj_g A) (record { re = neg_z w.re; im = w.im }))
far_form G A B w = (omega arith, omega arith)

centre_form : (G : ℕ) (A : Gauss) → Same (scale_g G (plus_g A A)) (formed G (conj_g A) (conj_g A) (record { re = zero_z; im = record { more = 0; less = G } }))
centre_form G A = (omega arith, omega arith)

-- the first cell, of bins x and y
abbrev first_g : (x y : Gauss) → Gauss
first_g x y = record { re = minus_z (plus_z x.re y.re) (plus_z x.im y.im); im = minus_z (minus_z x.re y.re) (minus_z x.im y.im) }

first_form : (G : ℕ) (x y : Gauss) → Same (scale_g G (conj_g (first_g x y)))
    (formed G (conj_g (real_g (minus_z x.re x.im))) (conj_g (real_g (minus_z y.re y.im))) (record { re = record { more = G; less = 0 }; im = zero_z }))
first_form G x y = (omega arith, omega arith)

-- its size
first_disc : (m ρ : ℕ) (x y : Gauss) → 8 * (m * m) ≤ ρ * ρ → Disc m x → Disc m y → Disc ρ (first_g x y)
first_disc m ρ x y room p q =
    let a = minus_z x.re x.im in let c = minus_z y.re y.im in
    disc_same ρ (record { re = plus_z a c; im = minus_z a c }) (first_g x y) (omega arith) (omega arith)
    (record { inside = le_trans (le_of_eq (real_both a c)) (le_trans (together _ _ (folded_square x p) (folded_square y q)) room) })
  where
    folded_square : (x : Gauss) → Disc m x → abs_z (minus_z x.re x.im) * abs_z (minus_z x.re x.im) ≤ 2 * (m * m)
    folded_square x p = plain _ _ _ _ (real_both x.re x.im) p.inside
      where
        plain : (s t a b : ℕ) → s + t ≡ 2 * a + 2 * b → a + b ≤ m * m → t ≤ 2 * (m * m)
        plain s t a b e l = omega arith

    together : (s t : ℕ) → s ≤ 2 * (m * m) → t ≤ 2 * (m * m) → 2 * s + 2 * t ≤ 8 * (m * m)
    together s t k l = omega arith

-- ---- one part of a number, twice

doubled : (m : ℕ) (x : Signed) → abs_z x ≤ m → Disc (2 * m) (record { re = x; im = x })
doubled m x l = record { inside = go (abs_z x) l }
  where
    go : (a : ℕ) → a ≤ m → a * a + a * a ≤ 2 * m * (2 * m)
    go a l = omega (arith, mul-le-mul l l)

both_ways : (m : ℕ) (x : Signed) → abs_z x ≤ m → Disc (2 * m) (record { re = x; im = neg_z x })
both_ways m x l = conj_disc (2 * m) (record { re = x; im = x }) (doubled m x l)

-- ---- the first cell

module _ (x y : Complex) (ω : ℕ) (most : ω ≤ 2 ^ 220) (px : Around ((2 ^ 20 + 2 ^ 7) * ω) x) (py : Around ((2 ^ 20 + 2 ^ 7) * ω) y) where
  abbrev m : ℕ
  m = (2 ^ 20 + 2 ^ 7) * ω

  abbrev m' : ℕ
  m' = (2 ^ 22 + 2 ^ 11) * ω

  small : (k : ℕ) → k ≤ 2 ^ 28 → k * ω ≤ 2 ^ 250
  small k l = le_trans (mul-le-mul l most) (lit≤ tt)

  -- a and b added and taken away
  module _ (a b : Float) (ha : Held binary32 a) (hb : Held binary32 b) (la : abs_z (val binary32 a) ≤ m) (lb : abs_z (val binary32 b) ≤ m) where
    two : Complex
    two = plus_c (cx a a) (cx b (neg b))

    abbrev two_g : Gauss
    two_g = record { re = plus_z (val binary32 a) (val binary32 b); im = minus_z (val binary32 a) (val binary32 b) }

    wide : (z : Complex) → Around (2 * m) z → Around (2 ^ 250) z
    wide z p = record { re = p.re; im = p.im; disc = disc_more _ _ _ (le_trans (le_of_eq (order ω)) (small (2 * (2 ^ 20 + 2 ^ 7)) (lit≤ tt))) p.disc }
      where
        order : (n : ℕ) → 2 * ((2 ^ 20 + 2 ^ 7) * n) ≡ 2 * (2 ^ 20 + 2 ^ 7) * n
        order n = omega arith

    a_around : Around (2 * m) (cx a a)
    a_around = record { re = ha; im = ha; disc = doubled m (val binary32 a) la }

    b_around : Around (2 * m) (cx b (neg b))
    b_around =
        record {
          re = hb;
          im = neg_held binary32 b hb;
          disc = subst (λ (s : Signed). Disc (2 * m) (record { re = val binary32 b; im = s })) (sym (neg_val binary32 b)) (both_ways m (val binary32 b) lb);
        }

    two_off : Held binary32 two.re × Held binary32 two.im × Off (2 * m + 2 * m) (scale_g (2 ^ 24) (val_c two)) (scale_g (2 ^ 24) two_g)
    unfolding two
    two_off =
        let o = plus_off (cx a a) (cx b (neg b)) (2 * m + 2 * m) (wide (cx a a) a_around) (wide (cx b (neg b)) b_around)
        (disc_plus (2 * m) (2 * m) _ _ a_around.disc b_around.disc) in (
          o.0,
          o.1,
          subst (λ (s : Signed). Off (2 * m + 2 * m) (scale_g (2 ^ 24) (val_c (plus_c (cx a a) (cx b (neg b)))))
              (scale_g (2 ^ 24) (record { re = plus_z (val binary32 a) (val binary32 b); im = plus_z (val binary32 a) s }))) (neg_val binary32 b) o.2,
        )

    two_near : Off (2 ^ 36 * (2 * m + 2 * m)) (scale_g (2 ^ 60) (val_c two)) (scale_g (2 ^ 60) two_g)
    two_near = off_same _ _ _ _ _ (same_60 (val_c two)) (same_60 two_g) (off_scale (2 ^ 36) (2 * m + 2 * m) _ _ two_off.2)

    two_around : Around m' two
    two_around =
        record {
          re = two_off.0;
          im = two_off.1;
          disc = disc_unscale (2 ^ 24) m' (val_c two) (pow_pos 24) (disc_more _ _ _ (grown ω)
              (disc_near _ _ (scale_g (2 ^ 24) (val_c two)) (scale_g (2 ^ 24) two_g) two_off.2
              (disc_scale (2 ^ 24) (2 * m + 2 * m) two_g (disc_plus (2 * m) (2 * m) _ _ (doubled m (val binary32 a) la) (both_ways m (val binary32 b) lb)))));
        }
      where
        grown : (n : ℕ) → 2 * ((2 ^ 20 + 2 ^ 7) * n) + 2 * ((2 ^ 20 + 2 ^ 7) * n) + 2 ^ 24 *
            (2 * ((2 ^ 20 + 2 ^ 7) * n) + 2 * ((2 ^ 20 + 2 ^ 7) * n)) ≤ 2 ^ 24 * ((2 ^ 22 + 2 ^ 11) * n)
        grown n = omega arith

  wide_two : (z : Complex) → Around m' z → Around (2 ^ 250) z
  wide_two z p = record { re = p.re; im = p.im; disc = disc_more _ _ _ (small (2 ^ 22 + 2 ^ 11) (lit≤ tt)) p.disc }

  reals : Complex
  reals = two x.re y.re px.re py.re (part_re m (val_c x) px.disc) (part_re m (val_c y) py.disc)

  others : Complex
  others = two x.im y.im px.im py.im (part_im m (val_c x) px.disc) (part_im m (val_c y) py.disc)

  first_is : ifft_steps.first x y ≡ plus_c reals (neg_c others)
  unfolding reals others two plus_c neg_c sub
  first_is = refl

  first_off : Held binary32 (ifft_steps.first x y).re × Held binary32 (ifft_steps.first x y).im
      × Off ((2 ^ 60 + 2 ^ 50) * ω) (scale_g (2 ^ 60) (val_c (ifft_steps.first x y))) (scale_g (2 ^ 60) (first_g (val_c x) (val_c y)))
  unfolding reals others
  first_off =
      let around₁ = two_around x.re y.re px.re py.re (part_re m (val_c x) px.disc) (part_re m (val_c y) py.disc) in
      let around₂ = neg_around m' others (two_around x.im y.im px.im py.im (part_im m (val_c x) px.disc) (part_im m (val_c y) py.disc)) in
      let o = plus_off reals (neg_c others) (m' + m') (wide_two reals around₁) (wide_two (neg_c others) around₂)
      (disc_plus m' m' (val_c reals) (val_c (neg_c others)) around₁.disc around₂.disc) in
      let x₁ : Off (2 ^ 36 * (m' + m')) (scale_g (2 ^ 60) (val_c (plus_c reals (neg_c others))))
      (plus_g (scale_g (2 ^ 60) (val_c reals)) (scale_g (2 ^ 60) (val_c (neg_c others)))) =
      off_same _ _ _ _ _ (same_60 (val_c (plus_c reals (neg_c others)))) (same_60_sum (val_c reals) (val_c (neg_c others)))
      (off_scale (2 ^ 36) (m' + m') _ _ o.2) in
      let n₁ = two_near x.re y.re px.re py.re (part_re m (val_c x) px.disc) (part_re m (val_c y) py.disc) in
      let n₂ : Off (2 ^ 36 * (2 * m + 2 * m)) (scale_g (2 ^ 60) (val_c (neg_c others)))
      (neg_g (scale_g (2 ^ 60)
      (record { re = plus_z (val binary32 x.im) (val binary32 y.im); im = minus_z (val binary32 x.im) (val binary32 y.im) }))) =
      off_eq _ _ _ _ _ (ap (scale_g (2 ^ 60)) (sym (neg_val_c others))) refl
      (neg_both_disc _ (minus_g (scale_g (2 ^ 60) (val_c others)) (scale_g (2 ^ 60)
      (record { re = plus_z (val binary32 x.im) (val binary32 y.im); im = minus_z (val binary32 x.im) (val binary32 y.im) })))
      (two_near x.im y.im px.im py.im (part_im m (val_c x) px.disc) (part_im m (val_c y) py.disc))) in
      subst (λ (z : Complex). Held binary32 z.re × Held binary32 z.im
      × Off ((2 ^ 60 + 2 ^ 50) * ω) (scale_g (2 ^ 60) (val_c z)) (scale_g (2 ^ 60) (first_g (val_c x) (val_c y)))) (sym first_is) (
        o.0,
        o.1,
        off_more _ _ _ _ (radius ω) (off_same _ _ _ _ _ (same_self _) (collected (2 ^ 60) (val_c x) (val_c y))
            (off_trans _ _ _ _ _ x₁ (off_plus _ _ _ _ _ _ n₁ n₂))),
      )
    where
      radius : (n : ℕ) → 2 ^ 36 * ((2 ^ 22 + 2 ^ 11) * n + (2 ^ 22 + 2 ^ 11) * n)
          + (2 ^ 36 * (2 * ((2 ^ 20 + 2 ^ 7) * n) + 2 * ((2 ^ 20 + 2 ^ 7) * n)) + 2 ^ 36 * (2 * ((2 ^ 20 + 2 ^ 7) * n) + 2 * ((2 ^ 20 + 2 ^ 7) * n))) ≤
          (2 ^ 60 + 2 ^ 50) * n
      radius n = omega arith

      collected : (G : ℕ) (x y : Gauss)
          → Same (plus_g (scale_g G (record { re = plus_z x.re y.re; im = minus_z x.re y.re }))
          (neg_g (scale_g G (record { re = plus_z x.im y.im; im = minus_z x.im y.im }))))
          (scale_g G (first_g x y))
      collected G x y = (omega arith, omega arith)

-- ---- the centre

module _ (z : Complex) (ω : ℕ) (most : ω ≤ 2 ^ 220) (p : Around ((2 ^ 20 + 2 ^ 7) * ω) z) where
  centre_off : Held binary32 (plus z z).re × Held binary32 (plus z z).im
      × Off ((2 ^ 60 + 2 ^ 50) * ω) (scale_g (2 ^ 60) (val_c (plus z z))) (scale_g (2 ^ 60) (plus_g (val_c z) (val_c z)))
  unfolding plus_c
  centre_off =
      let m = (2 ^ 20 + 2 ^ 7) * ω in
      let wide : Around (2 ^ 250) z =
      record { re = p.re; im = p.im; disc = disc_more _ _ _ (le_trans (mul-le-mul_left (2 ^ 20 + 2 ^ 7) most) (lit≤ tt)) p.disc } in
      let o = plus_off z z (m + m) wide wide (disc_plus m m (val_c z) (val_c z) p.disc p.disc) in (
        o.0,
        o.1,
        off_more _ _ _ _ (radius ω) (off_same _ _ _ _ _ (same_60 (val_c (plus_c z z))) (same_60 (plus_g (val_c z) (val_c z)))
            (off_scale (2 ^ 36) (m + m) _ _ o.2)),
      )
    where
      radius : (n : ℕ) → 2 ^ 36 * ((2 ^ 20 + 2 ^ 7) * n + (2 ^ 20 + 2 ^ 7) * n) ≤ (2 ^ 60 + 2 ^ 50) * n
      radius n = omega arith

-- ---- which bin is taken

module _ (h : ℕ) (c : ℕ → Complex) where
  pub taken_first : bin_taken h c 0 ≡ folded (c 0)
  unfolding bin_taken
  taken_first = ap (λ (e : Bool). cond e (folded (c 0)) (cond (eqb 0 h) (folded (c h)) (val_c (c 0)))) (eq-eqb 0 0 refl)

  module _ (k : ℕ) (some : 0 < k) where
    later : bin_taken h c k ≡ cond (eqb k h) (folded (c h)) (val_c (c k))
    unfolding bin_taken
    later = ap (λ (e : Bool). cond e (folded (c 0)) (cond (eqb k h) (folded (c h)) (val_c (c k)))) (ne_eqb k 0 (λ (e : k ≡ 0). positive e))
      where
        positive : k ≡ 0 → ⊥
        positive e = omega arith

    taken_inner : k < h → bin_taken h c k ≡ val_c (c k)
    taken_inner l = later ∙ ap (λ (e : Bool). cond e (folded (c h)) (val_c (c k))) (ne_eqb k h (λ (e : k ≡ h). below e))
      where
        below : k ≡ h → ⊥
        below e = omega arith

  pub taken_last : 0 < h → bin_taken h c h ≡ folded (c h)
  taken_last some = later h some ∙ ap (λ (e : Bool). cond e (folded (c h)) (val_c (c h))) (eq-eqb h h refl)

-- ---- all cells

module _ (d h : ℕ) (circle : d * (h * 2) ≡ 6720) (some : 0 < h) (ω : ℕ) (big : 2 ^ 20 ≤ ω) (most : ω ≤ 2 ^ 220) (c t : ℕ → Complex)
    (sized : (k : ℕ) → k ≤ h → Around (2 ^ 20 * ω) (c k)) (twiddles : (q : ℕ) → 0 < q → 2 * q < h → Close (conj_g (house (d * q))) (t q)) where
  abbrev b : ℕ → Gauss
  b = bin_taken h c

  abbrev N : ℕ → Gauss
  N = prepared d h circle b

  around : (k : ℕ) → k ≤ h → Around ((2 ^ 20 + 2 ^ 7) * ω) (c k)
  around k l = record { re = (sized k l).re; im = (sized k l).im; disc = disc_more _ _ _ (more ω) (sized k l).disc }
    where
      more : (n : ℕ) → 2 ^ 20 * n ≤ (2 ^ 20 + 2 ^ 7) * n
      more n = omega arith

  -- bin k, prepared and conjugated, is what it should be
  abbrev Ready : ℕ → Complex → Type 0
  Ready k z = k < h → Held binary32 z.re × Held binary32 z.im × Off ((2 ^ 60 + 2 ^ 50) * ω) (scale_g (2 ^ 60) (conj_g (val_c z))) (N k)

  zero_is : N 0 ≡ formed (2 ^ 60) (conj_g (folded (c 0))) (conj_g (folded (c h))) (record { re = record { more = 2 ^ 60; less = 0 }; im = zero_z })
  unfolding prepared spin
  zero_is =
      let all : h - 0 ≡ h = omega arith in let none : d * 0 ≡ 0 = omega arith in
      ap₂ (λ (x y : Gauss). formed (2 ^ 60) (conj_g x) (conj_g y) (house (d * 0))) (taken_first h c) (ap b all ∙ taken_last h c some)
      ∙ ap (formed (2 ^ 60) (conj_g (folded (c 0))) (conj_g (folded (c h)))) (ap house none ∙ house_whole 0 refl)

  inner_is : (k : ℕ) → 0 < k → k < h → N k ≡ formed (2 ^ 60) (conj_g (val_c (c k))) (conj_g (val_c (c (h - k)))) (house (d * k))
  unfolding prepared
  inner_is k pk lk = ap₂ (λ (x y : Gauss). formed (2 ^ 60) (conj_g x) (conj_g y) (house (d * k))) (taken_inner h c k pk lk)
      (taken_inner h c (h - k) (omega arith) (omega arith))

  first_ready : Ready 0 (ifft_steps.first (c 0) (c h))
  first_ready l =
      let o = first_off (c 0) (c h) ω most (around 0 (le_of_lt some)) (around h (le_of_eq refl)) in (
        o.0,
        o.1,
        off_eq _ _ _ _ _ refl (sym zero_is) (off_same _ _ _ _ _ (same_self _) (first_form (2 ^ 60) (val_c (c 0)) (val_c (c h)))
            (conj_disc _ (minus_g (scale_g (2 ^ 60) (val_c (ifft_steps.first (c 0) (c h)))) (scale_g (2 ^ 60) (first_g (val_c (c 0)) (val_c (c h))))) o.2)),
      )

  last_ready : Ready h (ifft_steps.last (c 0) (c h))
  last_ready l = absurd (self h l)
    where
      self : (n : ℕ) → n < n → ⊥
      self n l = omega arith

  near_ready : (j : ℕ) → 0 < j → 2 * j < h → Ready j (ifft_steps.near (c j) (c (h - j)) (t j))
  near_ready j pj lj l =
      let w = house (d * j) in
      let o = ifft_near_off (c j) (c (h - j)) ω big most (around j (le_of_lt l)) (around (h - j) (omega arith)) (t j) (conj_g w) (twiddles j pj lj)
      (conj_disc _ w (turns.norm (d * j))) in (
        o.0,
        o.1,
        off_eq _ _ _ _ _ refl (sym (inner_is j pj l)) (off_same _ _ _ _ _ (same_self _) (near_form (2 ^ 60) (val_c (c j)) (val_c (c (h - j))) w)
            (conj_disc _ (minus_g (scale_g (2 ^ 60) (val_c (ifft_steps.near (c j) (c (h - j)) (t j))))
            (plus_g (scale_g (2 ^ 60) (plus_g (val_c (c j)) (conj_g (val_c (c (h - j))))))
            (neg_g (times_g (quarter (minus_g (val_c (c j)) (conj_g (val_c (c (h - j)))))) (conj_g w))))) o.2)),
      )

  far_ready : (j : ℕ) → 0 < j → 2 * j < h → Ready (h - j) (ifft_steps.far (c j) (c (h - j)) (t j))
  far_ready j pj lj l =
      let w = house (d * j) in let back : h - (h - j) ≡ j = omega arith in
      let o = ifft_far_off (c j) (c (h - j)) ω big most (around j (omega arith)) (around (h - j) (le_of_lt l)) (t j) (conj_g w) (twiddles j pj lj)
      (conj_disc _ w (turns.norm (d * j))) in
      let m : house (d * (h - j)) ≡ record { re = neg_z w.re; im = w.im } = house_mirror (d * j) (d * (h - j)) 0 (sides (h - j) (omega arith)) in
      let e : N (h - j) ≡ formed (2 ^ 60) (conj_g (val_c (c (h - j)))) (conj_g (val_c (c j))) (record { re = neg_z w.re; im = w.im }) =
      inner_is (h - j) (omega arith) l ∙ ap (λ (n : ℕ). formed (2 ^ 60) (conj_g (val_c (c (h - j)))) (conj_g (val_c (c n))) (house (d * (h - j)))) back
      ∙ ap (formed (2 ^ 60) (conj_g (val_c (c (h - j)))) (conj_g (val_c (c j)))) m in (
        o.0,
        o.1,
        off_eq _ _ _ _ _ refl (sym e) (off_same _ _ _ _ _ (same_self _) (far_form (2 ^ 60) (val_c (c j)) (val_c (c (h - j))) w)
            (conj_disc _ (minus_g (scale_g (2 ^ 60) (val_c (ifft_steps.far (c j) (c (h - j)) (t j))))
            (conj_g (minus_g (scale_g (2 ^ 60) (plus_g (val_c (c j)) (conj_g (val_c (c (h - j))))))
            (neg_g (times_g (quarter (minus_g (val_c (c j)) (conj_g (val_c (c (h - j)))))) (conj_g w)))))) o.2)),
      )
    where
      sides : (r : ℕ) → j + r ≡ h → d * j + d * r ≡ 3360 + 6720 * 0
      sides r e = omega (arith, ap (λ (n : ℕ). d * n) e, circle)

  centre_ready : (j : ℕ) → 0 < j → 2 * j ≡ h → Ready j (ifft_steps.centre (c j))
  unfolding spin
  centre_ready j pj ej l =
      let z = plus (c j) (c j) in let o = centre_off (c j) ω most (around j (le_of_lt l)) in
      let same : h - j ≡ j = omega arith in
      let quarter-turn : d * j ≡ 1680 = omega (arith, ap (λ (n : ℕ). d * n) ej, circle) in
      let e : N j ≡ formed (2 ^ 60) (conj_g (val_c (c j))) (conj_g (val_c (c j))) (record { re = zero_z; im = record { more = 0; less = 2 ^ 60 } }) =
      inner_is j pj l ∙ ap (λ (n : ℕ). formed (2 ^ 60) (conj_g (val_c (c j))) (conj_g (val_c (c n))) (house (d * j))) same
      ∙ ap (formed (2 ^ 60) (conj_g (val_c (c j))) (conj_g (val_c (c j)))) (ap house quarter-turn ∙ house_whole 1680 refl) in (
        o.0,
        neg_held binary32 z.im o.1,
        off_eq _ _ _ _ _ (ap (λ (g : Gauss). scale_g (2 ^ 60) (conj_g g)) (sym (conj_val z))) (sym e)
            (off_same _ _ _ _ _ (same_self _) (centre_form (2 ^ 60) (val_c (c j))) o.2),
      )

  pub ready : (k : ℕ) → k ≤ h → Ready k (end_cell ifft_steps h c t k)
  ready = end_cell_lem ifft_steps h c t Ready first_ready last_ready near_ready far_ready centre_ready

  -- ---- sizes

  bin_disc : (k : ℕ) → k ≤ h → Disc (2 * (2 ^ 20 * ω)) (b k)
  bin_disc k l = dite (dec_le 1 k) (λ (g : 1 ≤ k). dite (dec_le h k)
      (λ (f : h ≤ k). let e : k ≡ h = omega arith in
      subst (Disc (2 * (2 ^ 20 * ω))) (sym (ap b e ∙ taken_last h c some)) (folded_disc (c h) (sized h (le_of_eq refl))))
      (λ (f : h ≤ k → ⊥). subst (Disc (2 * (2 ^ 20 * ω))) (sym (taken_inner h c k g (omega (arith, f))))
      (disc_more _ _ _ (double (2 ^ 20 * ω)) (sized k l).disc)))
      (λ (g : 1 ≤ k → ⊥). let e : k ≡ 0 = omega (arith, g) in
      subst (Disc (2 * (2 ^ 20 * ω))) (sym (ap b e ∙ taken_first h c)) (folded_disc (c 0) (sized 0 (le_of_lt some))))
    where
      double : (n : ℕ) → n ≤ 2 * n
      double n = omega arith

      folded_disc : (z : Complex) → Around (2 ^ 20 * ω) z → Disc (2 * (2 ^ 20 * ω)) (folded z)
      folded_disc z p = record {
        inside = go (abs_z (minus_z (val binary32 z.re) (val binary32 z.im)))
            (apart (val binary32 z.re) (val binary32 z.im) _ (part_re _ _ p.disc) (part_im _ _ p.disc));
      }
        where
          apart : (x y : Signed) (n : ℕ) → abs_z x ≤ n → abs_z y ≤ n → abs_z (minus_z x y) ≤ 2 * n
          apart x y n a b = omega arith

          go : {n : ℕ} → (a : ℕ) → a ≤ n → a * a + abs_z zero_z * abs_z zero_z ≤ n * n
          go a l = omega (arith, mul-le-mul l l)

  pub difference_disc : (k : ℕ) → k < h → Disc (2 ^ 20 * (4 * ω)) (quarter (minus_g (conj_g (b k)) (conj_g (conj_g (b (h - k))))))
  difference_disc k l = quarter_disc _ (minus_g (conj_g (b k)) (conj_g (conj_g (b (h - k)))))
      (disc_more _ _ _ (le_of_eq (order ω)) (disc_plus (2 * (2 ^ 20 * ω)) (2 * (2 ^ 20 * ω)) (conj_g (b k)) (neg_g (conj_g (conj_g (b (h - k)))))
      (conj_disc _ (b k) (bin_disc k (le_of_lt l)))
      (neg_both_disc _ (conj_g (conj_g (b (h - k)))) (bin_disc (h - k) (omega arith)))))
    where
      order : (n : ℕ) → 2 * (2 ^ 20 * n) + 2 * (2 ^ 20 * n) ≡ 2 ^ 20 * (4 * n)
      order n = omega arith

  prepared_disc : (k : ℕ) → k < h → Disc ((2 ^ 60 + 1) * (2897 * 2 ^ 10 * ω)) (N k)
  prepared_disc k l = dite (dec_le 1 k) (λ (g : 1 ≤ k). subst (Disc ((2 ^ 60 + 1) * (2897 * 2 ^ 10 * ω))) (sym (inner_is k g l))
      (formed_disc (2 ^ 60) (2 ^ 20 * ω) ((2 ^ 60 + 1) * (2897 * 2 ^ 10 * ω)) (conj_g (val_c (c k))) (conj_g (val_c (c (h - k)))) (house (d * k))
      (inner (2 ^ 60 + 1) ω)
      (conj_disc _ (val_c (c k)) (sized k (le_of_lt l)).disc) (conj_disc _ (val_c (c (h - k))) (sized (h - k) (omega arith)).disc) (turns.norm (d * k))))
      (λ (g : 1 ≤ k → ⊥).
      let e : k ≡ 0 = omega (arith, g) in
      let f = first_disc (2 ^ 20 * ω) (2897 * 2 ^ 10 * ω) (val_c (c 0)) (val_c (c h)) (outer ω) (sized 0 (le_of_lt some)).disc (sized h (le_of_eq refl)).disc in
      subst (Disc ((2 ^ 60 + 1) * (2897 * 2 ^ 10 * ω))) (sym (ap N e ∙ zero_is))
      (disc_more _ _ _ (more (2 ^ 60) (2897 * 2 ^ 10 * ω)) (disc_same _ _ _ (first_form (2 ^ 60) (val_c (c 0)) (val_c (c h))).0
      (first_form (2 ^ 60) (val_c (c 0)) (val_c (c h))).1
      (disc_scale (2 ^ 60) _ (conj_g (first_g (val_c (c 0)) (val_c (c h)))) (conj_disc _ (first_g (val_c (c 0)) (val_c (c h))) f)))))
    where
      outer : (n : ℕ) → 8 * (2 ^ 20 * n * (2 ^ 20 * n)) ≤ 2897 * 2 ^ 10 * n * (2897 * 2 ^ 10 * n)
      outer n = omega arith

      inner : (G n : ℕ) → 8 * (G * G * (2 ^ 20 * n * (2 ^ 20 * n))) ≤ G * (2897 * 2 ^ 10 * n) * (G * (2897 * 2 ^ 10 * n))
      inner G n = le_trans (le_of_eq (order G (2 ^ 20 * n * (2 ^ 20 * n))))
          (le_trans (mul-le-mul_left (G * G) (outer n)) (le_of_eq (again G (2897 * 2 ^ 10 * n))))
        where
          order : (G x : ℕ) → 8 * (G * G * x) ≡ G * G * (8 * x)
          order G x = omega arith

          again : (G x : ℕ) → G * G * (x * x) ≡ G * x * (G * x)
          again G x = omega arith

      more : (G x : ℕ) → G * x ≤ (G + 1) * x
      more G x = omega arith

  pub cell_disc : (v : ℕ) → ω ≡ 1024 * v → (k : ℕ) → k < h → Disc (2 ^ 20 * (2898 * v)) (conj_g (val_c (end_cell ifft_steps h c t k)))
  cell_disc v e k l = disc_unscale (2 ^ 60) (2 ^ 20 * (2898 * v)) (conj_g (val_c (end_cell ifft_steps h c t k))) (pow_pos 60)
      (disc_more _ _ _ (room ω v e) (disc_near _ _ (scale_g (2 ^ 60) (conj_g (val_c (end_cell ifft_steps h c t k)))) (N k) (ready k (le_of_lt l) l).2
      (prepared_disc k l)))
    where
      room : (n v : ℕ) → n ≡ 1024 * v → (2 ^ 60 + 2 ^ 50) * n + (2 ^ 60 + 1) * (2897 * 2 ^ 10 * n) ≤ 2 ^ 60 * (2 ^ 20 * (2898 * v))
      room n v e = omega arith
