-- Laws of sizes at a transform's ends: the steps there add three binary digits at most. Assumes nothing.
use Rattle.sequences.proofs.Basics.{◌≡◌, refl, sym, ap, ◌∙◌, subst, ℕ, ◌+◌, ◌-◌, ◌*◌, ◌^◌, ◌≤◌, ◌<◌, arith, Bool, true, false, cond, List, eqb, ltb, lit≤}
use Rattle.sequences.proofs.Basics.{eqb-true, eqb-false, ltb-true, ltb-false}
use lib.Ieee.{Float, binary32, of_bits, mul}
use Rattle.sequences.specs.Lists.{tabulate}
use Rattle.sequences.proofs.Tables.{length_tabulate, get_d_tabulate}
use Rattle.turn.specs.Turns.{+0, one_half}
use Rattle.floats.specs.Complexes.{blank, plus, minus, conjugate, cell, flat}
use Rattle.floats.specs.declared.complex.Complex.{Complex}
use Rattle.mixing.specs.Steps.{mixed, fft_near, fft_far, ifft_near, ifft_far, Steps, fft_steps, ifft_steps}
use Rattle.ends.specs.Ends.{end_cell, conjugated}
use Rattle.finite.specs.Sizes.{AtMost, Both, Words}
use Rattle.finite.proofs.Sizes.{Room, add_most, sub_most, mul_most, neg_most}
use Rattle.finite.proofs.Stages.{six, plus_both, minus_both, once_most, both_shifted, conjugate_both}
use Rattle.finite.proofs.Words.{cells_words}

-- ---- numbers of the steps

pub zero_most : (q k : ℕ) → AtMost q k +0
unfolding of_bits
zero_most q k = omega arith

half_most : (k : ℕ) → k ≤ 121 → (x : Float) → AtMost 2 k x → AtMost 2 k (mul binary32 one_half x)
unfolding of_bits
half_most k few x v =
    let same : 0 + k ≡ k = omega arith in
    subst (λ (n : ℕ). AtMost 2 n (mul binary32 one_half x)) same (mul_most 6 1 2 0 k (six 2 (0 + k) (lit≤ tt) (rw same few)) one_half x (omega arith) v)

-- ---- a pair

module _ (k : ℕ) (few : k ≤ 121) (a b t : Complex) (va : Both 1 k a) (vb : Both 1 k b) (vt : Both 1 0 t) where
  S : Both 2 k (plus a b)
  S = plus_both 6 1 1 k (six 2 k (lit≤ tt) few) a b va vb

  D : Both 2 k (minus a b)
  D = minus_both 6 1 1 k (six 2 k (lit≤ tt) few) a b va vb

  two : Room 6 2 k
  two = six 2 k (lit≤ tt) few

  mix : Both 4 k (mixed (plus a b) (minus a b) t)
  mix =
      record {
        re = add_most 6 2 2 k (six 4 k (lit≤ tt) few) _ _ (once_most 6 2 k two _ _ S.im vt.re) (once_most 6 2 k two _ _ D.re vt.im);
        im = sub_most 6 2 2 k (six 4 k (lit≤ tt) few) _ _ (once_most 6 2 k two _ _ S.im vt.im) (once_most 6 2 k two _ _ D.re vt.re);
      }

  fft_near_lem : Both 6 k (fft_near a b t)
  fft_near_lem =
      record {
        re = add_most 6 2 4 k (six 6 k (lit≤ tt) few) _ _ (half_most k few _ S.re) mix.re;
        im = add_most 6 2 4 k (six 6 k (lit≤ tt) few) _ _ (half_most k few _ D.im) mix.im;
      }

  fft_far_lem : Both 6 k (fft_far a b t)
  fft_far_lem =
      record {
        re = sub_most 6 2 4 k (six 6 k (lit≤ tt) few) _ _ (half_most k few _ S.re) mix.re;
        im = sub_most 6 4 2 k (six 6 k (lit≤ tt) few) _ _ mix.im (half_most k few _ D.im);
      }

  ifft_near_lem : Both 6 k (ifft_near a b t)
  ifft_near_lem =
      record { re = sub_most 6 2 4 k (six 6 k (lit≤ tt) few) _ _ S.re mix.re; im = sub_most 6 2 4 k (six 6 k (lit≤ tt) few) _ _ D.im mix.im }

  ifft_far_lem : Both 6 k (ifft_far a b t)
  ifft_far_lem =
      record {
        re = add_most 6 2 4 k (six 6 k (lit≤ tt) few) _ _ S.re mix.re;
        im = sub_most 6 4 2 k (six 6 k (lit≤ tt) few) _ _ (neg_most 4 k _ mix.im) D.im;
      }

-- ---- all cells

-- what is asked of cell j, by its case
module _ (s : Steps) (h : ℕ) (c t : ℕ → Complex) (P : ℕ → Complex → Type 0)
    (first : P 0 (s.first (c 0) (c h))) (last : P h (s.last (c 0) (c h)))
    (near : (j : ℕ) → 0 < j → 2 * j < h → P j (s.near (c j) (c (h - j)) (t j)))
    (far : (j : ℕ) → 0 < j → 2 * j < h → P (h - j) (s.far (c j) (c (h - j)) (t j)))
    (centre : (j : ℕ) → 0 < j → 2 * j ≡ h → P j (s.centre (c j))) where
  pub end_cell_lem : (j : ℕ) → j ≤ h → P j (end_cell s h c t j)
  unfolding end_cell
  end_cell_lem j l = go (eqb j 0) (eqb j h) (ltb (2 * j) h) (eqb (2 * j) h) refl refl refl refl
    where
      go : (e f g i : Bool) → eqb j 0 ≡ e → eqb j h ≡ f → ltb (2 * j) h ≡ g → eqb (2 * j) h ≡ i
          → P j (cond e (s.first (c 0) (c h)) (cond f (s.last (c 0) (c h))
          (cond g (s.near (c j) (c (h - j)) (t j)) (cond i (s.centre (c j)) (s.far (c (h - j)) (c j) (t (h - j)))))))
      go true f g i x y z w = subst (λ (n : ℕ). P n (s.first (c 0) (c h))) (sym (eqb-true j 0 x)) first
      go false true g i x y z w = subst (λ (n : ℕ). P n (s.last (c 0) (c h))) (sym (eqb-true j h y)) last
      go false false true i x y z w = near j (some (eqb-false j 0 x)) (ltb-true (2 * j) h z)
        where
          some : (j ≡ 0 → ⊥) → 0 < j
          some n = omega (arith, n)
      go false false false true x y z w = centre j (some (eqb-false j 0 x)) (eqb-true (2 * j) h w)
        where
          some : (j ≡ 0 → ⊥) → 0 < j
          some n = omega (arith, n)
      go false false false false x y z w =
          let a : h ≤ 2 * j = ltb-false (2 * j) h z in let back : h - (h - j) ≡ j = omega arith in
          subst (λ (n : ℕ). P n (s.far (c (h - j)) (c n) (t (h - j)))) back (far (h - j) (some (eqb-false j h y)) (less a (eqb-false (2 * j) h w)))
        where
          some : (j ≡ h → ⊥) → 0 < h - j
          some n = omega (arith, n)

          less : h ≤ 2 * j → (2 * j ≡ h → ⊥) → 2 * (h - j) < h
          less a n = omega (arith, n)

module _ (k : ℕ) (few : k ≤ 121) (h : ℕ) (some : 0 < h) (c t : ℕ → Complex) (ones : (q : ℕ) → 0 < q → 2 * q < h → Both 1 0 (t q)) where
  -- six times as much is at most 2 ^ 3 times
  three : (q : ℕ) (z : Complex) → q ≤ 2 ^ 3 → Both q k z → Both 1 (k + 3) z
  three q z l v = both_shifted q k 3 z l v

  pub fft_cell : ((j : ℕ) → j < h → Both 1 k (c j)) → (j : ℕ) → j ≤ h → Both 1 (k + 3) (end_cell fft_steps h c t j)
  fft_cell v = end_cell_lem fft_steps h c t (λ j. Both 1 (k + 3))
      (three 2 _ (lit≤ tt) (record { re = add_most 6 1 1 k (six 2 k (lit≤ tt) few) _ _ (v 0 some).re (v 0 some).im; im = zero_most 2 k }))
      (three 2 _ (lit≤ tt) (record { re = sub_most 6 1 1 k (six 2 k (lit≤ tt) few) _ _ (v 0 some).re (v 0 some).im; im = zero_most 2 k }))
      (λ j a b. three 6 _ (lit≤ tt) (fft_near_lem k few (c j) (c (h - j)) (t j) (v j (omega arith)) (v (h - j) (omega arith)) (ones j a b)))
      (λ j a b. three 6 _ (lit≤ tt) (fft_far_lem k few (c j) (c (h - j)) (t j) (v j (omega arith)) (v (h - j) (omega arith)) (ones j a b)))
      (λ j a b. three 1 _ (lit≤ tt) (conjugate_both 1 k (c j) (v j (omega arith))))

  pub ifft_cell : ((j : ℕ) → j ≤ h → Both 1 k (c j)) → (j : ℕ) → j ≤ h → Both 1 (k + 3) (end_cell ifft_steps h c t j)
  ifft_cell v =
      let x = v 0 (omega arith) in let y = v h (omega arith) in
      let S = plus_both 6 1 1 k (six 2 k (lit≤ tt) few) (c 0) (c h) x y in
      let D = minus_both 6 1 1 k (six 2 k (lit≤ tt) few) (c 0) (c h) x y in
      end_cell_lem ifft_steps h c t (λ j. Both 1 (k + 3)) (three 4 _ (lit≤ tt)
      (record { re = sub_most 6 2 2 k (six 4 k (lit≤ tt) few) _ _ S.re S.im; im = sub_most 6 2 2 k (six 4 k (lit≤ tt) few) _ _ D.re D.im }))
      (three 1 _ (lit≤ tt) y)
      (λ j a b. three 6 _ (lit≤ tt) (ifft_near_lem k few (c j) (c (h - j)) (t j) (v j (omega arith)) (v (h - j) (omega arith)) (ones j a b)))
      (λ j a b. three 6 _ (lit≤ tt) (ifft_far_lem k few (c j) (c (h - j)) (t j) (v j (omega arith)) (v (h - j) (omega arith)) (ones j a b)))
      (λ j a b. three 2 _ (lit≤ tt) (conjugate_both 2 k _ (plus_both 6 1 1 k (six 2 k (lit≤ tt) few) (c j) (c j) (v j (omega arith)) (v j (omega arith)))))

-- cells written out, word by word
pub tabulated_words : (k n : ℕ) (f : ℕ → Complex) → ((j : ℕ) → j < n → Both 1 k (f j)) → Words k (flat (tabulate n 0 f))
tabulated_words k n f v = cells_words k (tabulate n 0 f) (λ j l.
    let small : j < n = rw (length_tabulate n 0 f) at l in let same : 0 + j ≡ j = omega arith in
    subst (Both 1 k) (sym (get_d_tabulate n 0 f j blank small ∙ ap f same)) (v j small))

pub conjugated_words : (k h : ℕ) (xs : List Float) → ((j : ℕ) → j < h → Both 1 k (cell xs j)) → Words k (conjugated h xs)
unfolding conjugated
conjugated_words k h xs v = tabulated_words k h (λ j. conjugate (cell xs j)) (λ j l. conjugate_both 1 k (cell xs j) (v j l))
