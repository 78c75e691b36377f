-- What the call of power answers over a band of bins that are near exact ones. Assumes nothing.
use Rattle.sequences.proofs.Basics.{◌≡◌, refl, sym, ap, subst, ℕ, zero, suc, ◌+◌, ◌-◌, ◌*◌, ◌^◌, ◌≤◌, ◌<◌, le_trans, le_of_eq, mul-le-mul_left}
use Rattle.sequences.proofs.Basics.{mul-le-mul_right, arith, false, List, lit≤, length}
use lib.Ieee.{Float, binary32}
use Rattle.floats.specs.Complexes.{cell}
use Rattle.power.specs.Power.{power_of, power_from, power_verdict, Powers}
use Rattle.std.specs.Prelude.{Ok}
use Rattle.power.proofs.Sums.{bins_told}
use Rattle.finite.specs.Sizes.{Words}
use Rattle.finite.proofs.Calls.{summing, summed_within}
use Rattle.accuracy.specs.Gauss.{Gauss, scale_g, Disc, Off, val_c}
use Rattle.accuracy.specs.Spectrum.{along, power, IsUnits}
use Rattle.accuracy.specs.Value.{mag, Held}
use Rattle.accuracy.proofs.Calls.{mag_most}
use Rattle.accuracy.proofs.Detect.{seen}
use Rattle.accuracy.proofs.Dft.{sum_n}
use Rattle.accuracy.proofs.Line.{power_scale}
use Rattle.accuracy.proofs.Plane.{disc_near}
use Rattle.accuracy.proofs.Power.{BinPower, bin_power, BandPower, band_power}
use Rattle.accuracy.proofs.Sums.{sum_n_term}
use Rattle.accuracy.proofs.Values.{held_is, val_is}

-- ---- numbers

-- one bin of a band against the whole
share : (P Q S n : ℕ) → P ≤ Q → n ≤ 2 ^ 13 → 2 ^ 24 * Q ≤ 2 ^ 24 * S + n * Q → 2047 * P ≤ 2048 * S
share P Q S n a b c = omega (arith, mul-le-mul_right Q b)

-- its exact power against the whole
seen_power : (U w P S : ℕ) → 2047 * P ≤ 2048 * S → 2 ^ 24 * w ≤ 2 ^ 24 * U * P + 3 * w + 2 * (2 ^ 24 * U) → 1023 * w ≤ 1024 * (U * (S + 2))
seen_power U w P S a b = omega (arith, mul-le-mul_left U a)

seen_all : (c X w A Y T : ℕ) → c ≤ X * w * A → 1023 * w ≤ 1024 * (Y * T) → 1023 * c ≤ 1024 * (X * Y * A) * T
seen_all c X w A Y T a b =
    le_trans (mul-le-mul_left 1023 a) (le_trans (le_of_eq (order₁ X w A)) (le_trans (mul-le-mul_left (X * A) b) (le_of_eq (order₂ X A Y T))))
  where
    order₁ : (X w A : ℕ) → 1023 * (X * w * A) ≡ X * A * (1023 * w)
    order₁ X w A = omega arith

    order₂ : (X A Y T : ℕ) → X * A * (1024 * (Y * T)) ≡ 1024 * (X * Y * A) * T
    order₂ X A Y T = omega arith

-- each bin of a band
quiet_bin : (U G w B P : ℕ) → G * w ≤ B → 2 ^ 24 * U * P ≤ (2 ^ 24 + 3) * w + 2 * (2 ^ 24 * U)
    → 2 ^ 24 * (G * U) * P ≤ (2 ^ 24 + 3) * B + 2 * (2 ^ 24 * (G * U))
quiet_bin U G w B P a b = omega (arith, mul-le-mul_left G b)

quiet_sum : (n : ℕ) (Ps : ℕ → ℕ) (c X : ℕ) → ((i : ℕ) → i < n → c * Ps i ≤ X) → c * sum_n n Ps ≤ n * X
unfolding sum_n
quiet_sum zero Ps c X h = omega arith
quiet_sum (suc n) Ps c X h = next (sum_n n Ps) (Ps n) (quiet_sum n Ps c X (λ i l. h i (omega arith))) (h n (omega arith))
  where
    next : (Q P : ℕ) → c * Q ≤ n * X → c * P ≤ X → c * (Q + P) ≤ suc n * X
    next Q P a b = omega arith

quiet_total : (n S Q : ℕ) → n ≤ 2 ^ 13 → 2 ^ 24 * S ≤ (2 ^ 24 + 2 * n) * Q → 1024 * S ≤ 1025 * Q
quiet_total n S Q a b = omega (arith, mul-le-mul_right Q a)

quiet_all : (Y B S Q n : ℕ) → 1024 * S ≤ 1025 * Q → 2 ^ 24 * Y * Q ≤ n * ((2 ^ 24 + 3) * B + 2 * (2 ^ 24 * Y)) → 512 * (Y * S) ≤ 513 * (n * (B + 2 * Y))
quiet_all Y B S Q n a b = omega (arith, mul-le-mul_left Y a)

-- ---- a call

module _ (ys : List Float) (h D : ℕ) (exact : ℕ → Gauss) (long : length ys ≡ 2 * (h + 1))
    (held : (k : ℕ) → k ≤ h → Held binary32 (cell ys k).re × Held binary32 (cell ys k).im)
    (near : (k : ℕ) → k ≤ h → Off D (scale_g (2 ^ 60) (val_c (cell ys k))) (exact k)) (lo hi : ℕ) (x : Float) (sum : Powers ys lo hi (Ok x)) where
  band : (lo ≤ hi) × (2 * (hi + 1) ≤ length ys) × (length ys ≤ 8194)
  band = bins_told ys lo hi (power_verdict ys lo hi) refl (summing ys lo hi x sum).0

  small : Words 48 ys
  small = summed_within ys lo hi x sum

  abbrev n : ℕ
  n = hi + 1 - lo

  abbrev P : ℕ → ℕ
  P i = mag binary32 (power_of (cell ys (lo + i)))

  in-band : (i : ℕ) → i < n → lo + i ≤ h
  in-band i l = omega (arith, band.0, band.1, long)

  few : n ≤ 2 ^ 13 - 1
  few = omega (arith, band.1, band.2)

  bin : (k : ℕ) → k ≤ h → BinPower (cell ys k) (mag binary32 (power_of (cell ys k)))
  bin k l =
      let o = held k l in
      bin_power (cell ys k) o.0 o.1 (le_trans (mag_most 48 (cell ys k).re o.0 (small (2 * k) (omega (arith, long)))) (lit≤ tt))
      (le_trans (mag_most 48 (cell ys k).im o.1 (small (2 * k + 1) (omega (arith, long)))) (lit≤ tt))

  all : BandPower ys lo n (sum_n n P)
  all = band_power ys lo P n few (λ i l. let b = bin (lo + i) (in-band i l) in (b.has, b.small))

  units : IsUnits all.S x
  units = subst (IsUnits all.S) (sym (summing ys lo hi x sum).1)
      (record { held = held_is binary32 (power_from ys lo n) false all.S all.has; value = val_is binary32 (power_from ys lo n) false all.S all.has })

  -- bin k goes C along r, which is at most A in size
  pub seen_in : (k : ℕ) → lo ≤ k → k ≤ hi → (r : Gauss) (A C : ℕ) → Disc A r → C + (along (exact k) r).less ≤ (along (exact k) r).more
      → (S : ℕ) × IsUnits S x × (1023 * ((C - A * D) * (C - A * D)) ≤ 1024 * (2 ^ 60 * 2 ^ 60 * 2 ^ 149 * (A * A)) * (S + 2))
  seen_in k lk kh r A C size enough =
      let at : lo + (k - lo) ≡ k = omega arith in let li : k - lo < n = omega arith in let z = cell ys k in
      let own : P (k - lo) ≡ mag binary32 (power_of z) = ap (λ (m : ℕ). mag binary32 (power_of (cell ys m))) at in
      let lh : k ≤ h = subst (λ (m : ℕ). m ≤ h) at (in-band (k - lo) li) in
      let part : 2047 * mag binary32 (power_of z) ≤ 2048 * all.S =
      share (mag binary32 (power_of z)) (sum_n n P) all.S n (le_trans (le_of_eq (sym own)) (sum_n_term n P (k - lo) li)) (le_trans few (lit≤ tt))
      all.under in
      let c : (C - A * D) * (C - A * D) ≤ 2 ^ 60 * 2 ^ 60 * power (val_c z) * (A * A) =
      le_trans (seen D A C (scale_g (2 ^ 60) (val_c z)) (exact k) r (near k lh) size enough)
      (le_of_eq (ap (λ (m : ℕ). m * (A * A)) (power_scale (2 ^ 60) (val_c z)))) in (
        all.S,
        units,
        seen_all ((C - A * D) * (C - A * D)) (2 ^ 60 * 2 ^ 60) (power (val_c z)) (A * A) (2 ^ 149)
            (all.S + 2) c (seen_power (2 ^ 149) (power (val_c z)) (mag binary32 (power_of z)) all.S part (bin k lh).under),
      )

  -- every bin of the band is at most M in size
  pub quiet_in : (M : ℕ) → ((k : ℕ) → lo ≤ k → k ≤ hi → Disc M (exact k))
      → (S : ℕ) × IsUnits S x × (512 * (2 ^ 60 * 2 ^ 60 * 2 ^ 149 * S) ≤ 513 * ((hi + 1 - lo) * ((D + M) * (D + M) + 2 * (2 ^ 60 * 2 ^ 60 * 2 ^ 149))))
  quiet_in M each =
      let one : (i : ℕ) → i < n → 2 ^ 24 * (2 ^ 60 * 2 ^ 60 * 2 ^ 149) * P i ≤ (2 ^ 24 + 3) * ((D + M) * (D + M)) + 2 * (2 ^ 24 * (2 ^ 60 * 2 ^ 60 * 2 ^ 149)) =
      λ i l.
      let z = cell ys (lo + i) in
      let d : Disc (D + M) (scale_g (2 ^ 60) (val_c z)) = disc_near D M (scale_g (2 ^ 60) (val_c z)) (exact (lo + i)) (near (lo + i) (in-band i l))
      (each (lo + i) (omega arith) (omega arith)) in
      let v : 2 ^ 60 * 2 ^ 60 * power (val_c z) ≤ (D + M) * (D + M) = le_trans (le_of_eq (sym (power_scale (2 ^ 60) (val_c z)))) d.inside in
      quiet_bin (2 ^ 149) (2 ^ 60 * 2 ^ 60) (power (val_c z)) ((D + M) * (D + M)) (P i) v (bin (lo + i) (in-band i l)).above in (
        all.S,
        units,
        quiet_all (2 ^ 60 * 2 ^ 60 * 2 ^ 149) ((D + M) * (D + M)) all.S
            (sum_n n P) n (quiet_total n all.S (sum_n n P) (le_trans few (lit≤ tt)) all.above)
            (quiet_sum n P (2 ^ 24 * (2 ^ 60 * 2 ^ 60 * 2 ^ 149)) ((2 ^ 24 + 3) * ((D + M) * (D + M)) + 2 * (2 ^ 24 * (2 ^ 60 * 2 ^ 60 * 2 ^ 149))) one),
      )
