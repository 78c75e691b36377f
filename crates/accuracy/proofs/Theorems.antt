-- What a reader opens first, about how near the spectrum is. With the twiddles of an accepted filling, every bin that an accepted forward call leaves is
-- within a stated distance of the exact sum over the samples, taken with the house table's own numbers (`forward_accurate`); power refuses no band of
-- such a spectrum (`power_takes_it`); a line that the samples go along is seen in what power answers over any band with its bin (`line_seen`,
-- `line_heard`); and a band whose exact bins are small is answered with little power (`quiet_stays_quiet`); so a tone of a stated size is heard
-- (`tone_heard`), and a band that is quiet by a stated measure is not (`band_quiet`). Bins are counted in units of 2 ^ -149,
-- exact bins in 2 ^ 60 parts of these. Assumes nothing.
use Rattle.sequences.proofs.Basics.{◌≡◌, refl, sym, ap, ◌∙◌, subst, ℕ, ◌+◌, ◌-◌, ◌*◌, ◌/◌, ◌%◌, ◌^◌, ◌≤◌, ◌<◌, le_refl, le_trans, le_of_eq, mul-le-mul}
use Rattle.sequences.proofs.Basics.{mul-le-mul_left, mul-le-mul_right, add-le-add, mul-pos, le_of_mul-le-mul_left, le_of_mul-le-mul_right, arith, dec_le, true}
use Rattle.sequences.proofs.Basics.{dite, List, [], ◌∷◌, T, lit≤, lit<, length, get_or, lt_of_le_of_lt, lt_of_not-le, lt-ltb, le-ltb}
use lib.Ieee.{Float, nan, binary32}
use Rattle.refusal.specs.Refusal.{Verdict}
use Rattle.refusal.specs.Refusal.{Accepted}
use Rattle.radices.specs.Lists.{product, padded, count_of, eq_list}
use Rattle.merging.specs.Merging.{tally, sorted}
use Rattle.plan.specs.Record.{record_of, in_order, sized, is_planned}
use Rattle.plan.specs.declared.Record.{Record}
use Rattle.plan.proofs.Bounds.{plan_order, plan_half}
use Rattle.plan.proofs.Records.{passes_plannable}
use Rattle.plan.proofs.Theorems.{record_depends_on_n}
use Rattle.schedule.specs.Plans.{in_use}
use Rattle.schedule.proofs.Plans.{use-length, use-radix-few}
use Rattle.twiddle.specs.Calls.{Fills}
use Rattle.end_twiddles.specs.declared.inner.ends.Direction.TheVariants.{Forward, Inverse}
use Rattle.twiddle.proofs.Verdicts.{taken}
use Rattle.floats.specs.Complexes.{cell}
use Rattle.spectrum.specs.Calls.{Forwards, Inverts}
use Rattle.power.specs.Power.{power_from, power_verdict, Powers}
use Rattle.transform.specs.Transforms.{Slices}
use Rattle.std.specs.Prelude.{Result, Ok, Err, IsOkAnd}
use Rattle.refusal.specs.declared.Refusal.{Refusal}
use Rattle.refusal.specs.Refusal.{granted}
use Rattle.refusal.proofs.Rows.{grants}
use Rattle.hear.specs.Hear.{Hears}
use Rattle.hear.specs.declared.Decision.TheVariants.{Fanning, Quiet}
use Rattle.hear.specs.declared.Heard.{Heard}
use Rattle.hear.proofs.Theorems.{heard_band, heard_forward, heard_power, heard_fanning, heard_quiet}
use Rattle.finite.specs.Bits.{HoldAll}
use Rattle.finite.specs.Sizes.{Words}
use Rattle.finite.proofs.Calls.{samples_within, bins_within}
use Rattle.accuracy.specs.Gauss.{Gauss, scale_g, Disc, Off, val_c}
use Rattle.accuracy.specs.House.{house}
use Rattle.accuracy.specs.Spectrum.{sample, exact_bin, F32s, Sized, SixteenBit, factor, distance, sum_z, exact_sample, inverse_distance, tone, Correlates}
use Rattle.accuracy.specs.Spectrum.{IsUnits}
use Rattle.accuracy.specs.Value.{Signed, NearZ, times_z, scale, abs_z, val, Held}
use Rattle.accuracy.proofs.Bands.{seen_in, quiet_in}
use Rattle.accuracy.proofs.Calls.{word_held, mag_small, bits_f32s, pair_disc, constant, weight_least, weight_most, error_stages, scaled, root_of_two}
use Rattle.accuracy.proofs.Calls.{tenth, tenth_least, tenth_most, inverse_total, at_least, at_most, sixteen_sized}
use Rattle.accuracy.proofs.Compare.{lt_units}
use Rattle.accuracy.proofs.Complexes.{mag_abs, part_re, part_im, abs_near, near_more}
use Rattle.accuracy.proofs.Dft.{paired}
use Rattle.accuracy.proofs.Forward.{samples_long, bins_long, bin_near}
use Rattle.accuracy.proofs.Inverse.{spectrum_long, pair_near}
use Rattle.accuracy.proofs.Line.{correlation}
use Rattle.accuracy.proofs.Plane.{off_more}
use Rattle.accuracy.proofs.Rounds.{Around}
use Rattle.accuracy.proofs.Stages.{error}
use Rattle.accuracy.proofs.Taken.{exact_size, power_taken}

-- ---- three plans

-- a record depends on its length alone
same_plan : (p q : Record) → is_planned p ≡ true → is_planned q ≡ true → p.n ≡ q.n → p ≡ q
unfolding record_of
same_plan p q u v e =
    let x = passes_plannable p u in let y = passes_plannable q v in
    sym x.2 ∙ record_depends_on_n x.0 y.0 x.1 y.1 (ap (λ (z : Record). z.n) x.2 ∙ e ∙ ap (λ (z : Record). z.n) (sym y.2)) ∙ y.2

abbrev plan_960 : Record
plan_960 = record { n = 960; half = 480; count = 4; radices = 3 ∷ 4 ∷ 5 ∷ 8 ∷ 0 ∷ 0 ∷ 0 ∷ 0 ∷ 0 ∷ 0 ∷ 0 ∷ 0 ∷ 0 ∷ [] }

abbrev plan_1680 : Record
plan_1680 = record { n = 1680; half = 840; count = 4; radices = 3 ∷ 5 ∷ 7 ∷ 8 ∷ 0 ∷ 0 ∷ 0 ∷ 0 ∷ 0 ∷ 0 ∷ 0 ∷ 0 ∷ 0 ∷ [] }

abbrev plan_6720 : Record
plan_6720 = record { n = 6720; half = 3360; count = 5; radices = 3 ∷ 4 ∷ 5 ∷ 7 ∷ 8 ∷ 0 ∷ 0 ∷ 0 ∷ 0 ∷ 0 ∷ 0 ∷ 0 ∷ 0 ∷ [] }

passes_960 : is_planned plan_960 ≡ true
unfolding is_planned in_order sized tally count_of sorted padded eq_list product
passes_960 = refl

passes_1680 : is_planned plan_1680 ≡ true
unfolding is_planned in_order sized tally count_of sorted padded eq_list product
passes_1680 = refl

passes_6720 : is_planned plan_6720 ≡ true
unfolding is_planned in_order sized tally count_of sorted padded eq_list product
passes_6720 = refl

error_960 : 2829 * error (in_use plan_960) (length (in_use plan_960)) ≤ 2000 * (68 * 2 ^ 56 + 2 ^ 54)
unfolding error in_use
error_960 = lit≤ tt

error_1680 : 2829 * error (in_use plan_1680) (length (in_use plan_1680)) ≤ 2000 * (72 * 2 ^ 56 + 2 ^ 55)
unfolding error in_use
error_1680 = lit≤ tt

error_6720 : 2829 * error (in_use plan_6720) (length (in_use plan_6720)) ≤ 2000 * (88 * 2 ^ 56)
unfolding error in_use
error_6720 = lit≤ tt

-- ---- a square by another

by_size : (A M D Y T : ℕ) → 0 < A → 1023 * ((A * (M + D) - A * D) * (A * (M + D) - A * D)) ≤ 1024 * (Y * (A * A)) * T → 1023 * (M * M) ≤ 1024 * Y * T
by_size A M D Y T pos h =
    let e : A * (M + D) - A * D ≡ A * M = omega arith in
    le_of_mul-le-mul_right {m = 1023 * (M * M)} (le_trans (le_of_eq (order₁ A M))
    (le_trans (subst (λ (n : ℕ). 1023 * (n * n) ≤ 1024 * (Y * (A * A)) * T) e h) (le_of_eq (order₂ A Y T)))) (mul-pos pos pos)
  where
    order₁ : (A M : ℕ) → 1023 * (M * M) * (A * A) ≡ 1023 * (A * M * (A * M))
    order₁ A M = omega arith

    order₂ : (A Y T : ℕ) → 1024 * (Y * (A * A)) * T ≡ 1024 * Y * T * (A * A)
    order₂ A Y T = omega arith

-- fewer units, where each stands for Y
fewer : (Y S T : ℕ) → 512 * (Y * S) < 512 * (Y * T) → S < T
fewer Y S T l = lt_of_not-le (λ n. absurd (omega (arith, mul-le-mul_left Y n)))

-- ---- of an answer

-- what follows of each number follows of one that is answered
follows : (P Q : Float → Type 0) (s : Result Float Refusal) → ((x : Float) → P x → Q x) → IsOkAnd s P → IsOkAnd s Q
follows P Q (Ok x) f o = f x o
follows P Q (Err why) f o = o

-- ---- the error of a plan's run

run_error : (p : Record) → is_planned p ≡ true → error (in_use p) (length (in_use p)) ≤ p.count * (15 * 2 ^ 56 + 2 ^ 51)
run_error p planned = subst (λ (n : ℕ). error (in_use p) (length (in_use p)) ≤ n * (15 * 2 ^ 56 + 2 ^ 51)) (use-length p planned)
    (error_stages (in_use p) (λ j l. use-radix-few p planned j (subst (λ (n : ℕ). j < n) (use-length p planned) l)) (length (in_use p))
    (le_refl (length (in_use p))))

-- ---- the distance

-- an accepted forward call, lent the twiddles that an accepted filling left
module _ (p : Record) (W : ℕ) (lent : Slices) (v : Verdict) (tw : Slices) (fills : Fills Forward p W lent v tw) (filled : v ≡ Accepted)
    (xs : List Float) (before : Slices) (r₀ : Verdict) (after : Slices) (call : Forwards p W tw.0 tw.1 xs before r₀ after) (e : r₀ ≡ Accepted)
    (words : F32s xs) where
  planned : is_planned p ≡ true
  planned = (taken p W (length lent.0) (length lent.1) v fills.answer filled).planned

  long : length xs ≡ 2 * p.half
  long = samples_long p W lent v tw fills filled xs before r₀ after call e

  -- what is accepted is finite
  held : (i : ℕ) → i < length xs → Held binary32 (get_or xs i nan)
  held i l = word_held 1 32 (get_or xs i nan) (words i l) (samples_within p W tw.0 tw.1 xs before r₀ after call e i l)

  abbrev E : ℕ
  E = error (in_use p) (length (in_use p))

  -- what the ends make of it
  abbrev F : ℕ
  F = p.count * (21 * 2 ^ 56 + 2 ^ 55)

  stages : 2829 * E ≤ 2000 * F
  stages = grown E p.count (run_error p planned)
    where
      grown : (E j : ℕ) → E ≤ j * (15 * 2 ^ 56 + 2 ^ 51) → 2829 * E ≤ 2000 * (j * (21 * 2 ^ 56 + 2 ^ 55))
      grown E j l = omega arith

  enough : (j : ℕ) → 3 * (j * (21 * 2 ^ 56 + 2 ^ 55) + 13 * 2 ^ 56 + 2 ^ 50) ≤ 2 * factor j * 2 ^ 56
  enough j = omega arith

  -- ---- samples of a size, by any bound F on the error at the ends

  module _ (b : ℕ) (few : b ≤ 164) (small : Sized b xs) where
    sizes : (u : ℕ) → u < p.half → Disc (2 ^ 20 * (3 * 2 ^ (20 + b))) (paired (sample xs) u)
    sizes u l = pair_disc b (get_or xs (u * 2 + 0) nan) (get_or xs (u * 2 + 1) nan) (small (u * 2 + 0) (omega (arith, long)))
        (small (u * 2 + 1) (omega (arith, long)))

    near_by : (F C : ℕ) → 2829 * E ≤ 2000 * F → 3 * (F + 13 * 2 ^ 56 + 2 ^ 50) ≤ 2 * C * 2 ^ 56 → (k : ℕ) → k ≤ p.half
        → Held binary32 (cell after.0 k).re × Held binary32 (cell after.0 k).im
        × Off (C * (p.half * 2 ^ (77 + b))) (scale_g (2 ^ 60) (val_c (cell after.0 k))) (exact_bin p.half xs k)
    near_by F C root room k lk =
        let o = bin_near p W lent v tw fills filled xs before r₀ after call e held (λ u. 3 * 2 ^ (20 + b)) sizes (λ u m. weight_least b)
        (weight_most p.half b (plan_half p planned).1 few)
        F (root_of_two (2 ^ 60) E F (lit≤ tt) root) k lk in (
          o.0,
          o.1,
          off_more _ _ _ _ (le_trans (le_of_eq (ap (λ (n : ℕ). (F + 13 * 2 ^ 56 + 2 ^ 50) * n) (constant p.half (3 * 2 ^ (20 + b)))))
              (scaled (F + 13 * 2 ^ 56 + 2 ^ 50) C p.half b room)) o.2,
        )

    -- every number of a bin is a whole number of units
    pub forward_held : (k : ℕ) → k ≤ p.half → Held binary32 (cell after.0 k).re × Held binary32 (cell after.0 k).im
    forward_held k lk = let o = near_by F (factor p.count) stages (enough p.count) k lk in (o.0, o.1)

    -- Bin k is within (33 stages + 20) h B / 2 ^ 24 of the exact sum, in the plane, where the samples are at most B = 2 ^ (b - 108).
    pub forward_accurate : (k : ℕ) → k ≤ p.half → Off (distance p.count p.half b) (scale_g (2 ^ 60) (val_c (cell after.0 k))) (exact_bin p.half xs k)
    forward_accurate k lk = (near_by F (factor p.count) stages (enough p.count) k lk).2

    -- so each part of it is
    pub forward_parts : (k : ℕ) → k ≤ p.half → NearZ (distance p.count p.half b) (scale (2 ^ 60) (val binary32 (cell after.0 k).re))
        (exact_bin p.half xs k).re
        × NearZ (distance p.count p.half b) (scale (2 ^ 60) (val binary32 (cell after.0 k).im)) (exact_bin p.half xs k).im
    forward_parts k lk =
        let o = forward_accurate k lk in (
          abs_near _ (scale (2 ^ 60) (val binary32 (cell after.0 k).re)) (exact_bin p.half xs k).re (part_re _ _ o),
          abs_near _ (scale (2 ^ 60) (val binary32 (cell after.0 k).im)) (exact_bin p.half xs k).im (part_im _ _ o),
        )

    -- ---- plain numbers, for one length each

    module _ (q : Record) (passes : is_planned q ≡ true) (length-is : p.n ≡ q.n) (F C : ℕ)
        (root : 2829 * error (in_use q) (length (in_use q)) ≤ 2000 * F) (room : 3 * (F + 13 * 2 ^ 56 + 2 ^ 50) ≤ 2 * C * 2 ^ 56) where
      near_at : (k : ℕ) → k ≤ q.half → Off (C * (q.half * 2 ^ (77 + b))) (scale_g (2 ^ 60) (val_c (cell after.0 k))) (exact_bin q.half xs k)
      near_at k lk =
          let same : p ≡ q = same_plan p q planned passes length-is in
          let l : k ≤ p.half = subst (λ (z : Record). k ≤ z.half) (sym same) lk in
          let o = (near_by F C (subst (λ (z : Record). 2829 * error (in_use z) (length (in_use z)) ≤ 2000 * F) (sym same) root) room k l).2 in
          subst (λ (z : Record). Off (C * (z.half * 2 ^ (77 + b))) (scale_g (2 ^ 60) (val_c (cell after.0 k))) (exact_bin z.half xs k)) same o

    -- 960 samples: 122 * 480 / 2 ^ 24 of B, below 0.0035 B
    pub accurate_960 : p.n ≡ 960 → (k : ℕ) → k ≤ 480 → Off (122 * (480 * 2 ^ (77 + b))) (scale_g (2 ^ 60) (val_c (cell after.0 k))) (exact_bin 480 xs k)
    accurate_960 e = near_at plan_960 passes_960 e (68 * 2 ^ 56 + 2 ^ 54) 122 error_960 (lit≤ tt)

    -- 1,680 samples: 129 * 840 / 2 ^ 24 of B, below 0.0065 B
    pub accurate_1680 : p.n ≡ 1680 → (k : ℕ) → k ≤ 840 → Off (129 * (840 * 2 ^ (77 + b))) (scale_g (2 ^ 60) (val_c (cell after.0 k))) (exact_bin 840 xs k)
    accurate_1680 e = near_at plan_1680 passes_1680 e (72 * 2 ^ 56 + 2 ^ 55) 129 error_1680 (lit≤ tt)

    -- 6,720 samples: 152 * 3,360 / 2 ^ 24 of B, below 0.031 B
    pub accurate_6720 : p.n ≡ 6720 → (k : ℕ) → k ≤ 3360 → Off (152 * (3360 * 2 ^ (77 + b))) (scale_g (2 ^ 60) (val_c (cell after.0 k))) (exact_bin 3360 xs k)
    accurate_6720 e = near_at plan_6720 passes_6720 e (88 * 2 ^ 56) 152 error_6720 (lit≤ tt)

  -- ---- the sizes that acceptance speaks of

  -- words that the product calls at most 2 ^ k
  pub sized_words : (k : ℕ) → Words k xs → Sized (108 + k) xs
  sized_words k w i l = mag_small k (get_or xs i nan) (held i l) (w i l)

  -- and every accepted block is of size 2 ^ 32
  pub sized_accepted : Sized 140 xs
  sized_accepted = sized_words 32 (samples_within p W tw.0 tw.1 xs before r₀ after call e)

  -- ---- power takes every spectrum that such a call leaves

  abs_most : (i : ℕ) → i < p.half * 2 → abs_z (sample xs i) ≤ 2 * 2 ^ 180
  abs_most i l = le_trans (le_of_eq (sym (mag_abs binary32 (get_or xs i nan)))) (sized_accepted i (omega (arith, long)))

  room : factor p.count * (p.half * 2 ^ (77 + 140)) + p.half * 2 * (2 * 2 ^ 180 * (2 ^ 60 + 1)) ≤ 2 ^ 60 * (2 ^ 48 * 2 ^ 149)
  room = le_trans (add-le-add (mul-le-mul (stage_count_lem p.count (plan_order p planned).few) (mul-le-mul_right (2 ^ (77 + 140)) (plan_half p planned).1))
      (mul-le-mul_right (2 * 2 ^ 180 * (2 ^ 60 + 1)) (mul-le-mul_right 2 (plan_half p planned).1))) (lit≤ tt)
    where
      stage_count_lem : (j : ℕ) → j ≤ 13 → factor j ≤ 449
      stage_count_lem j l = omega arith

  -- No number of it is above 2 ^ 48: whatever bins of it are asked for, in order and at hand, power does not refuse.
  pub power_takes_it : (lo hi : ℕ) → lo ≤ hi → hi ≤ p.half → power_verdict after.0 lo hi ≡ Accepted
  power_takes_it = power_taken after.0 p.half (distance p.count p.half 140) (p.half * 2 * (2 * 2 ^ 180 * (2 ^ 60 + 1))) (exact_bin p.half xs)
      (bins_long p W lent v tw fills filled xs before r₀ after call e) (plan_half p planned).0 (plan_half p planned).1
      (forward_held 140 (lit≤ tt) sized_accepted) (forward_accurate 140 (lit≤ tt) sized_accepted)
      (λ k l. exact_size (6720 / (2 * p.half)) p.half (sample xs) (2 * 2 ^ 180) abs_most k) room

  pub power_accepts_it : (lo hi : ℕ) (s : Result Float Refusal) → Powers after.0 lo hi s → lo ≤ hi → hi ≤ p.half
      → s ≡ Ok (power_from after.0 lo (hi + 1 - lo))
  power_accepts_it lo hi s sum order inside =
      sum.answer ∙ ap (λ (u : Verdict). granted u (power_from after.0 lo (hi + 1 - lo))) (power_takes_it lo hi order inside)

  -- so what holds of every number that it may answer holds of its answer
  of_answer : (lo hi : ℕ) (s : Result Float Refusal) → Powers after.0 lo hi s → lo ≤ hi → hi ≤ p.half → (P : Float → Type 0)
      → ((x : Float) → Powers after.0 lo hi (Ok x) → P x) → IsOkAnd s P
  of_answer lo hi s sum order inside P each =
      let e = power_accepts_it lo hi s sum order inside in
      subst (λ (r : Result Float Refusal). IsOkAnd r P) (sym e)
      (each (power_from after.0 lo (hi + 1 - lo)) (subst (λ (r : Result Float Refusal). Powers after.0 lo hi r) e sum))

  -- ---- lines, in what power answers of that spectrum

  module _ (b : ℕ) (few : b ≤ 164) (small : Sized b xs) (lo hi : ℕ) (s : Result Float Refusal) (sum : Powers after.0 lo hi s) (inside : hi ≤ p.half) where
    -- The samples go along a tone at bin k of the band by C: the power answered is at least 1023 / 1024 of C / A less the distance, squared, less two units.
    pub line_seen : (k : ℕ) → lo ≤ k → k ≤ hi → (r : Gauss) (A C : ℕ) → Correlates p.half xs k r A C
        → IsOkAnd s (λ x. (S : ℕ) × IsUnits S x
        × (1023 * ((C - A * distance p.count p.half b) * (C - A * distance p.count p.half b)) ≤ 1024 * (2 ^ 60 * 2 ^ 60 * 2 ^ 149 * (A * A)) *
        (S + 2)))
    line_seen k lk kh r A C c =
        of_answer lo hi s sum (le_trans lk kh) inside _ (λ (x : Float) (u : Powers after.0 lo hi (Ok x)).
        seen_in after.0 p.half (distance p.count p.half b) (exact_bin p.half xs) (bins_long p W lent v tw fills filled xs before r₀ after call e)
        (forward_held b few small) (forward_accurate b few small) lo hi x u k lk kh r A C c.size
        (moved C _ (sum_z (p.half * 2) (λ i. times_z (sample xs i) (tone house (6720 / (2 * p.half)) k r i)))
        (correlation house (6720 / (2 * p.half)) p.half (sample xs) k r) c.enough))
      where
        moved : (C : ℕ) (u v : Signed) → NearZ 0 u v → C + v.less ≤ v.more → C + u.less ≤ u.more
        moved C u v e h = omega arith

    -- Where they go along it by M beyond the distance, the power answered is at least 1023 / 1024 of M squared, less two units.
    pub line_heard : (k : ℕ) → lo ≤ k → k ≤ hi → (r : Gauss) (A M : ℕ) → 0 < A → Correlates p.half xs k r A (A * (M + distance p.count p.half b))
        → IsOkAnd s (λ x. (S : ℕ) × IsUnits S x × (1023 * (M * M) ≤ 1024 * (2 ^ 60 * 2 ^ 60 * 2 ^ 149) * (S + 2)))
    line_heard k lk kh r A M pos c =
        follows _ _ s (λ x o. (o.0, o.1, by_size A M (distance p.count p.half b) (2 ^ 60 * 2 ^ 60 * 2 ^ 149) (o.0 + 2) pos o.2))
        (line_seen k lk kh r A (A * (M + distance p.count p.half b)) c)

    -- Every exact bin of the band is at most M: the power answered is at most 513 / 512 of M and the distance, squared, for each bin, and two units.
    pub quiet_stays_quiet : lo ≤ hi → (M : ℕ) → ((k : ℕ) → lo ≤ k → k ≤ hi → Disc M (exact_bin p.half xs k))
        → IsOkAnd s (λ x. (S : ℕ) × IsUnits S x
        × (512 * (2 ^ 60 * 2 ^ 60 * 2 ^ 149 * S) ≤ 513 * ((hi + 1 - lo) *
        ((distance p.count p.half b + M) * (distance p.count p.half b + M) + 2 * (2 ^ 60 * 2 ^ 60 * 2 ^ 149)))))
    quiet_stays_quiet order M each =
        of_answer lo hi s sum order inside _ (λ (x : Float) (u : Powers after.0 lo hi (Ok x)).
        quiet_in after.0 p.half (distance p.count p.half b) (exact_bin p.half xs) (bins_long p W lent v tw fills filled xs before r₀ after call e)
        (forward_held b few small) (forward_accurate b few small) lo hi x u M each)

  -- ---- in the hive's words: 1,680 samples of 16 bits, divided by 32,768

  module _ (size : p.n ≡ 1680) (sixteen : SixteenBit xs) (lo hi : ℕ) (s : Result Float Refusal) (sum : Powers after.0 lo hi s) (inside : hi ≤ 840) where
    hive_plan : p ≡ plan_1680
    hive_plan = same_plan p plan_1680 planned passes_1680 size

    hive_distance : distance p.count p.half 108 ≡ 127680 * 2 ^ 185
    hive_distance = ap (λ (q : Record). distance q.count q.half 108) hive_plan

    hive_inside : hi ≤ p.half
    hive_inside = subst (λ (q : Record). hi ≤ q.half) (sym hive_plan) inside

    -- A tone at bin k of amplitude 33 / 32,768 or more, rounded to 16 bits, goes along itself by 32 * 840 / 32,768 or more, half a unit being lost in each
    -- sample. Samples that go along a tone at k by so much, whatever else is in them, are answered with a power of 0.65 or more in any band with k.
    pub hive_heard : (k : ℕ) → lo ≤ k → k ≤ hi → (r : Gauss) (A : ℕ) → 0 < A → Correlates 840 xs k r A (A * (840 * 2 ^ 199))
        → IsOkAnd s (λ x. (S : ℕ) × IsUnits S x × (65 * 2 ^ 149 ≤ 100 * S))
    hive_heard k lk kh r A pos c =
        let M = 13634880 * 2 ^ 185 in
        let same : 840 * 2 ^ 199 ≡ M + distance p.count p.half 108 = rw hive_distance refl in
        let c' : Correlates p.half xs k r A (A * (M + distance p.count p.half 108)) =
        subst (λ (n : ℕ). Correlates p.half xs k r A (A * n)) same
        (subst (λ (q : Record). Correlates q.half xs k r A (A * (840 * 2 ^ 199))) (sym hive_plan) c) in
        follows _ _ s (λ x o. (o.0, o.1, at_least (65 * 2 ^ 149) (1024 * (2 ^ 60 * 2 ^ 60 * 2 ^ 149)) (1023 * (M * M)) o.0 (lit< tt) o.2 (lit≤ tt)))
        (line_heard 108 (lit≤ tt) (sixteen_sized xs sixteen) lo hi s sum hive_inside k lk kh r A M pos c')

    -- Where every exact bin of the band is at most 1 / 64, each adds at most 1 / 1,800 to the power.
    pub hive_quiet : lo ≤ hi → ((k : ℕ) → lo ≤ k → k ≤ hi → Disc (2 ^ 203) (exact_bin 840 xs k))
        → IsOkAnd s (λ x. (S : ℕ) × IsUnits S x × (1800 * S ≤ (hi + 1 - lo) * 2 ^ 149))
    hive_quiet order each =
        let Y = 2 ^ 60 * 2 ^ 60 * 2 ^ 149 in
        let D = 127680 * 2 ^ 185 in
        follows _ _ s
        (λ x o. (
          o.0,
          o.1,
          at_most (2 ^ 149) Y ((D + 2 ^ 203) * (D + 2 ^ 203) + 2 * Y) (hi + 1 - lo) o.0 (lit< tt)
              (subst (λ (n : ℕ). 512 * (Y * o.0) ≤ 513 * ((hi + 1 - lo) * ((n + 2 ^ 203) * (n + 2 ^ 203) + 2 * Y))) hive_distance o.2) (lit≤ tt),
        ))
        (quiet_stays_quiet 108 (lit≤ tt) (sixteen_sized xs sixteen) lo hi s sum hive_inside order (2 ^ 203)
        (subst (λ (q : Record). (k : ℕ) → lo ≤ k → k ≤ hi → Disc (2 ^ 203) (exact_bin q.half xs k)) (sym hive_plan) each))

-- ---- what is heard

-- an accepted hearing, lent the twiddles that an accepted filling left, by a threshold of θ units
module _ (p : Record) (W : ℕ) (lent : Slices) (v : Verdict) (tw : Slices) (fills : Fills Forward p W lent v tw) (filled : v ≡ Accepted)
    (xs : List Float) (lo hi : ℕ) (threshold : Float) (before : Slices) (h : Heard) (after : Slices)
    (call : Hears p W tw.0 tw.1 xs lo hi threshold before h after) (e : h.verdict ≡ Accepted) (words : F32s xs)
    (θ : ℕ) (limit : IsUnits θ threshold) where
  ran : Forwards p W tw.0 tw.1 xs before Accepted after
  ran = heard_forward p W tw.0 tw.1 xs lo hi threshold before h after call e

  band : (lo ≤ hi) × (hi ≤ p.half)
  band = heard_band p W tw.0 tw.1 xs lo hi threshold before h after call e

  -- power would answer the same of the spectrum that is left
  summing : Powers after.0 lo hi (Ok h.power)
  summing =
      record {
        answer = grants _ _ _ (sym (power_takes_it p W lent v tw fills filled xs before Accepted after ran refl words lo hi band.0 band.1))
            (heard_power p W tw.0 tw.1 xs lo hi threshold before h after call e);
      }

  -- a power of θ units or more is fanning, and one of fewer is quiet
  fans : (S : ℕ) → IsUnits S h.power → θ ≤ S → h.decision ≡ Fanning
  fans S u l = heard_fanning p W tw.0 tw.1 xs lo hi threshold before h after call e (lt_units h.power threshold S θ u limit ∙ le-ltb S θ l)

  rests : (S : ℕ) → IsUnits S h.power → S < θ → h.decision ≡ Quiet
  rests S u l = heard_quiet p W tw.0 tw.1 xs lo hi threshold before h after call e (lt_units h.power threshold S θ u limit ∙ lt-ltb S θ l)

  module _ (b : ℕ) (few : b ≤ 164) (small : Sized b xs) where
    -- A tone at a bin of the band, along which the samples go by M beyond the distance, is heard, the threshold being at most 1023 / 1024 of M squared,
    -- less two units.
    pub tone_heard : (k : ℕ) → lo ≤ k → k ≤ hi → (r : Gauss) (A M : ℕ) → 0 < A → Correlates p.half xs k r A (A * (M + distance p.count p.half b))
        → 1024 * (2 ^ 60 * 2 ^ 60 * 2 ^ 149) * (θ + 2) ≤ 1023 * (M * M) → h.decision ≡ Fanning
    tone_heard k lk kh r A M pos c low =
        let o = line_heard p W lent v tw fills filled xs before Accepted after ran refl words b few small lo hi (Ok h.power) summing band.1 k lk kh r A M pos c
        in
        let l : θ + 2 ≤ o.0 + 2 = le_of_mul-le-mul_left (le_trans low o.2) (lit< tt) in
        fans o.0 o.1 (omega arith)

    -- A band whose exact bins are at most M is not, the threshold being above 513 / 512 of M and the distance, squared, and two units, for each bin.
    pub band_quiet : (M : ℕ) → ((k : ℕ) → lo ≤ k → k ≤ hi → Disc M (exact_bin p.half xs k))
        → 513 * ((hi + 1 - lo) * ((distance p.count p.half b + M) * (distance p.count p.half b + M) + 2 * (2 ^ 60 * 2 ^ 60 * 2 ^ 149)))
        < 512 * (2 ^ 60 * 2 ^ 60 * 2 ^ 149 * θ)
        → h.decision ≡ Quiet
    band_quiet M each high =
        let o = quiet_stays_quiet p W lent v tw fills filled xs before Accepted after ran refl words b few small lo hi (Ok h.power) summing band.1 band.0 M
        each in
        rests o.0 o.1 (fewer (2 ^ 60 * 2 ^ 60 * 2 ^ 149) o.0 θ (lt_of_le_of_lt o.2 high))

  -- in the hive's words: 1,680 samples of 16 bits
  module _ (size : p.n ≡ 1680) (sixteen : SixteenBit xs) where
    hive_in : hi ≤ 840
    hive_in = subst (λ (q : Record). hi ≤ q.half)
        (same_plan p plan_1680 (planned p W lent v tw fills filled xs before Accepted after ran refl words) passes_1680 size) band.1

    -- a tone of 33 / 32,768 or more, rounded to 16 bits, is heard beside anything that does not cancel it, by a threshold of at most 0.65
    pub hive_tone_heard : (k : ℕ) → lo ≤ k → k ≤ hi → (r : Gauss) (A : ℕ) → 0 < A → Correlates 840 xs k r A (A * (840 * 2 ^ 199)) → 100 * θ ≤ 65 * 2 ^ 149
        → h.decision ≡ Fanning
    hive_tone_heard k lk kh r A pos c low =
        let o = hive_heard p W lent v tw fills filled xs before Accepted after ran refl words size sixteen lo hi (Ok h.power) summing hive_in k lk kh r A pos c
        in
        fans o.0 o.1 (omega (arith, le_trans low o.2))

    -- a band whose exact bins are at most 1 / 64 is quiet, by a threshold above 1 / 1,800 for each of its bins
    pub hive_band_quiet : ((k : ℕ) → lo ≤ k → k ≤ hi → Disc (2 ^ 203) (exact_bin 840 xs k)) → (hi + 1 - lo) * 2 ^ 149 < 1800 * θ → h.decision ≡ Quiet
    hive_band_quiet each high =
        let o = hive_quiet p W lent v tw fills filled xs before Accepted after ran refl words size sixteen lo hi (Ok h.power) summing hive_in band.0 each in
        rests o.0 o.1 (omega (arith, lt_of_le_of_lt o.2 high))

-- ---- the way back

-- an accepted inverse call, lent the twiddles that an accepted inverse filling left
module _ (p : Record) (W : ℕ) (lent : Slices) (v : Verdict) (tw : Slices) (fills : Fills Inverse p W lent v tw) (filled : v ≡ Accepted)
    (xs : List Float) (before : Slices) (r₀ : Verdict) (after : Slices) (call : Inverts p W tw.0 tw.1 xs before r₀ after) (e : r₀ ≡ Accepted)
    (words : F32s xs) where
  back_planned : is_planned p ≡ true
  back_planned = (taken p W (length lent.0) (length lent.1) v fills.answer filled).planned

  bin_words_lem : length xs ≡ 2 * (p.half + 1)
  bin_words_lem = spectrum_long p W lent v tw fills filled xs before r₀ after call e

  back_held : (i : ℕ) → i < length xs → Held binary32 (get_or xs i nan)
  back_held i l = word_held 1 48 (get_or xs i nan) (words i l) (bins_within p W tw.0 tw.1 xs before r₀ after call e i l)

  -- every accepted spectrum is of size 2 ^ 48
  pub sized_bins : Sized 156 xs
  sized_bins i l = mag_small 48 (get_or xs i nan) (back_held i l) (bins_within p W tw.0 tw.1 xs before r₀ after call e i l)

  module _ (b : ℕ) (few : b ≤ 164) (small : Sized b xs) where
    abbrev a : ℕ
    a = 3 * 2 ^ (10 + b)

    bin_around : (k : ℕ) → k ≤ p.half → Around (2 ^ 20 * (1024 * a)) (cell xs k)
    bin_around k l =
        record {
          re = back_held (2 * k) (omega (arith, bin_words_lem));
          im = back_held (2 * k + 1) (omega (arith, bin_words_lem));
          disc = subst (λ (n : ℕ). Disc (2 ^ 20 * n) (val_c (cell xs k))) (tenth b)
              (pair_disc b (get_or xs (2 * k) nan) (get_or xs (2 * k + 1) nan) (small (2 * k) (omega (arith, bin_words_lem)))
              (small (2 * k + 1) (omega (arith, bin_words_lem))));
        }

    -- Sample j is within (64 stages + 25) h B / 2 ^ 24 of the exact sum over the bins, where the bins' numbers are at most B = 2 ^ (b - 108).
    pub inverse_accurate : (j : ℕ) → j < 2 * p.half → Held binary32 (get_or after.0 j nan)
        × NearZ (inverse_distance p.count p.half b) (scale (2 ^ 60) (val binary32 (get_or after.0 j nan))) (exact_sample p.half xs j)
    inverse_accurate j l =
        let u = j / 2 in
        let o = pair_near p W lent v tw fills filled xs before r₀ after call e a bin_around (tenth_least b)
        (tenth_most p.half b (plan_half p back_planned).1 few) u (omega arith) in
        let w = inverse_total (error (in_use p) (length (in_use p))) p.count p.half b (run_error p back_planned) in
        dite (dec_le (j % 2) 0) (λ (g : j % 2 ≤ 0).
        let at : 2 * u ≡ j = omega arith in
        subst (λ (i : ℕ). Held binary32 (get_or after.0 i nan) × NearZ (inverse_distance p.count p.half b)
        (scale (2 ^ 60) (val binary32 (get_or after.0 i nan))) (exact_sample p.half xs i)) at
        (o.0, near_more _ _ _ _ w o.2)) (λ (g : j % 2 ≤ 0 → ⊥).
        let at : 2 * u + 1 ≡ j = omega (arith, g) in
        subst (λ (i : ℕ). Held binary32 (get_or after.0 i nan) × NearZ (inverse_distance p.count p.half b)
        (scale (2 ^ 60) (val binary32 (get_or after.0 i nan))) (exact_sample p.half xs i)) at
        (o.1, near_more _ _ _ _ w o.3))

-- what is read from memory is of f32s
pub read_f32s : (bs : List ℕ) (xs : List Float) → HoldAll bs xs → F32s xs
read_f32s = bits_f32s
