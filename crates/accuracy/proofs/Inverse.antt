-- What an accepted inverse call leaves, with the twiddles of an accepted filling, sample by sample against the sum over the bins. Assumes nothing.
use Rattle.sequences.proofs.Basics.{◌≡◌, refl, sym, ap, ap₂, ◌∙◌, subst, ℕ, ◌+◌, ◌-◌, ◌*◌, ◌/◌, ◌^◌, ◌≤◌, ◌<◌, le_trans, le_of_eq, le_of_lt, mul-le-mul_right}
use Rattle.sequences.proofs.Basics.{mul-le-mul_left, le_of_mul-le-mul_right, arith, List, ◌++◌, lit≤, length, get_or, drop, length-append}
use Rattle.sequences.proofs.Basics.{length-drop, get_or-take}
use Rattle.sequences.proofs.Basics.{pow_pos}
use lib.Ieee.{Float, nan, binary32, neg}
use Rattle.sequences.specs.Lists.{tabulate}
use Rattle.sequences.proofs.Tables.{get_d_tabulate, length_tabulate}
use Rattle.refusal.specs.Refusal.{Verdict}
use Rattle.refusal.specs.Refusal.{Accepted}
use Rattle.refusal.proofs.Rows.{settled}
use Rattle.counts.specs.Counts.{end_count, result_in}
use Rattle.counts.specs.declared.Buffer.{Buffer}
use Rattle.counts.specs.declared.Buffer.TheVariants.{Data, Scratchpad}
use Rattle.plan.specs.declared.Record.{Record}
use Rattle.schedule.specs.Buffers.{Two, held_in}
use Rattle.schedule.specs.Plans.{in_use}
use Rattle.schedule.specs.Stage.{run, plain}
use Rattle.schedule.proofs.Plans.{use-length, use-product}
use Rattle.turn.specs.Calls.{part}
use Rattle.turn.specs.Turns.{turn_of, words_of}
use Rattle.twiddle.specs.Calls.{Fills}
use Rattle.end_twiddles.specs.declared.inner.ends.Direction.TheVariants.{Inverse}
use Rattle.twiddle.proofs.Theorems.{filled_end}
use Rattle.floats.specs.Complexes.{cx, blank, conjugate, cell, flat}
use Rattle.floats.specs.declared.complex.Complex.{Complex}
use Rattle.floats.proofs.Flat.{paired_flat, cell_flat, cell_front}
use Rattle.kernel.specs.Floats.{floats, house_floats}
use Rattle.stage.specs.Runs.{turning}
use Rattle.stage.proofs.Same.{run_housed}
use Rattle.stage.proofs.Theorems.{filled_run}
use Rattle.mixing.specs.Steps.{ifft_steps}
use Rattle.ends.specs.Ends.{end_cell, end_lent, ended, preprocess_ifft, conjugated, zeros}
use Rattle.ends.proofs.Cells.{cell_tabulated, length_ended, length_conjugated}
use Rattle.spectrum.specs.Calls.{Inverts}
use Rattle.scratch.specs.Scratch.{data_of, pad_of}
use Rattle.scratch.proofs.Scratch.{pad_length}
use Rattle.transform.specs.Parts.{Invertible}
use Rattle.transform.specs.Transforms.{Slices, prepared_of, inverse_run, restored, inverse_of}
use Rattle.counts.proofs.Counts.{pairs_lent}
use Rattle.spectrum.proofs.Verdicts.{invertible}
use Rattle.accuracy.specs.Gauss.{Gauss, minus_g, times_g, scale_g, Disc, Off, val_c}
use Rattle.accuracy.specs.House.{house}
use Rattle.accuracy.specs.Spectrum.{folded, bin_taken, synthesis}
use Rattle.accuracy.specs.Value.{Signed, NearZ, neg_z, minus_z, scale, val, Held}
use Rattle.accuracy.proofs.Calls.{constant}
use Rattle.accuracy.proofs.Complexes.{part_re, part_im, abs_near}
use Rattle.accuracy.proofs.Conjugate.{conj_g}
use Rattle.accuracy.proofs.Dft.{sum_n, dft}
use Rattle.accuracy.proofs.Ends.{conj_disc, conj_val}
use Rattle.accuracy.proofs.Filled.{Circled, circled}
use Rattle.accuracy.proofs.Forward.{run_long}
use Rattle.accuracy.proofs.House.{turns}
use Rattle.accuracy.proofs.Mirror.{prepared, even_sample, odd_sample}
use Rattle.accuracy.proofs.Plane.{off_same, off_eq, off_more, off_trans, off_scale, off_times}
use Rattle.accuracy.proofs.Prepared.{taken_first, taken_last, ready, difference_disc, cell_disc}
use Rattle.accuracy.proofs.Rounded.{words_close}
use Rattle.accuracy.proofs.Rounds.{Around}
use Rattle.accuracy.proofs.Run.{run_off, run_held}
use Rattle.accuracy.proofs.Stages.{error}
use Rattle.accuracy.proofs.Sums.{sum_scale, off_sum}
use Rattle.accuracy.proofs.Turning.{same_self, same_scale_right}
use Rattle.accuracy.proofs.Turns.{Close}
use Rattle.accuracy.proofs.Values.{neg_val, neg_held}

-- the result, conjugated, stands in Data
restored_is : (h : ℕ) (which : Buffer) (b : Two Float) → (restored h which b).0 ≡ conjugated h (held_in which b)
restored_is h Data b = refl
restored_is h Scratchpad b = refl

-- a turn the other way round
conj_close : (w : Gauss) (a b : Float) → Close w (cx a b) → Close (conj_g w) (cx a (neg b))
conj_close w a b cl =
    record {
      re = cl.re;
      im = neg_held binary32 b cl.im;
      off =
          subst (λ (s : Signed). Off (2 ^ 149 * (2 ^ 60 + 2)) (scale_g (2 ^ 24 * 2 ^ 60) (record { re = val binary32 a; im = s }))
          (scale_g (2 ^ 24 * 2 ^ 149) (conj_g w))) (sym (neg_val binary32 b))
          (conj_disc _ (minus_g (scale_g (2 ^ 24 * 2 ^ 60) (val_c (cx a b))) (scale_g (2 ^ 24 * 2 ^ 149) w)) cl.off);
    }

module _ (p : Record) (W : ℕ) (lent : Slices) (v : Verdict) (tw : Slices) (fills : Fills Inverse p W lent v tw) (filled : v ≡ Accepted)
    (xs : List Float) (before : Slices) (r : Verdict) (after : Slices) (f : Inverts p W tw.0 tw.1 xs before r after) (e : r ≡ Accepted) where
  abbrev h : ℕ
  h = p.half

  abbrev d : ℕ
  d = 6720 / (2 * p.half)

  abbrev rs : List ℕ
  rs = in_use p

  told : Circled p
  told = circled Inverse p W lent v tw fills filled

  asked : Invertible p W (length xs) (length before.0) (length before.1) (length tw.0) (length tw.1)
  asked = invertible p W _ _ (length xs) (length before.0) (length before.1) 48 xs tw.0 tw.1 r refl refl f.answer e

  pub spectrum_long : length xs ≡ 2 * (p.half + 1)
  spectrum_long = asked.bins

  -- ---- what is left

  abbrev q : List Float
  q = prepared_of h tw.1 xs before.1

  q_long : 4 * h ≤ length q
  unfolding prepared_of
  q_long =
      omega (
        arith,
        length-append (preprocess_ifft h tw.1 xs) (drop (2 * (h + 1)) before.1),
        length_ended ifft_steps h tw.1 xs,
        length-drop (2 * (h + 1)) before.1,
        asked.room,
        told.some,
      )

  -- what the stages read
  abbrev inputs : List Complex
  inputs = tabulate h 0 (λ j. conjugate (cell (data_of h q) j))

  -- and make of it
  abbrev ran : List Complex
  ran = run plain (floats (turning rs)) h rs p.count inputs

  made : after.0 ≡ conjugated h (flat ran) ++ zeros (length before.0 - 2 * h)
  unfolding inverse_of inverse_run conjugated
  made = ap (λ (s : Slices). s.0) (settled _ _ _ _ _ f (sym f.answer ∙ e))
      ∙ ap (λ (ys : List Float). ys ++ zeros (length before.0 - 2 * h)) (restored_is h (result_in p.count) _
      ∙ ap (conjugated h) (filled_run Inverse p W lent v tw fills filled (conjugated h (data_of h q)) (pad_of h q) (length_conjugated h (data_of h q))
      (pad_length h q q_long)
      ∙ ap (λ (zs : List Complex). flat (run plain house_floats h rs p.count zs)) (paired_flat inputs) ∙ ap flat (sym (run_housed h rs p.count inputs))))

  inputs_long : length inputs ≡ h
  inputs_long = length_tabulate h 0 _

  ran_long : length ran ≡ h
  ran_long = run_long (turning rs) h rs p.count inputs inputs_long

  left_cell : (u : ℕ) → u < h → cell after.0 u ≡ conjugate (get_or ran u blank)
  unfolding conjugated
  left_cell u l = ap (λ (ys : List Float). cell ys u) made
      ∙ cell_front (conjugated h (flat ran)) (zeros (length before.0 - 2 * h)) u (omega (arith, length_conjugated h (flat ran)))
      ∙ cell_tabulated h (λ j. conjugate (cell (flat ran) j)) u l ∙ ap conjugate (cell_flat ran u (rw ran_long l))

  -- ---- what the stages read

  data_cell : (j : ℕ) → j < h → cell (data_of h q) j ≡ end_cell ifft_steps h (cell xs) (end_lent tw.1) j
  unfolding prepared_of ended
  data_cell j l =
      let pre = preprocess_ifft h tw.1 xs in let rest = drop (2 * (h + 1)) before.1 in
      ap₂ cx (get_or-take (2 * h) (pre ++ rest) (2 * j) nan (omega arith)) (get_or-take (2 * h) (pre ++ rest) (2 * j + 1) nan (omega arith))
      ∙ cell_front pre rest j (omega (arith, length_ended ifft_steps h tw.1 xs))
      ∙ cell_tabulated (h + 1) (end_cell ifft_steps h (cell xs) (end_lent tw.1)) j (omega arith)

  read_cell : (j : ℕ) → j < h → get_or inputs j blank ≡ conjugate (end_cell ifft_steps h (cell xs) (end_lent tw.1) j)
  read_cell j l =
      let same : 0 + j ≡ j = omega arith in
      get_d_tabulate h 0 (λ j. conjugate (cell (data_of h q) j)) j blank l ∙ ap (λ (i : ℕ). conjugate (cell (data_of h q) i)) same ∙ ap conjugate
      (data_cell j l)

  -- ---- the end twiddles

  end_close : (k : ℕ) → 0 < k → 2 * k < h → Close (conj_g (house (d * k))) (end_lent tw.1 k)
  end_close k pk lk =
      let many : k ≤ end_count p.n = rw told.twice (pairs_lent h k lk) in
      let at = filled_end Inverse p W lent v tw fills filled nan k pk many in
      let words = words_of (turn_of (part k p.n)) in
      let is : end_lent tw.1 k ≡ cx words.0 (neg words.1) = ap₂ cx at.first at.second in
      subst (Close (conj_g (house (d * k)))) (sym is)
      (conj_close (house (d * k)) words.0 words.1 (subst (λ (w : Gauss). Close w (cx words.0 words.1)) (told.turn_at_lem k)
      (words_close (part k p.n))))

  -- ---- sizes: 1024 a for each number of a bin, in parts of 2 ^ 20

  module _ (a : ℕ) (sized : (k : ℕ) → k ≤ h → Around (2 ^ 20 * (1024 * a)) (cell xs k)) (least : 2 ^ 10 ≤ a) (most : h * (2898 * a) ≤ 2 ^ 220) where
    abbrev b : ℕ → Gauss
    b = bin_taken h (cell xs)

    big : 2 ^ 20 ≤ 1024 * a
    big = le_trans (lit≤ tt) (mul-le-mul_left 1024 least)

    few : 1024 * a ≤ 2 ^ 220
    few = le_trans (one (2898 * a) h told.some (less a)) most
      where
        less : (a : ℕ) → 1024 * a ≤ 2898 * a
        less a = omega arith

        one : (x h : ℕ) → 0 < h → 1024 * a ≤ x → 1024 * a ≤ h * x
        one x h l m = le_trans m (le_trans (le_of_eq (omega arith)) (mul-le-mul_right x l))

    N : ℕ → Gauss
    N = prepared d h told.circle b

    is_ready : (k : ℕ) → k < h → Held binary32 (get_or inputs k blank).re × Held binary32 (get_or inputs k blank).im
        × Off ((2 ^ 60 + 2 ^ 50) * (1024 * a)) (scale_g (2 ^ 60) (val_c (get_or inputs k blank))) (N k)
    unfolding N
    is_ready k l =
        let z = end_cell ifft_steps h (cell xs) (end_lent tw.1) k in
        let o = ready d h told.circle told.some (1024 * a) big few (cell xs) (end_lent tw.1) sized end_close k (le_of_lt l) l in
        subst (λ (y : Complex). Held binary32 y.re × Held binary32 y.im
        × Off ((2 ^ 60 + 2 ^ 50) * (1024 * a)) (scale_g (2 ^ 60) (val_c y)) (prepared d h told.circle b k)) (sym (read_cell k l))
        (o.0, neg_held binary32 z.im o.1, off_eq _ _ _ _ _ (ap (scale_g (2 ^ 60)) (sym (conj_val z))) refl o.2)

    is_sized : (k : ℕ) → k < h → Disc (2 ^ 20 * (2898 * a)) (val_c (get_or inputs k blank))
    is_sized k l =
        let z = end_cell ifft_steps h (cell xs) (end_lent tw.1) k in
        subst (Disc (2 ^ 20 * (2898 * a))) (sym (ap val_c (read_cell k l) ∙ conj_val z))
        (cell_disc d h told.circle told.some (1024 * a) big few (cell xs) (end_lent tw.1) sized end_close a refl k l)

    abbrev E : ℕ
    E = error rs (length rs)

    ran_is : (u : ℕ) → get_or ran u blank ≡ get_or (run plain (floats (turning rs)) h rs (length rs) inputs) u blank
    ran_is u = ap (λ (n : ℕ). get_or (run plain (floats (turning rs)) h rs n inputs) u blank) (sym (use-length p told.planned))

    enough : (u : ℕ) → u < h → 2 ^ 20 ≤ 2898 * a
    enough u l = le_trans (lit≤ tt) (mul-le-mul_left 2898 least)

    total : sum_n h (λ k. 2898 * a) ≤ 2 ^ 220
    total = le_trans (le_of_eq (constant h (2898 * a))) most

    ran_held : (u : ℕ) → u < h → Held binary32 (get_or ran u blank).re × Held binary32 (get_or ran u blank).im
    ran_held u l = subst (λ (z : Complex). Held binary32 z.re × Held binary32 z.im) (sym (ran_is u))
        (run_held (d * 2) h told.pairs rs (use-product p told.planned) told.some told.eight
        told.short inputs (λ k m. ((is_ready k m).0, (is_ready k m).1)) (λ k. 2898 * a) is_sized enough total u l)

    ran_off : (u : ℕ) → u < h → Off (E * (h * (2898 * a))) (scale_g (2 ^ 60) (val_c (get_or ran u blank))) (dft house (d * 2) h (λ k. val_c (get_or inputs
        k blank)) u)
    ran_off u l = off_eq _ _ _ _ _ (ap (λ (z : Complex). scale_g (2 ^ 60) (val_c z)) (sym (ran_is u))) refl
        (off_more _ _ _ _ (le_of_eq (ap (λ (n : ℕ). E * n) (constant h (2898 * a))))
        (run_off (d * 2) h told.pairs rs (use-product p told.planned) told.some told.eight
        told.short inputs (λ k m. ((is_ready k m).0, (is_ready k m).1)) (λ k. 2898 * a) is_sized enough total u l))

    -- the stages on what was prepared, against the stages on what was prepared exactly
    abbrev D : ℕ
    D = 2 ^ 60 * (E * (h * (2898 * a))) + h * ((2 ^ 60 + 2 ^ 50) * (1024 * a) * (2 ^ 60 + 1))

    made_off : (u : ℕ) → u < h → Off D (scale_g (2 ^ 60) (scale_g (2 ^ 60) (val_c (get_or ran u blank)))) (dft house (d * 2) h N u)
    unfolding dft
    made_off u l =
        off_more _ _ _ _ (le_of_eq (ap (λ (n : ℕ). 2 ^ 60 * (E * (h * (2898 * a))) + n) (constant h ((2 ^ 60 + 2 ^ 50) * (1024 * a) * (2 ^ 60 + 1)))))
        (off_trans _ _ _ _ _ (off_scale (2 ^ 60) _ _ _ (ran_off u l))
        (off_eq _ _ _ _ _ (sym (sum_scale h (λ k. times_g (val_c (get_or inputs k blank)) (house (d * 2 * (k * u)))) (2 ^ 60))) refl
        (off_sum h (λ k. (2 ^ 60 + 2 ^ 50) * (1024 * a) * (2 ^ 60 + 1)) (λ k. scale_g (2 ^ 60) (times_g (val_c (get_or inputs k blank)) (house (d * 2 * (k
        * u)))))
        (λ k. times_g (N k) (house (d * 2 * (k * u))))
        (λ k m. off_same _ _ _ _ _ (same_scale_right (2 ^ 60) (val_c (get_or inputs k blank)) (house (d * 2 * (k * u)))) (same_self _)
        (off_times _ _ (scale_g (2 ^ 60) (val_c (get_or inputs k blank))) (N k) (house (d * 2 * (k * u))) (is_ready k m).2 (turns.norm (d * 2 * (k * u))))))))

    -- G times a number, near G times another
    divided : (G D R : ℕ) (x y : Signed) → 0 < G → D ≤ R * G → NearZ D (scale G x) (scale G y) → NearZ R x y
    divided G D R x y pos l (m, n) = (
      le_of_mul-le-mul_right {k = G} (le_trans (le_of_eq (omega arith)) (le_trans m (le_trans (sum_more _ D (R * G) l) (le_of_eq (omega arith))))) pos,
      le_of_mul-le-mul_right {k = G} (le_trans (le_of_eq (omega arith)) (le_trans n (le_trans (sum_more _ D (R * G) l) (le_of_eq (omega arith))))) pos,
    )
      where
        sum_more : (x d e : ℕ) → d ≤ e → x + d ≤ x + e
        sum_more x d e l = omega arith

    joined : (D F : ℕ) (x y z : Signed) → NearZ D x y → NearZ F y z → NearZ (D + F) x z
    joined D F x y z m n = omega arith

    negated : (D : ℕ) (x y : Signed) → NearZ D x y → NearZ D (neg_z x) (neg_z y)
    negated D x y n = omega arith

    abbrev R : ℕ
    R = E * (h * (2898 * a)) + h * ((2 ^ 60 + 2 ^ 51) * (1024 * a))

    room : (K h x t : ℕ) → 2 ^ 50 ≤ K → K * t + h * ((K + 2 ^ 50) * x * (K + 1)) + h * (2 ^ 39 * K * (4 * x)) ≤ (t + h * ((K + 2 ^ 51) * x)) * K
    room K h x t l = omega (arith, mul-le-mul_right (h * x) l)

    -- both samples of a pair
    pub pair_near : (u : ℕ) → u < h → Held binary32 (cell after.0 u).re × Held binary32 (cell after.0 u).im
        × NearZ R (scale (2 ^ 60) (val binary32 (cell after.0 u).re)) (synthesis house d h b (2 * u))
        × NearZ R (scale (2 ^ 60) (val binary32 (cell after.0 u).im)) (synthesis house d h b (2 * u + 1))
    unfolding N
    pair_near u l =
        let z = get_or ran u blank in let o = made_off u l in
        let β = minus_z (val binary32 (cell xs 0).re) (val binary32 (cell xs 0).im) in
        let γ = minus_z (val binary32 (cell xs h).re) (val binary32 (cell xs h).im) in
        let first : b 0 ≡ folded (cell xs 0) = taken_first h (cell xs) in
        let last : b h ≡ folded (cell xs h) = taken_last h (cell xs) told.some in
        let re-near : NearZ D (scale (2 ^ 60) (scale (2 ^ 60) (val binary32 z.re))) (dft house (d * 2) h (prepared d h told.circle b) u).re =
        abs_near _ _ _ (part_re _ _ o) in
        let im-near : NearZ D (scale (2 ^ 60) (scale (2 ^ 60) (val binary32 z.im))) (dft house (d * 2) h (prepared d h told.circle b) u).im =
        abs_near _ _ _ (part_im _ _ o) in
        let even = even_sample d h told.circle b β γ first last u in
        let odd = odd_sample d h told.circle b β γ first last u (4 * (1024 * a))
        (λ k m. difference_disc d h told.circle told.some (1024 * a) big few (cell xs) (end_lent tw.1) sized end_close k m) in
        subst (λ (y : Complex). Held binary32 y.re × Held binary32 y.im × NearZ R (scale (2 ^ 60) (val binary32 y.re)) (synthesis house d h b (2 * u))
        × NearZ R (scale (2 ^ 60) (val binary32 y.im)) (synthesis house d h b (2 * u + 1))) (sym (left_cell u l)) (
          (ran_held u l).0,
          neg_held binary32 z.im (ran_held u l).1,
          divided (2 ^ 60) (D + 0) R (scale (2 ^ 60) (val binary32 z.re)) (synthesis house d h b (2 * u)) (pow_pos 60)
              (less D _ _ (room (2 ^ 60) h (1024 * a) (E * (h * (2898 * a))) (lit≤ tt))) (joined D 0 _ _ _ re-near even),
          subst (λ (s : Signed). NearZ R (scale (2 ^ 60) s) (synthesis house d h b (2 * u + 1))) (sym (neg_val binary32 z.im))
              (divided (2 ^ 60) (D + h * (2 ^ 39 * 2 ^ 60 * (4 * (1024 * a)))) R (scale (2 ^ 60) (neg_z (val binary32 z.im)))
              (synthesis house d h b (2 * u + 1)) (pow_pos 60) (room (2 ^ 60) h (1024 * a) (E * (h * (2898 * a))) (lit≤ tt))
              (negated _ (scale (2 ^ 60) (scale (2 ^ 60) (val binary32 z.im))) (scale (2 ^ 60) (neg_z (synthesis house d h b (2 * u + 1))))
              (joined D _ _ _ _ im-near odd))),
        )
      where
        less : (x y z : ℕ) → x + y ≤ z → x + 0 ≤ z
        less x y z l = omega arith
