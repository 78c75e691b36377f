-- What an accepted forward call leaves, with the twiddles of an accepted filling, bin by bin against the spectrum. Assumes nothing.
use Rattle.sequences.proofs.Basics.{◌≡◌, sym, ap, ap₂, ◌∙◌, subst, ℕ, zero, suc, ◌+◌, ◌*◌, ◌/◌, ◌^◌, ◌≤◌, ◌<◌, le_refl, le_trans, mul-le-mul_right}
use Rattle.sequences.proofs.Basics.{arith, List, length, get_or}
use lib.Ieee.{Float, nan, binary32, mul, of_bits}
use Rattle.refusal.specs.Refusal.{Verdict}
use Rattle.refusal.specs.Refusal.{Accepted}
use Rattle.refusal.proofs.Rows.{settled}
use Rattle.counts.specs.Counts.{end_count}
use Rattle.plan.specs.declared.Record.{Record}
use Rattle.schedule.specs.Plans.{in_use}
use Rattle.schedule.specs.Stage.{stage, run, plain}
use Rattle.schedule.proofs.Cells.{length_stage}
use Rattle.schedule.proofs.Plans.{use-length, use-product}
use Rattle.turn.specs.Calls.{part}
use Rattle.turn.specs.Turns.{one_half, turn_of, words_of}
use Rattle.twiddle.specs.Calls.{Fills}
use Rattle.end_twiddles.specs.declared.inner.ends.Direction.TheVariants.{Forward}
use Rattle.twiddle.proofs.Theorems.{filled_end}
use Rattle.floats.specs.Complexes.{cx, blank, cell, paired as pairsOf, flat}
use Rattle.floats.specs.declared.complex.Complex.{Complex}
use Rattle.floats.proofs.Flat.{get_paired, length_paired, cell_flat}
use Rattle.kernel.specs.Floats.{floats}
use Rattle.stage.specs.Runs.{turning}
use Rattle.stage.proofs.Same.{run_housed}
use Rattle.stage.proofs.Theorems.{filled_run}
use Rattle.mixing.specs.Steps.{fft_steps}
use Rattle.ends.specs.Ends.{end_cell, end_lent, ended, postprocess_fft}
use Rattle.ends.proofs.Cells.{cell_tabulated, length_ended}
use Rattle.spectrum.specs.Calls.{Forwards}
use Rattle.scratch.specs.Scratch.{pad_of}
use Rattle.scratch.proofs.Scratch.{pad_length}
use Rattle.transform.specs.Parts.{Forwardable}
use Rattle.transform.specs.Transforms.{Slices, forward_run, forward_of}
use Rattle.counts.proofs.Counts.{pairs_lent}
use Rattle.spectrum.proofs.Verdicts.{forwardable}
use Rattle.accuracy.specs.Gauss.{Gauss, times_g, scale_g, Disc, Off, val_c}
use Rattle.accuracy.specs.House.{house}
use Rattle.accuracy.specs.Spectrum.{sample, spectrum}
use Rattle.accuracy.specs.Value.{Held}
use Rattle.accuracy.proofs.Bins.{bins_near}
use Rattle.accuracy.proofs.Dft.{sum_n, dft, paired}
use Rattle.accuracy.proofs.Filled.{Circled, circled}
use Rattle.accuracy.proofs.Plane.{off_eq}
use Rattle.accuracy.proofs.Rounded.{words_halved}
use Rattle.accuracy.proofs.Run.{run_off, run_held}
use Rattle.accuracy.proofs.Stages.{error, error_small}
use Rattle.accuracy.proofs.Sums.{sum_equal, sum_n_least}
use Rattle.accuracy.proofs.Turns.{HalfClose}

-- a run makes as many cells as it is asked for
pub run_long : (lent : ℕ → ℕ → ℕ → Complex) (h : ℕ) (rs : List ℕ) (j : ℕ) (xs : List Complex) → length xs ≡ h → length (run plain (floats lent) h rs j xs) ≡ h
unfolding run stage
run_long lent h rs zero xs e = e
run_long lent h rs (suc j) xs e = length_stage plain (floats lent) j h _ _ _

module _ (p : Record) (W : ℕ) (lent : Slices) (v : Verdict) (tw : Slices) (fills : Fills Forward p W lent v tw) (filled : v ≡ Accepted)
    (xs : List Float) (before : Slices) (r : Verdict) (after : Slices) (f : Forwards p W tw.0 tw.1 xs before r after) (e : r ≡ Accepted) where
  abbrev h : ℕ
  h = p.half

  abbrev d : ℕ
  d = 6720 / (2 * p.half)

  abbrev rs : List ℕ
  rs = in_use p

  told : Circled p
  told = circled Forward p W lent v tw fills filled

  asked : Forwardable p W (length xs) (length before.0) (length before.1) (length tw.0) (length tw.1)
  asked = forwardable p W xs (length before.0) (length before.1) tw.0 tw.1 r f.answer e

  pub samples_long : length xs ≡ 2 * p.half
  samples_long = asked.samples ∙ told.twice

  -- ---- what is left

  -- the result of the stages
  abbrev ran : List Complex
  ran = run plain (floats (turning rs)) h rs p.count (pairsOf xs)

  made : after.0 ≡ postprocess_fft h tw.1 (flat ran)
  unfolding forward_of forward_run
  made = ap (λ (s : Slices). s.0) (settled _ _ _ _ _ f (sym f.answer ∙ e))
      ∙ ap (postprocess_fft h tw.1) (filled_run Forward p W lent v tw fills filled xs (pad_of h before.1) samples_long
      (pad_length h before.1 asked.room) ∙ ap flat (sym (run_housed h rs p.count (pairsOf xs))))

  pub bins_long : length after.0 ≡ 2 * (p.half + 1)
  bins_long = ap length made ∙ length_ended fft_steps h tw.1 (flat ran)

  pub bin_is : (k : ℕ) → k ≤ h → cell after.0 k ≡ end_cell fft_steps h (cell (flat ran)) (end_lent tw.1) k
  unfolding ended
  bin_is k l = ap (λ (ys : List Float). cell ys k) made ∙ cell_tabulated (h + 1) (end_cell fft_steps h (cell (flat ran)) (end_lent tw.1)) k (omega arith)

  ran_cell : (k : ℕ) → k < h → cell (flat ran) k ≡ get_or (run plain (floats (turning rs)) h rs (length rs) (pairsOf xs)) k blank
  ran_cell k l = cell_flat ran k (rw (run_long (turning rs) h rs p.count (pairsOf xs) (length_paired h xs samples_long)) l)
      ∙ ap (λ (n : ℕ). get_or (run plain (floats (turning rs)) h rs n (pairsOf xs)) k blank) (sym (use-length p told.planned))

  -- ---- the end twiddles

  end_close : (q : ℕ) → 0 < q → 2 * q < h → HalfClose (house (d * q)) (end_lent tw.1 q)
  unfolding of_bits
  end_close q pq lq =
      let many : q ≤ end_count p.n = rw told.twice (pairs_lent h q lq) in
      let at = filled_end Forward p W lent v tw fills filled nan q pq many in
      let words = words_of (turn_of (part q p.n)) in
      let is : end_lent tw.1 q ≡ cx (mul binary32 one_half words.0) (mul binary32 one_half words.1) = ap₂ cx at.first at.second in
      subst (HalfClose (house (d * q))) (sym is) (subst (λ (w : Gauss). HalfClose w (cx (mul binary32 one_half words.0) (mul binary32 one_half words.1)))
      (told.turn_at_lem q) (words_halved (part q p.n)))

  -- ---- the samples

  pair_is : (u : ℕ) → u < h → val_c (get_or (pairsOf xs) u blank) ≡ paired (sample xs) u
  pair_is u l =
      let e₀ : 2 * u ≡ u * 2 + 0 = omega arith in let e₁ : 2 * u + 1 ≡ u * 2 + 1 = omega arith in
      ap val_c (get_paired xs u (omega (arith, samples_long))) ∙ ap₂ (λ (i j : ℕ). record { re = sample xs i; im = sample xs j }) e₀ e₁

  module _ (held : (i : ℕ) → i < length xs → Held binary32 (get_or xs i nan)) (a : ℕ → ℕ) (sized : (u : ℕ) → u < h → Disc (2 ^ 20 * a u) (paired (sample xs) u))
      (least : (u : ℕ) → u < h → 2 ^ 20 ≤ a u) (total : sum_n h a ≤ 2 ^ 220) where
    pair_held : (u : ℕ) → u < h → Held binary32 (get_or (pairsOf xs) u blank).re × Held binary32 (get_or (pairsOf xs) u blank).im
    pair_held u l =
        let is = get_paired xs u (omega (arith, samples_long)) in
        subst (λ (z : Complex). Held binary32 z.re × Held binary32 z.im) (sym is)
        (held (2 * u) (omega (arith, samples_long)), held (2 * u + 1) (omega (arith, samples_long)))

    fine : error rs (length rs) ≤ 2 ^ 66
    fine = le_trans (error_small rs told.eight (length rs) (le_refl (length rs))) (mul-le-mul_right (2 ^ 60) told.short)

    sized' : (u : ℕ) → u < h → Disc (2 ^ 20 * a u) (val_c (get_or (pairsOf xs) u blank))
    sized' u l = subst (Disc (2 ^ 20 * a u)) (sym (pair_is u l)) (sized u l)

    ran_held : (k : ℕ) → k < h → Held binary32 (cell (flat ran) k).re × Held binary32 (cell (flat ran) k).im
    ran_held k l = subst (λ (z : Complex). Held binary32 z.re × Held binary32 z.im) (sym (ran_cell k l))
        (run_held (d * 2) h told.pairs rs (use-product p told.planned) told.some told.eight told.short
        (pairsOf xs) pair_held a sized' least total k l)

    ran_off : (k : ℕ) → k < h → Off (error rs (length rs) * sum_n h a) (scale_g (2 ^ 60) (val_c (cell (flat ran) k))) (dft house (d * 2) h (paired (sample
        xs)) k)
    unfolding dft
    ran_off k l = off_eq _ _ _ _ _ (ap (λ (z : Complex). scale_g (2 ^ 60) (val_c z)) (sym (ran_cell k l)))
        (sum_equal h _ _ (λ u m. ap (λ (z : Gauss). times_g z (house (d * 2 * (u * k)))) (pair_is u m)))
        (run_off (d * 2) h told.pairs rs (use-product p told.planned) told.some told.eight told.short
        (pairsOf xs) pair_held a sized' least total k l)

    -- every bin that the call leaves, for each weight
    pub bin_near : (F : ℕ) → 2 * ((2 ^ 60 + 1) * (2 ^ 60 + 1) * (error rs (length rs) * error rs (length rs))) ≤ 2 ^ 60 * 2 ^ 60 * (F * F) → (k : ℕ) → k ≤ h
        → Held binary32 (cell after.0 k).re × Held binary32 (cell after.0 k).im
        × Off ((F + 13 * 2 ^ 56 + 2 ^ 50) * sum_n h a) (scale_g (2 ^ 60) (val_c (cell after.0 k))) (spectrum house d h (sample xs) k)
    bin_near F root k l =
        subst (λ (z : Complex). Held binary32 z.re × Held binary32 z.im
        × Off ((F + 13 * 2 ^ 56 + 2 ^ 50) * sum_n h a) (scale_g (2 ^ 60) (val_c z)) (spectrum house d h (sample xs) k)) (sym (bin_is k l))
        (bins_near d h told.circle told.some (error rs (length rs)) F fine root (sample xs) a sized (sum_n_least h a (2 ^ 20) told.some least) total
        (cell (flat ran)) (end_lent tw.1) ran_held ran_off end_close k l)
