-- What an accepted call of `stage`, `forward` or `inverse` writes, and what `power` answers, has a size: the bound on the numbers lent is a parameter.
-- A stage adds five binary digits at most, the steps at the ends three; where a plan has no stage forward does not write the Scratchpad. Assumes nothing.
use Rattle.sequences.proofs.Basics.{◌≡◌, refl, sym, ◌∙◌, subst, ℕ, zero, suc, ◌+◌, ◌-◌, ◌*◌, ◌/◌, ◌≤◌, ◌<◌, arith, List, ◌++◌, lit≤, length}
use lib.Ieee.{Float, binary32, add}
use Rattle.refusal.specs.Refusal.{Verdict}
use Rattle.refusal.specs.Refusal.{Accepted}
use Rattle.refusal.proofs.Rows.{accepted, settled}
use Rattle.counts.specs.Counts.{radix}
use Rattle.plan.specs.declared.Record.{Record}
use Rattle.schedule.specs.Plans.{in_use}
use Rattle.schedule.specs.Stage.{stage, plain}
use Rattle.packing.specs.Places.{place}
use Rattle.packing.proofs.Widths.{width_bounds}
use Rattle.floats.specs.Complexes.{cell, paired}
use Rattle.scan.specs.Scan.{first_unfit}
use Rattle.floats.specs.declared.complex.Complex.{Complex}
use Rattle.kernel.specs.Floats.{floats, lent_at, stage_of}
use Rattle.packing.proofs.Places.{place_lt}
use Rattle.stage.specs.Calls.{Stages}
use Rattle.stage.proofs.Same.{own_count}
use Rattle.stage.proofs.Theorems.{stage_told, stage_left}
use Rattle.stage.proofs.Verdicts.{stage_taken}
use Rattle.spectrum.specs.Calls.{Forwards, Inverts}
use Rattle.power.specs.Power.{power_of, power_from, power_verdict, Powers}
use Rattle.transform.specs.Transforms.{Slices}
use Rattle.std.specs.Prelude.{Ok}
use Rattle.refusal.proofs.Rows.{granted_ok}
use Rattle.power.proofs.Sums.{bins_told}
use Rattle.spectrum.proofs.Verdicts.{lent_taken, forwardable, invertible}
use Rattle.finite.specs.Sizes.{AtMost, Words, Within}
use Rattle.finite.proofs.Ends.{zero_most}
use Rattle.finite.proofs.Sizes.{add_most, mul_most, most_wider}
use Rattle.finite.proofs.Stages.{OnesIn, stage_all}
use Rattle.finite.proofs.Words.{scan_words, cell_both, words_cells, cells_words, stage_cells}
use Rattle.finite.proofs.Transforms.{front_words, back_words, forward_words, forward_scratch, inverse_words, inverse_scratch}

-- ---- a stage

module _ (p : Record) (j W : ℕ) (xs out tw : List Float) (r : Verdict) (ys : List Float) (s : Stages p j W xs out tw r ys) (e : r ≡ Accepted) where
  stage_scanned : Words 48 xs × Words 0 tw
  stage_scanned =
      let t = stage_taken p j W xs (length out) tw (sym s.answer ∙ e) in
      (scan_words 48 xs t.numbers, scan_words 0 tw t.twiddles)

  -- its input has at most 2 ^ 48
  pub stage_lent_within : Words 48 xs
  stage_lent_within = stage_scanned.0

  pub stage_within : (k : ℕ) → k ≤ 121 → Words k xs → Words (k + 5) ys
  unfolding stage_of
  stage_within k few w =
      let t = stage_told p j W xs out tw r ys s e in let M = p.half / radix (in_use p) j in
      let lent : ℕ → ℕ → ℕ → Complex = λ n. lent_at M (radix (in_use p) j) W tw in
      let ones : 0 < j → OnesIn p j (lent j) = λ later i q li first last.
      let below = place_lt M (radix (in_use p) j) W i q (width_bounds W t.width).0 li first last in
      cell_both 0 tw stage_scanned.1 (place M (radix (in_use p) j) W i q) (omega (arith, below, own_count p t.planned j later t.known, t.lent)) in
      let made = stage plain (floats lent) p.half (in_use p) j (paired xs) in
      let sized = stage_all p t.planned lent j k t.known few ones (paired xs) (words_cells k p.half xs t.source w) in
      subst (Words (k + 5)) (sym (stage_left p j W xs out tw r ys s e))
      (cells_words (k + 5) made (λ i li. sized i (rw (stage_cells p lent j (paired xs)) at li)))

-- ---- power

module _ (xs : List Float) (k : ℕ) (few : k ≤ 56) (w : Words k xs) where
  bin_power : (n : ℕ) → 2 * n + 1 < length xs → AtMost 2 (k + k) (power_of (cell xs n))
  bin_power n l = add_most 14 1 1 (k + k) (record { digits = lit≤ tt; kept = lit≤ tt; below = omega arith }) _ _
      (mul_most 14 1 1 k k (record { digits = lit≤ tt; kept = lit≤ tt; below = omega arith }) _ _ (w (2 * n) (omega arith)) (w (2 * n) (omega arith)))
      (mul_most 14 1 1 k k (record { digits = lit≤ tt; kept = lit≤ tt; below = omega arith }) _ _ (w (2 * n + 1) l) (w (2 * n + 1) l))

  power_most : (lo n : ℕ) → 2 * (lo + n) ≤ length xs → length xs ≤ 8194 → AtMost (2 * n) (k + k) (power_from xs lo n)
  unfolding power_from
  power_most lo zero l m = zero_most 0 (k + k)
  power_most lo (suc n) l m =
      let more : 2 * n + 2 ≡ 2 * suc n = omega arith in let digits : 2 * n + 2 ≤ 16384 = omega arith in
      subst (λ (q : ℕ). AtMost q (k + k) (add binary32 (power_from xs lo n) (power_of (cell xs (lo + n))))) more
      (add_most 14 (2 * n) 2 (k + k) (record { digits = digits; kept = lit≤ tt; below = omega arith }) _ _ (power_most lo n (omega arith) m)
      (bin_power (lo + n) (omega arith)))

module _ (xs : List Float) (lo hi : ℕ) (x : Float) (s : Powers xs lo hi (Ok x)) where
  -- an accepted answer is the sum
  pub summing : (power_verdict xs lo hi ≡ Accepted) × (x ≡ power_from xs lo (hi + 1 - lo))
  summing = granted_ok _ _ _ s.answer

  -- its bins have numbers of at most 2 ^ 48
  pub summed_within : Words 48 xs
  unfolding power_verdict
  summed_within =
      let t = summing.0 in let few : length xs ≤ first_unfit 48 xs = search accepted depth 8 in
      scan_words 48 xs few

  pub power_within : (k : ℕ) → k ≤ 56 → Words k xs → AtMost 8194 (k + k) x
  power_within k few w =
      let t = bins_told xs lo hi (power_verdict xs lo hi) refl summing.0 in let n = hi + 1 - lo in
      let words : 2 * n ≤ 8194 = omega (arith, t.1, t.2) in
      subst (AtMost 8194 (k + k)) (sym summing.1) (most_wider (2 * n) 8194 (k + k)
      (power_from xs lo n) words (power_most xs k few w lo n (omega (arith, t.0, t.1)) t.2))

-- ---- both directions

module _ (p : Record) (W : ℕ) (stage end xs : List Float) (before : Slices) (r : Verdict) (after : Slices) where
  module _ (f : Forwards p W stage end xs before r after) (e : r ≡ Accepted) where
    forward_scanned : Words 32 xs × Words 0 (stage ++ end)
    forward_scanned =
        let t = lent_taken p W _ _ _ 32 xs stage end (sym f.answer ∙ e) in
        (scan_words 32 xs t.numbers, scan_words 0 (stage ++ end) t.twiddles)

    -- its samples have at most 2 ^ 32
    pub samples_within : Words 32 xs
    samples_within = forward_scanned.0

    pub forward_within : (k : ℕ) → k ≤ 56 → Words k xs → Within 1 p (k + 5 * p.count + 3) (k + 5 * p.count) after
    forward_within k few w =
        let t = forwardable p W xs (length before.0) (length before.1) stage end r f.answer e in
        let ws = front_words 0 stage end forward_scanned.1 in let we = back_words 0 stage end forward_scanned.1 in
        let scratch = forward_scratch p W k stage end xs before.1 (length before.0) t few w ws we in
        subst (Within 1 p (k + 5 * p.count + 3) (k + 5 * p.count)) (sym (settled _ _ _ _ _ f (sym f.answer ∙ e)))
        (forward_words p W k stage end xs before.1 (length before.0) t few w ws we, scratch.0, scratch.1)

  module _ (f : Inverts p W stage end xs before r after) (e : r ≡ Accepted) where
    inverse_scanned : Words 48 xs × Words 0 (stage ++ end)
    inverse_scanned =
        let t = lent_taken p W _ _ _ 48 xs stage end (sym f.answer ∙ e) in
        (scan_words 48 xs t.numbers, scan_words 0 (stage ++ end) t.twiddles)

    -- its bins have numbers of at most 2 ^ 48
    pub bins_within : Words 48 xs
    bins_within = inverse_scanned.0

    pub inverse_within : (k : ℕ) → k ≤ 53 → Words k xs → Within 0 p (k + 3 + 5 * p.count) (k + 3 + 5 * p.count) after
    inverse_within k few w =
        let t = invertible p W _ _ (length xs) (length before.0) (length before.1) 48 xs stage end r refl refl f.answer e in
        let ws = front_words 0 stage end inverse_scanned.1 in let we = back_words 0 stage end inverse_scanned.1 in
        let scratch = inverse_scratch p W k stage end xs before.1 (length before.0) t few w ws we in
        subst (Within 0 p (k + 3 + 5 * p.count) (k + 3 + 5 * p.count)) (sym (settled _ _ _ _ _ f (sym f.answer ∙ e)))
        (inverse_words p W k stage end xs before.1 (length before.0) t few w ws we, scratch.0, λ any. scratch.1)
