-- What is accepted at one width is accepted at every other, lent the same words for each iteration and number: at either width a twiddle of some
-- iteration and number stands at each place, and no other word is lent. Assumes nothing.
use Rattle.sequences.proofs.Basics.{◌≡◌, refl, sym, ap, subst, ◌∙◌, ℕ, zero, suc, ◌+◌, ◌-◌, ◌*◌, ◌/◌, ◌≤◌, ◌<◌, le_of_lt, arith, dec_le, true, List, length}
use lib.Ieee.{Float}
use Rattle.refusal.proofs.Rows.{deciding}
use Rattle.refusal.specs.Refusal.{Accepted}
use Rattle.counts.specs.Counts.{radix, twiddle_count, twiddle_start, stage_twiddles}
use Rattle.plan.specs.Record.{is_planned}
use Rattle.plan.specs.declared.Record.{Record}
use Rattle.counts.proofs.Counts.{count_first}
use Rattle.schedule.specs.Plans.{in_use}
use Rattle.packing.specs.Places.{is_width, place, iteration_at, number_at}
use Rattle.twiddle.proofs.Theorems.{each_stands, each_filled}
use Rattle.packing.proofs.Widths.{width_bounds}
use Rattle.floats.specs.Complexes.{cell}
use Rattle.scan.specs.Scan.{fits, first_unfit}
use Rattle.floats.specs.declared.complex.Complex.{Complex}
use Rattle.floats.proofs.Passes.{BothPass, cell_passes, no_cell_fails}
use Rattle.kernel.specs.Floats.{lent_at}
use Rattle.stage.specs.Calls.{stage_verdict}
use Rattle.stage.specs.Runs.{lent_to, Agree, AgreeAll}
use Rattle.stage.proofs.Runs.{own_within}
use Rattle.stage.proofs.Same.{own_count}
use Rattle.stage.proofs.Verdicts.{stage_taken}

module _ (P : Complex → Type 0) (W W' : ℕ) (width : 0 < W) (width' : 0 < W') where
  -- what holds of all twiddles of M iterations of radix r at one width holds of all at the other
  each_alike : (M r : ℕ) (c c' : ℕ → Complex) → Agree M r (λ i q. c (place M r W i q)) (λ i q. c' (place M r W' i q))
      → ((n : ℕ) → n < M * (r - 1) → P (c n)) → (n : ℕ) → n < M * (r - 1) → P (c' n)
  each_alike M r c c' agree all n l =
      let i = iteration_at M r W' n in let q = number_at M r W' n in let at = each_filled M r W' width' n l in
      subst P (agree i q at.early at.first at.last ∙ ap c' at.here)
      (all (place M r W i q) (each_stands M r W width i q at.early at.first at.last).inside)

  module _ (p : Record) (planned : is_planned p ≡ true) where
    -- the same of a stage of a plan, of which the first has none
    own_alike : (j : ℕ) → j < p.count → (c c' : ℕ → Complex)
        → (1 ≤ j → Agree (p.half / radix (in_use p) j) (radix (in_use p) j) (λ i q. c (place (p.half / radix (in_use p) j) (radix (in_use p) j) W i q))
        (λ i q. c' (place (p.half / radix (in_use p) j) (radix (in_use p) j) W' i q)))
        → ((n : ℕ) → n < twiddle_count p.half p.radices j → P (c n)) → (n : ℕ) → n < twiddle_count p.half p.radices j → P (c' n)
    own_alike zero known c c' agree all n l = absurd (omega (arith, count_first p.half p.radices 0 refl))
    own_alike (suc j) known c c' agree all n l =
        let r = radix (in_use p) (suc j) in let count = own_count p planned (suc j) (omega arith) known in
        each_alike (p.half / r) r c c' (agree (omega arith)) (λ m lm. all m (subst (λ (k : ℕ). m < k) count lm)) n (subst (λ (k : ℕ). n < k) (sym count) l)

    -- and of the stages before stage j, whose twiddles stand one stage after the other
    all_alike : (tw tw' : List Float) → AgreeAll p (lent_to p W tw) (lent_to p W' tw') → ((n : ℕ) → n < stage_twiddles p → P (cell tw n))
        → (j : ℕ) → j ≤ p.count → (n : ℕ) → n < twiddle_start p.half p.radices j → P (cell tw' n)
    unfolding twiddle_start
    all_alike tw tw' alike all zero known n l = absurd (omega arith)
    all_alike tw tw' alike all (suc j) known n l = pick (dec_le (twiddle_start p.half p.radices j) n) (all_alike tw tw' alike all j (le_of_lt known) n)
      where
        pick : Dec (twiddle_start p.half p.radices j ≤ n) → (n < twiddle_start p.half p.radices j → P (cell tw' n)) → P (cell tw' n)
        pick (yes m) before =
            let start = twiddle_start p.half p.radices j in let here : start + (n - start) ≡ n = omega arith in
            subst (λ (k : ℕ). P (cell tw' k)) here (own_alike j known (λ k. cell tw (start + k)) (λ k. cell tw' (start + k)) (λ later. alike j later known)
            (λ k lk. all (start + k) (omega (arith, own_within p j known))) (n - start) (omega arith))
        pick (no m) before = before (omega arith)

-- at W all words of all stages fit, so at W' they do
pub all_fit_alike : (p : Record) → is_planned p ≡ true → (W W' : ℕ) → 0 < W → 0 < W' → (tw tw' : List Float) → length tw ≡ 2 * stage_twiddles p
    → length tw' ≡ 2 * stage_twiddles p
    → AgreeAll p (lent_to p W tw) (lent_to p W' tw') → length tw ≤ first_unfit 0 tw → length tw' ≤ first_unfit 0 tw'
unfolding first_unfit
all_fit_alike p planned W W' width width' tw tw' lent lent' alike fit = no_cell_fails (fits 0) tw' (stage_twiddles p) lent'
    (all_alike (BothPass (fits 0)) W W' width width' p planned tw tw' alike (λ n l. cell_passes (fits 0) tw fit n (omega arith)) p.count (omega arith))

-- a call that is accepted at W is accepted at W'
pub accepted_any_width : (p : Record) (j W W' : ℕ) (xs : List Float) (output : ℕ) (tw tw' : List Float) → stage_verdict p j W xs output tw ≡ Accepted
    → is_width W' ≡ true → length tw' ≡ length tw
    → Agree (p.half / radix (in_use p) j) (radix (in_use p) j) (lent_at (p.half / radix (in_use p) j) (radix (in_use p) j) W tw)
    (lent_at (p.half / radix (in_use p) j) (radix (in_use p) j) W' tw')
    → stage_verdict p j W' xs output tw' ≡ Accepted
unfolding first_unfit stage_verdict
accepted_any_width p j W W' xs output tw tw' accepted wide same agree =
    let t = stage_taken p j W xs output tw accepted in let w = t.workable in let lent = same ∙ w.lent in
    let cells : (n : ℕ) → n < twiddle_count p.half p.radices j → BothPass (fits 0) (cell tw' n)
    = own_alike (BothPass (fits 0)) W W' (width_bounds W w.width).0 (width_bounds W' wide).0 p w.planned j w.known (cell tw) (cell tw')
    (λ later. agree) (λ n l. cell_passes (fits 0) tw t.twiddles n (omega (arith, w.lent))) in
    let fit = no_cell_fails (fits 0) tw' (twiddle_count p.half p.radices j) lent cells in
    sym (search deciding depth 12)
