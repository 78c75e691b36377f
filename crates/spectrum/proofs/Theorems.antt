-- What a reader opens first: lent the same words for each stage, iteration and number, a call of either direction that is accepted at one width is
-- accepted at any other, and leaves the same output and the same scratch; and a refused call writes nothing. That two outcomes of a call are
-- equal is in proofs/Unique.antt. Assumes nothing.
use Rattle.sequences.proofs.Basics.{◌≡◌, sym, ap, ◌∙◌, ℕ, ◌-◌, ◌*◌, ◌<◌, Bool, true, not, List, ◌++◌, length}
use lib.Ieee.{Float}
use Rattle.refusal.specs.Refusal.{left}
use Rattle.refusal.specs.declared.Refusal.{Refusal}
use Rattle.refusal.specs.Refusal.{Verdict}
use Rattle.refusal.specs.Refusal.{Accepted, Refused}
use Rattle.refusal.proofs.Rows.{deciding, settled}
use Rattle.counts.specs.Counts.{result_in}
use Rattle.plan.specs.Record.{is_planned}
use Rattle.plan.specs.declared.Record.{Record}
use Rattle.schedule.specs.Buffers.{Two, held_in}
use Rattle.schedule.proofs.Buffers.{driven_same}
use Rattle.packing.specs.Places.{is_width}
use Rattle.packing.proofs.Widths.{width_bounds}
use Rattle.floats.specs.Complexes.{paired, flat}
use Rattle.scan.specs.Scan.{fits, first_unfit}
use Rattle.sequences.proofs.First.{joined_none}
use Rattle.stage.specs.Runs.{stage_in, run_of, lent_to, Alike}
use Rattle.stage.proofs.Accepted.{all_fit_alike}
use Rattle.stage.proofs.Same.{plan_agree, stage_lent}
use Rattle.ends.specs.Ends.{postprocess_fft, zeros}
use Rattle.spectrum.specs.Calls.{lent_verdict, Forwards, Inverts}
use Rattle.scratch.specs.Scratch.{with_both}
use Rattle.transform.specs.Transforms.{Slices, forward_run, forward_of, inverse_run, restored, inverse_of}
use Rattle.spectrum.proofs.Verdicts.{lent_taken, all_fit}

-- ---- widths

module _ (p : Record) (planned : is_planned p ≡ true) (W W' : ℕ) (some : 0 < W) (some' : 0 < W') (stage stage' : List Float)
    (alike : Alike p W W' stage stage') where
  run_same : (b : Two Float) → run_of p W stage b ≡ run_of p W' stage' b
  run_same b = driven_same (stage_in p W stage) (stage_in p W' stage') b p.count (λ j l xs. stage_lent p planned W some stage j l xs
      ∙ ap flat (plan_agree p planned (lent_to p W stage) (lent_to p W' stage') j l (λ later. alike j later l) (paired xs))
      ∙ sym (stage_lent p planned W' some' stage' j l xs))

  pub forward_same : (end xs s : List Float) → forward_of p W stage end xs s ≡ forward_of p W' stage' end xs s
  unfolding forward_of forward_run
  forward_same end xs s = ap (λ (b : Two Float). (postprocess_fft p.half end (held_in (result_in p.count) b), with_both p.half b s)) (run_same _)

  pub inverse_same : (end xs s : List Float) (n : ℕ) → inverse_of p W stage end xs s n ≡ inverse_of p W' stage' end xs s n
  unfolding inverse_of inverse_run
  inverse_same end xs s n = ap (λ (b : Two Float). made (restored p.half (result_in p.count) b)) (run_same _)
    where
      made : Two Float → Slices
      made b = (b.0 ++ zeros (n - 2 * p.half), with_both p.half b s)

-- the verdict at W' accepts where that at W does
accepted_any_width : (p : Record) (W W' : ℕ) (input output : Bool) (scratch k : ℕ) (xs stage stage' end : List Float)
    → lent_verdict p W input output scratch k xs stage end ≡ Accepted
    → is_width W' ≡ true → length stage' ≡ length stage → Alike p W W' stage stage' → lent_verdict p W' input output scratch k xs stage' end ≡ Accepted
unfolding first_unfit lent_verdict
accepted_any_width p W W' input output scratch k xs stage stage' end accepted wide same alike =
    let t = lent_taken p W input output scratch k xs stage end accepted in let lent = same ∙ t.stages in
    let fit = joined_none (λ (x : Float). not (fits 0 x)) stage end t.twiddles in
    let fit' = all_fit_alike p t.planned W W' (width_bounds W t.width).0 (width_bounds W' wide).0 stage stage' t.stages lent alike fit.0 in
    let both = all_fit stage' end fit' fit.1 in
    sym (search deciding depth 14)

-- ---- calls

-- lent the same words, a call that is accepted at W is accepted at W', and leaves the same
module _ (p : Record) (W W' : ℕ) (stage stage' end xs : List Float) (before : Slices) (r r' : Verdict) (after after' : Slices) (e : r ≡ Accepted)
    (wide : is_width W' ≡ true)
    (same : length stage' ≡ length stage) (alike : Alike p W W' stage stage') where
  pub forward_any_width : Forwards p W stage end xs before r after → Forwards p W' stage' end xs before r' after' → (r' ≡ Accepted) × (after ≡ after')
  forward_any_width f g =
      let told = sym f.answer ∙ e in
      let told' = accepted_any_width p W W' _ _ _ 32 xs stage stage' end told wide same alike in
      let t = lent_taken p W _ _ _ 32 xs stage end told in
      let made = forward_same p t.planned W W' (width_bounds W t.width).0 (width_bounds W' wide).0 stage stage' alike end xs before.1 in
      (g.answer ∙ told', settled _ _ _ _ _ f told ∙ made ∙ sym (settled _ _ _ _ _ g told'))

  pub inverse_any_width : Inverts p W stage end xs before r after → Inverts p W' stage' end xs before r' after' → (r' ≡ Accepted) × (after ≡ after')
  inverse_any_width f g =
      let told = sym f.answer ∙ e in
      let told' = accepted_any_width p W W' _ _ _ 48 xs stage stage' end told wide same alike in
      let t = lent_taken p W _ _ _ 48 xs stage end told in
      let made = inverse_same p t.planned W W' (width_bounds W t.width).0 (width_bounds W' wide).0 stage stage' alike end xs before.1
      (length before.0) in
      (g.answer ∙ told', settled _ _ _ _ _ f told ∙ made ∙ sym (settled _ _ _ _ _ g told'))

-- a refused call writes nothing
module _ (p : Record) (W : ℕ) (stage end xs : List Float) (before : Slices) (r : Verdict) (after : Slices) (why : Refusal) (e : r ≡ Refused why) where
  pub forward_kept : Forwards p W stage end xs before r after → after ≡ before
  forward_kept f = f.cells ∙ ap (λ (v : Verdict). left v (forward_of p W stage end xs before.1) before) (sym f.answer ∙ e)

  pub inverse_kept : Inverts p W stage end xs before r after → after ≡ before
  inverse_kept f = f.cells ∙ ap (λ (v : Verdict). left v (inverse_of p W stage end xs before.1 (length before.0)) before) (sym f.answer ∙ e)
