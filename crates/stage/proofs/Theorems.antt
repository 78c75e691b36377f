-- What a reader opens first: whether a stage is accepted, and what it then makes, does not depend on the width its twiddles are packed for; with
-- the words of its turns, filled or made by anybody else, a stage and a run are the schedule whose twiddles are its own turns; a refused stage
-- writes nothing. That two outcomes of a call are equal is `Stages_one` of proofs/Unique.antt. Assumes nothing.
use Rattle.sequences.proofs.Basics.{◌≡◌, sym, ap, ap₂, ◌∙◌, ℕ, ◌*◌, ◌/◌, ◌<◌, arith, true, List, length}
use lib.Ieee.{Float, nan}
use Rattle.refusal.specs.Refusal.{left}
use Rattle.refusal.specs.declared.Refusal.{Refusal}
use Rattle.refusal.specs.Refusal.{Verdict}
use Rattle.refusal.specs.Refusal.{Accepted, Refused}
use Rattle.refusal.proofs.Rows.{settled}
use Rattle.counts.specs.Counts.{radix, result_in}
use Rattle.plan.specs.declared.Record.{Record}
use Rattle.schedule.specs.Buffers.{held_in}
use Rattle.schedule.specs.Plans.{in_use}
use Rattle.schedule.specs.Stage.{stage, run, plain}
use Rattle.packing.specs.Places.{is_width}
use Rattle.twiddle.specs.Calls.{Slices, Fills}
use Rattle.end_twiddles.specs.declared.inner.ends.Direction.{Direction}
use Rattle.twiddle.proofs.Theorems.{filled_twiddle}
use Rattle.packing.proofs.Widths.{width_bounds}
use Rattle.twiddle.proofs.Verdicts.{Taken, taken}
use Rattle.floats.specs.Complexes.{cx, paired, flat}
use Rattle.kernel.specs.Floats.{house_floats, lent_at, stage_of}
use Rattle.float_stage.specs.Parts.{Workable}
use Rattle.stage.specs.Calls.{stage_verdict, Stages}
use Rattle.stage.specs.Runs.{own_of, stage_in, run_of, lent_to, turning, Agree, AgreeAll}
use Rattle.stage.proofs.Accepted.{accepted_any_width}
use Rattle.stage.proofs.Same.{plan_agree, run_agree, stage_lent, run_lent, stage_housed, run_housed}
use Rattle.stage.proofs.Verdicts.{stage_workable}

-- ---- a call of a stage

module _ (p : Record) (j W : ℕ) (xs out tw : List Float) (r : Verdict) (ys : List Float) (s : Stages p j W xs out tw r ys) where
  -- what an accepted call tells of what it was lent, and what it leaves
  pub stage_told : r ≡ Accepted → Workable p j W (length xs) (length tw) (length out)
  stage_told e = stage_workable p j W xs (length out) tw r s.answer e

  pub stage_left : r ≡ Accepted → ys ≡ stage_of p j W tw xs
  stage_left e = settled _ _ _ _ _ s (sym s.answer ∙ e)

  -- a refused call writes nothing
  pub stage_kept : (why : Refusal) → r ≡ Refused why → ys ≡ out
  stage_kept why e = s.cells ∙ ap (λ (v : Verdict). left v (stage_of p j W tw xs) out) (sym s.answer ∙ e)

-- lent the same words for each iteration and number, a call that is accepted at one width is accepted at any other, and makes the same
pub any_width : (p : Record) (j W W' : ℕ) (xs out out' tw tw' : List Float) (r r' : Verdict) (ys ys' : List Float) → Stages p j W xs out tw r ys
    → Stages p j W' xs out' tw' r' ys'
    → r ≡ Accepted → is_width W' ≡ true → length out' ≡ length out → length tw' ≡ length tw
    → Agree (p.half / radix (in_use p) j) (radix (in_use p) j) (lent_at (p.half / radix (in_use p) j) (radix (in_use p) j) W tw)
    (lent_at (p.half / radix (in_use p) j) (radix (in_use p) j) W' tw')
    → (r' ≡ Accepted) × (ys ≡ ys')
unfolding stage_of
any_width p j W W' xs out out' tw tw' r r' ys ys' s s' e wide room same agree =
    let t = stage_told p j W xs out tw r ys s e in
    let e' : r' ≡ Accepted
    = s'.answer ∙ ap (λ (n : ℕ). stage_verdict p j W' xs n tw') room
    ∙ accepted_any_width p j W W' xs (length out) tw tw' (sym s.answer ∙ e) wide same agree in (
      e',
      stage_left p j W xs out tw r ys s e ∙ ap flat (plan_agree p t.planned _ _ j t.known (λ later. agree) (paired xs))
          ∙ sym (stage_left p j W' xs out' tw' r' ys' s' e'),
    )

-- ---- with the words of the schedule's turns, whoever made them

-- a call that is accepted makes what the schedule does with the house table's turns throughout
pub turned_call : (p : Record) (j W : ℕ) (xs out tw : List Float) (r : Verdict) (ys : List Float) → Stages p j W xs out tw r ys → r ≡ Accepted
    → Agree (p.half / radix (in_use p) j) (radix (in_use p) j) (lent_at (p.half / radix (in_use p) j) (radix (in_use p) j) W tw) (turning (in_use p) j)
    → ys ≡ flat (stage plain house_floats p.half (in_use p) j (paired xs))
unfolding stage_of
turned_call p j W xs out tw r ys s e agree =
    let t = stage_told p j W xs out tw r ys s e in
    stage_left p j W xs out tw r ys s e
    ∙ ap flat (plan_agree p t.planned _ (turning (in_use p)) j t.known (λ later. agree) (paired xs) ∙ stage_housed p.half (in_use p) j (paired xs))

-- ---- with the words that an accepted filling leaves

module _ (d : Direction) (p : Record) (W : ℕ) (before : Slices) (r : Verdict) (after : Slices) (fills : Fills d p W before r after)
    (accepted : r ≡ Accepted) where
  tells : Taken p W (length before.0) (length before.1)
  tells = taken p W (length before.0) (length before.1) r fills.answer accepted

  width : 0 < W
  width = (width_bounds W tells.width).0

  -- the lent twiddles are the words of the schedule's turns
  pub filled_turns : AgreeAll p (lent_to p W after.0) (turning (in_use p))
  filled_turns j later known i q li first last =
      let at = filled_twiddle d p W before r after fills accepted nan j i q later known li first last in
      ap₂ cx at.first at.second

  -- so a stage is the schedule's with the house table's turns throughout
  pub filled_stage : (j : ℕ) → j < p.count → (xs : List Float) → stage_in p W after.0 j xs ≡ flat (stage plain house_floats p.half (in_use p) j (paired xs))
  filled_stage j l xs = stage_lent p tells.planned W width after.0 j l xs
      ∙ ap flat (plan_agree p tells.planned (lent_to p W after.0) (turning (in_use p)) j l (λ later. filled_turns j later l) (paired xs)
      ∙ stage_housed p.half (in_use p) j (paired xs))

  -- what an accepted call of a stage leaves when it is lent its own of them
  pub filled_call : (j : ℕ) (xs out : List Float) (v : Verdict) (ys : List Float) → Stages p j W xs out (own_of p after.0 j) v ys → v ≡ Accepted
      → ys ≡ flat (stage plain house_floats p.half (in_use p) j (paired xs))
  filled_call j xs out v ys s e =
      stage_left p j W xs out (own_of p after.0 j) v ys s e ∙ filled_stage j (stage_told p j W xs out (own_of p after.0 j) v ys s e).known xs

  -- and a run's result is the schedule's run
  pub filled_run : (xs ys : List Float) → length xs ≡ 2 * p.half → length ys ≡ 2 * p.half
      → held_in (result_in p.count) (run_of p W after.0 (xs, ys)) ≡ flat (run plain house_floats p.half (in_use p) p.count (paired xs))
  filled_run xs ys lx ly = run_lent p tells.planned W width after.0 xs ys lx ly
      ∙ ap flat (run_agree p tells.planned (lent_to p W after.0) (turning (in_use p)) filled_turns (paired xs) p.count (omega arith)
      ∙ run_housed p.half (in_use p) p.count (paired xs))

-- two fillings of one plan, at any widths and in either direction, give the same result of a run
pub filled_alike : (c d : Direction) (p : Record) (W W' : ℕ) (b b' : Slices) (r r' : Verdict) (a a' : Slices) → Fills c p W b r a → Fills d p W' b' r' a'
    → r ≡ Accepted → r' ≡ Accepted
    → (xs ys ys' : List Float) → length xs ≡ 2 * p.half → length ys ≡ 2 * p.half → length ys' ≡ 2 * p.half
    → held_in (result_in p.count) (run_of p W a.0 (xs, ys)) ≡ held_in (result_in p.count) (run_of p W' a'.0 (xs, ys'))
filled_alike c d p W W' b b' r r' a a' f f' e e' xs ys ys' lx ly ly' =
    filled_run c p W b r a f e xs ys lx ly ∙ sym (filled_run d p W' b' r' a' f' e' xs ys' lx ly')
