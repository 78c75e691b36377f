-- Laws of a run: its stages find what they ask for, and leave what the definition states. Assumes nothing.
use Rattle.sequences.proofs.Basics.{◌≡◌, sym, ap, ◌∙◌, ℕ, ◌+◌, ◌-◌, ◌*◌, ◌%◌, ◌≤◌, ◌<◌, arith, true, List, length, take, drop, length-drop, length-take-le}
use lib.Ieee.{Float}
use Rattle.counts.specs.Counts.{radix, stride, twiddle_count, twiddle_start, stage_twiddles}
use Rattle.plan.specs.declared.Record.{Record}
use Rattle.plan.specs.Record.{is_planned}
use Rattle.packing.specs.Places.{is_width}
use Rattle.counts.proofs.Counts.{start_next, start_up}
use Rattle.schedule.specs.Buffers.{Two, alternated, driven}
use Rattle.schedule.specs.Plans.{in_use}
use Rattle.schedule.specs.Stage.{stage}
use Rattle.schedule.proofs.Buffers.{even_next, odd_next, driven_copied, driven_kept, driven_none}
use Rattle.schedule.proofs.Cells.{length_stage}
use Rattle.floats.proofs.Flat.{length_flat}
use Rattle.kernel.specs.Floats.{stage_of}
use Rattle.float_stage.specs.Parts.{Workable}
use Rattle.stage.specs.Runs.{own_of, stage_in, Drivable, Steppable}

-- the twiddles of stage k end within those of all stages
pub own_within : (p : Record) (k : ℕ) → k < p.count → twiddle_start p.half p.radices k + twiddle_count p.half p.radices k ≤ stage_twiddles p
own_within p k l =
    let more : k + 1 + (p.count - (k + 1)) ≡ p.count = omega arith in
    let up : twiddle_start p.half p.radices (k + 1) ≤ stage_twiddles p = rw more at (start_up p.half p.radices (k + 1) (p.count - (k + 1))) in
    omega (arith, up, start_next p.half p.radices k)

-- cut out as they are, they are its own
pub own_slice : (p : Record) (k : ℕ) (tw : List Float) (start count : ℕ) → start ≡ twiddle_start p.half p.radices k
    → count ≡ twiddle_count p.half p.radices k
    → take (2 * start + 2 * count - 2 * start) (drop (2 * start) tw) ≡ own_of p tw k
own_slice p k tw start count es ec =
    let e : 2 * start + 2 * count - 2 * start ≡ 2 * count = omega arith in
    rw (e, es, ec)

pub own_length : (p : Record) (k : ℕ) (tw : List Float) → k < p.count → length tw ≡ 2 * stage_twiddles p
    → length (own_of p tw k) ≡ 2 * twiddle_count p.half p.radices k
own_length p k tw l e = length-take-le _ _ (omega (arith, length-drop (2 * twiddle_start p.half p.radices k) tw, own_within p k l, e))

-- what a stage of a run hands to its work
module _ (p : Record) (k W ns nd start : ℕ) (tw own : List Float) (planned : is_planned p ≡ true) (packed : is_width W ≡ true)
    (lent : length tw ≡ 2 * stage_twiddles p) (h : Steppable p k ns nd start) (same : own ≡ own_of p tw k) where
  pub step_workable : Workable p k W ns (length own) nd
  step_workable =
      record {
        planned = planned;
        known = h.known;
        width = packed;
        source = h.source;
        target = h.target;
        lent = ap length same ∙ own_length p k tw h.known lent;
      }

  pub step_made : (xs ys : List Float) → ys ≡ stage_of p k W own xs → ys ≡ stage_in p W tw k xs
  step_made xs ys e = e ∙ ap (λ (l : List Float). stage_of p k W l xs) same

pub length_made : (p : Record) (j W : ℕ) (tw xs : List Float) → length (stage_of p j W tw xs) ≡ 2 * p.half
unfolding stage_of stage
length_made p j W tw xs = length_flat _ ∙ ap (λ (n : ℕ). 2 * n) (length_stage _ _ j p.half (stride (in_use p) j) (radix (in_use p) j) _)

-- buffers as long serve as well
pub drivable_as : {p : Record} {nd ns nd' ns' : ℕ} → Drivable p nd ns → nd' ≡ nd → ns' ≡ ns → Drivable p nd' ns'
drivable_as h ed es = rw (ed, es) h

-- ---- the stages after the first

-- d and s are what k stages leave of whatever the first one made s₀ of; what d holds counts from two on
abbrev pub Going : (f : ℕ → List Float → List Float) (s₀ d s : List Float) → (k : ℕ) → Type 0
Going f s₀ d s k = (xs ys : List Float) → s₀ ≡ f 0 xs → (2 ≤ k → d ≡ (alternated f k (xs, ys)).0) × (s ≡ (alternated f k (xs, ys)).1)

module _ (f : ℕ → List Float → List Float) (s₀ d : List Float) where
  pub going_first : Going f s₀ d s₀ 1
  unfolding alternated
  going_first xs ys e = (λ l. absurd (omega arith), e)

  module _ (s d' s' : List Float) (k : ℕ) (some : 0 < k) (g : Going f s₀ d s k) where
    pub going_even : k % 2 ≡ 0 → d' ≡ d → s' ≡ f k d → Going f s₀ d' s' (k + 1)
    going_even e u v xs ys a =
        let next = even_next f (xs, ys) k d s d' s' e ((g xs ys a).0 (omega (arith, e))) u v in
        (λ l. next.0, next.1)

    pub going_odd : (k % 2 ≡ 0 → ⊥) → d' ≡ f k s → s' ≡ s → Going f s₀ d' s' (k + 1)
    going_odd e u v xs ys a =
        let next = odd_next f (xs, ys) k d s d' s' e (g xs ys a).1 u v in
        (λ l. next.0, next.1)

  -- a single stage copied back, and more of them
  pub gone_one : (count : ℕ) → count ≡ 1 → d ≡ s₀ → (xs ys : List Float) → s₀ ≡ f 0 xs → (d ≡ (driven f count (xs, ys)).0) × (s₀ ≡ (driven f count (xs, ys)).1)
  unfolding alternated
  gone_one count one same xs ys e = driven_copied f (xs, ys) count one d s₀ same (rw one e)

  pub gone_all : (s : List Float) (k count : ℕ) → k ≡ count → 2 ≤ count → Going f s₀ d s k
      → (xs ys : List Float) → s₀ ≡ f 0 xs → (d ≡ (driven f count (xs, ys)).0) × (s ≡ (driven f count (xs, ys)).1)
  gone_all s k count e more g xs ys a =
      let last : (2 ≤ count → d ≡ (alternated f count (xs, ys)).0) × (s ≡ (alternated f count (xs, ys)).1) = rw e at (g xs ys a) in
      driven_kept f (xs, ys) count (λ one. omega arith) d s (last.0 more) last.1

-- none
pub gone_none : (f : ℕ → List Float → List Float) (count : ℕ) → count ≡ 0 → (b : Two Float) → (b.0 ≡ (driven f count b).0) × (b.1 ≡ (driven f count b).1)
gone_none f count none b =
    let g : b ≡ driven f count b = sym (ap (λ (n : ℕ). driven f n b) none ∙ driven_none f b) in
    (ap (λ (c : Two Float). c.0) g, ap (λ (c : Two Float). c.1) g)
