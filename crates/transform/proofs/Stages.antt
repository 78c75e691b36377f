-- What the stages leave in a scratch. Assumes nothing.
use Rattle.sequences.proofs.Basics.{◌≡◌, sym, ap, ap₂, ◌∙◌, ℕ, ◌*◌, ◌≤◌, ◌<◌, arith, Bool, true, false, cond, List, ◌++◌, ltb, length, drop, length-take-le}
use Rattle.sequences.proofs.Basics.{ltb-true, ltb-false}
use lib.Ieee.{Float}
use Rattle.sequences.specs.Lists.{pasted}
use Rattle.plan.specs.declared.Record.{Record}
use Rattle.schedule.specs.Buffers.{Two, driven}
use Rattle.schedule.proofs.Buffers.{driven_none, driven_long, driven_pad}
use Rattle.stage.specs.Runs.{own_of, stage_in, run_of}
use Rattle.stage.proofs.Runs.{length_made}
use Rattle.scratch.specs.Scratch.{data_of, pad_of, with_both}
use Rattle.scratch.proofs.Scratch.{front_data, both_pasted, data_replaced}

-- ---- the stages

module _ (p : Record) (W : ℕ) (tw : List Float) where
  -- both buffers stay as long as they are
  pub run_long : (b : Two Float) → length b.0 ≡ 2 * p.half → length b.1 ≡ 2 * p.half
      → (length (run_of p W tw b).0 ≡ 2 * p.half) × (length (run_of p W tw b).1 ≡ 2 * p.half)
  run_long b l m = driven_long (stage_in p W tw) b (2 * p.half) (λ k zs. length_made p k W (own_of p tw k) zs) l m p.count

  module _ (xs s o : List Float) (samples : length xs ≡ 2 * p.half) (room : 4 * p.half ≤ length s) (other : 2 * p.half ≤ length o) where
    -- what the run makes of the numbers xs and of what the other buffer held, and what it makes of them and of the Scratchpad
    abbrev beside : Two Float
    beside = run_of p W tw (xs, data_of p.half o)

    abbrev within : Two Float
    within = run_of p W tw (xs, pad_of p.half s)

    pub stages_made : 0 < p.count → (d e s' : List Float) → d ≡ beside.0 → e ≡ beside.1
        → s' ≡ pasted (d ++ drop (2 * p.half) s) (2 * p.half) (data_of p.half (e ++ drop (2 * p.half) o)) → s' ≡ with_both p.half within s
    stages_made some d e s' ed ee made =
        let lens = run_long (xs, data_of p.half o) samples (length-take-le (2 * p.half) o other) in
        let ld : length d ≡ 2 * p.half = ap length ed ∙ lens.0 in
        let le : length e ≡ 2 * p.half = ap length ee ∙ lens.1 in
        made ∙ ap (pasted (d ++ drop (2 * p.half) s) (2 * p.half)) (front_data p.half e o le) ∙ both_pasted p.half d s ld e le
        ∙ ap₂ (λ (u v : List Float). with_both p.half (u, v) s) ed ee
        ∙ ap (λ (b : Two Float). with_both p.half b s) (driven_pad (stage_in p W tw) xs (data_of p.half o) (pad_of p.half s) p.count some)

    -- without a stage nothing is made
    nothing : p.count ≡ 0 → (b : Two Float) → run_of p W tw b ≡ b
    nothing none b = ap (λ (n : ℕ). driven (stage_in p W tw) n b) none ∙ driven_none (stage_in p W tw) b

    pub stages_none : p.count ≡ 0 → (d : List Float) → d ≡ beside.0 → d ++ drop (2 * p.half) s ≡ with_both p.half within s
    stages_none none d ed =
        let same : d ≡ xs = ed ∙ ap (λ (b : Two Float). b.0) (nothing none (xs, data_of p.half o)) in
        ap (λ (u : List Float). u ++ drop (2 * p.half) s) same ∙ data_replaced p.half xs s
        ∙ ap (λ (b : Two Float). with_both p.half b s) (sym (nothing none (xs, pad_of p.half s)))

    -- the other buffer does for the Scratchpad, if a stage ran
    pub within_beside : (t : Bool) → ltb 0 p.count ≡ t → (d e : List Float) → d ≡ beside.0 → e ≡ beside.1
        → (d ≡ within.0) × (cond t e (pad_of p.half s) ≡ within.1)
    within_beside true some d e ed ee =
        let same = driven_pad (stage_in p W tw) xs (data_of p.half o) (pad_of p.half s) p.count (ltb-true 0 p.count some) in
        (ed ∙ ap (λ (b : Two Float). b.0) same, ee ∙ ap (λ (b : Two Float). b.1) same)
    within_beside false none d e ed ee =
        let zero : p.count ≡ 0 = omega (arith, ltb-false 0 p.count none) in (
          ed ∙ ap (λ (b : Two Float). b.0) (nothing zero (xs, data_of p.half o)) ∙ ap (λ (b : Two Float). b.0) (sym (nothing zero (xs, pad_of p.half s))),
          ap (λ (b : Two Float). b.1) (sym (nothing zero (xs, pad_of p.half s))),
        )
