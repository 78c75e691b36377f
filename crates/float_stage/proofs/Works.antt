-- Laws of the work of a stage: what an accepted plan gives its parts, and that they make the stage. Assumes nothing.
use Rattle.sequences.proofs.Basics.{◌≡◌, refl, sym, ap, ◌∙◌, ℕ, ◌*◌, ◌/◌, ◌≤◌, ◌<◌, le_of_lt, div-mul-le_self, div-le_self, arith, true, false, List, eqb}
use Rattle.sequences.proofs.Basics.{length, get_or, eq-eqb, ne_eqb}
use lib.Ieee.{Float}
use Rattle.counts.specs.Counts.{stride}
use Rattle.plan.specs.declared.Record.{Record}
use Rattle.plan.proofs.Bounds.{plan_half, plan_radix, plan_radix_bounds, plan_later}
use Rattle.counts.proofs.Counts.{count_later, stride_none}
use Rattle.schedule.specs.Stage.{index, plain, stage_by, stage}
use Rattle.schedule.proofs.Cells.{index_lt}
use Rattle.schedule.proofs.Fill.{done_stage}
use Rattle.schedule.proofs.Plans.{use-radix, use-stride, found_stride, found_parts, found_whole}
use Rattle.floats.specs.Complexes.{paired, flat}
use Rattle.floats.proofs.Flat.{get_paired, length_paired, flat_paired}
use Rattle.floats.specs.declared.complex.Complex.{Complex}
use Rattle.kernel.specs.Floats.{floats, lent_at, stage_of}
use Rattle.kernel.specs.Parts.{lent_by, output_of, Sized}
use Rattle.storing.specs.Parts.{Done, Blocks}
use Rattle.float_stage.specs.Parts.{Lending, Workable}
use Rattle.kernel.proofs.Kernel.{output_same}

-- all outputs in their cells make the stage
staged : (h n s r j : ℕ) → h ≡ n * (s * r) → 0 < s → 0 < r → (lent : ℕ → ℕ → Complex) (src dst : List Float) → length src ≡ 2 * h → length dst ≡ 2 * h
    → Done s r (output_of (eqb j 0) (h / r) r src lent) dst (h / r) → dst ≡ flat (stage_by plain (lent_by lent) j h s r (paired src))
unfolding floats
staged h n s r j parts ps pr lent src dst ls ld done = sym (flat_paired h dst ld) ∙ ap flat
    (done_stage plain (lent_by lent) j h n s r parts ps pr (paired src) (paired dst) (length_paired h dst ld) (λ i p li lp.
    get_paired dst (index s r i p) (omega (arith, index_lt s r i p ps lp h n parts li)) ∙ done i p li lp
    ∙ output_same lent j h s r src _ (λ k lk. sym (get_paired src k (omega arith))) i li p pr))

module _ (p : Record) (j W ns nt nd : ℕ) (k : Workable p j W ns nt nd) where
  -- the radix and the stride
  abbrev r : ℕ
  r = get_or p.radices j 0

  abbrev s : ℕ
  s = stride p.radices j

  bounds : (2 ≤ r) × (r ≤ 8)
  bounds = plan_radix_bounds p k.planned j k.known

  stride_some : 0 < s
  stride_some = found_stride p k.planned j k.known

  pub work_sized : Sized (p.half / r) r ns
  work_sized =
      record {
        radix = plan_radix p k.planned j k.known;
        some = bounds.0;
        few = bounds.1;
        source = omega (arith, div-mul-le_self p.half r, k.source);
      }

  pub work_room : 2 * (p.half / r * r) ≤ nd
  work_room = omega (arith, div-mul-le_self p.half r, k.target)

  pub work_lending : (j ≡ 0 → ⊥) → Lending (p.half / r) r nt 224
  work_lending later =
      record {
        later = plan_later p k.planned j later k.known;
        few = bounds.1;
        small = omega (arith, div-le_self p.half r, plan_half p k.planned);
        lent = omega (arith, k.lent, count_later p k.planned j later k.known);
        local = refl;
      }

  pub work_blocks : Blocks (p.half / r) s r nd
  work_blocks =
      record { stride = stride_some; some = omega (arith, bounds); few = bounds.1; whole = found_whole p k.planned j k.known; room = work_room }

  module _ (src tw dst : List Float) (ls : length src ≡ ns) (ld : length dst ≡ nd) where
    made : Done s r (output_of (eqb j 0) (p.half / r) r src (lent_at (p.half / r) r W tw)) dst (p.half / r) → dst ≡ stage_of p j W tw src
    unfolding stage_of stage
    made done = rw (use-stride p k.planned j (le_of_lt k.known), use-radix p k.planned j k.known)
        (staged p.half _ s r j (found_parts p k.planned j k.known) stride_some (omega (arith, bounds))
        (lent_at (p.half / r) r W tw) src dst (ls ∙ k.source) (ld ∙ k.target) done)

    pub first_made : j ≡ 0 → ((lent : ℕ → ℕ → Complex) → Done 1 r (output_of true (p.half / r) r src lent) dst (p.half / r)) → dst ≡ stage_of p j W tw src
    first_made e done =
        let one : s ≡ 1 = ap (stride p.radices) e ∙ sym (stride_none p.radices) in
        made (rw (eq-eqb j 0 e, one) (done (lent_at (p.half / r) r W tw)))

    pub later_made : (j ≡ 0 → ⊥) → Done s r (output_of false (p.half / r) r src (lent_at (p.half / r) r W tw)) dst (p.half / r) → dst ≡ stage_of p j W tw src
    later_made e done = made (rw (ne_eqb j 0 e) done)
