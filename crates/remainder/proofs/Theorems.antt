-- What the promises of the calls give: each stage call of a chain is accepted, after it every block holds the shorter sum, and after the
-- last the cells hold the discrete Fourier transform in remainders; the same of the buffer with the result after a run, which leaves in
-- both buffers what the calls, written alternately, leave there. The premise `Lent` asks for no more than the calls do. Assumes nothing.
use Rattle.sequences.proofs.Basics.{◌≡◌, refl, sym, ap, ap₂, ◌∙◌, ℕ, zero, suc, ◌%◌, ◌^◌, ◌<◌, ◌≤◌, le_of_lt, le_refl, mod-eq_of_lt, arith, Bool, true, false}
use Rattle.sequences.proofs.Basics.{List, eqb, eqb-true, length}
use Rattle.refusal.specs.Refusal.{Verdict}
use Rattle.refusal.specs.Refusal.{Accepted}
use Rattle.refusal.proofs.Rows.{settled}
use Rattle.counts.specs.Counts.{stride, result_in}
use Rattle.plan.specs.declared.Record.{Record}
use Rattle.schedule.specs.Buffers.{Two, across, alternated, copied_by, driven, held_in}
use Rattle.schedule.specs.Plans.{in_use}
use Rattle.schedule.specs.Stage.{run, plain}
use Rattle.schedule.proofs.Buffers.{source_by, source_run, held}
use Rattle.schedule.proofs.Plans.{use-length, use-product}
use Rattle.residues.specs.Residues.{residues, cells, stage_of, run_of}
use Rattle.residues.proofs.Iteration.{all_under}
use Rattle.residues.proofs.Runs.{after, after_lent, both_lengths}
use Rattle.remainder.specs.Calls.{Lent, Chain, Called, Alternately, Stages, Runs, stage_verdict}
use Rattle.remainder.specs.Sums.{transform, Blocks}
use Rattle.remainder.proofs.Blocks.{run_blocks, run_transform}
use Rattle.remainder.proofs.Verdicts.{stage_taken, run_taken}

module _ (p : Record) (m w : ℕ) (xs : List ℕ) (h : Lent p m w xs) where
  positive : 0 < m
  positive = omega (arith, h.modulus)

  circle : w ^ p.half % m ≡ 1 % m
  circle = h.circle ∙ sym (mod-eq_of_lt h.modulus)

  all : (k : ℕ) → k < p.half → cells xs k < m
  all k l = all_under m positive xs h.cells k

  -- what the stages before it wrote is accepted
  each_accepted : (j : ℕ) → j < p.count → stage_verdict p j m w (after p m w xs j) p.half ≡ Accepted
  each_accepted j l =
      let made = after_lent p m w h.planned positive xs h.long h.cells j (le_of_lt l) in
      let lent : Lent p m w (after p m w xs j) =
      record { planned = h.planned; modulus = h.modulus; base = h.base; circle = h.circle; long = made.0; cells = made.1 } in
      sym (stage_taken lent p.half refl j l)

  -- so a chain of calls leaves what the schedule states
  pub chain_after : (j : ℕ) → j ≤ p.count → (zs : List ℕ) → Chain p m w j xs zs → zs ≡ run plain (residues m w p.half) p.half (in_use p) j xs
  unfolding run
  chain_after zero l zs c = sym c
  chain_after (suc j) l zs (ys, (old, (r, (c, (e, s))))) =
      let same : ys ≡ after p m w xs j = chain_after j (le_of_lt l) ys c in
      let taken : stage_verdict p j m w ys (length old) ≡ Accepted = ap₂ (stage_verdict p j m w) same e ∙ each_accepted j l in
      settled _ _ _ _ _ s taken ∙ ap (stage_of p j m w) same

  -- each call of a chain is accepted
  pub call_accepted : (j : ℕ) → j < p.count → (ys old zs : List ℕ) (r : Verdict) → Chain p m w j xs ys → length old ≡ p.half → Stages p j m w ys old r zs
      → r ≡ Accepted
  call_accepted j l ys old zs r c e s = s.answer ∙ ap₂ (stage_verdict p j m w) (chain_after j (le_of_lt l) ys c) e ∙ each_accepted j l

  -- after stage calls 0 to j - 1 every block holds the shorter sum
  pub chain_blocks : (j : ℕ) → j ≤ p.count → (zs : List ℕ) → Chain p m w j xs zs → Blocks m w p.half (stride (in_use p) j) (cells xs) (cells zs)
  chain_blocks j l zs c = rw (chain_after j l zs c)
      (run_blocks m w p.half circle (in_use p) (use-product p h.planned) xs all j (rw (use-length p h.planned) l))

  last_transform : (k : ℕ) → k < p.half → cells (after p m w xs p.count) k ≡ transform m w p.half (cells xs) k
  last_transform = rw (use-length p h.planned) at (run_transform m w p.half circle (in_use p) (use-product p h.planned) xs all)

  -- after the last, cell k holds the remainder of the sum of x(j) * w^(jk)
  pub chain_transform : (zs : List ℕ) → Chain p m w p.count xs zs → (k : ℕ) → k < p.half → cells zs k ≡ transform m w p.half (cells xs) k
  chain_transform zs c k l = rw (chain_after p.count (le_refl p.count) zs c) (last_transform k l)

  -- a run with a scratchpad of h cells is accepted
  pub run_accepts : (ys : List ℕ) → length ys ≡ p.half → (r : Verdict) (b : Two ℕ) → Runs p m w (xs, ys) r b → r ≡ Accepted
  run_accepts ys e r b s = s.answer ∙ sym (run_taken h (length ys) e)

  -- what it makes of the buffer with the result is the transform
  result_transform : (ys : List ℕ) (k : ℕ) → k < p.half → cells (held_in (result_in p.count) (run_of p m w (xs, ys))) k ≡ transform m w p.half (cells xs) k
  unfolding driven result_in
  result_transform ys k l = rw (
    held (eqb p.count 1) (eqb (p.count % 2) 0) (alternated (λ j. stage_of p j m w) p.count (xs, ys))
        (λ e. ap (λ (n : ℕ). eqb (n % 2) 0) (eqb-true p.count 1 e)),
    source_run plain (residues m w p.half) p.half (in_use p) (xs, ys) p.count,
  ) (last_transform k l)

  -- after it the buffer with the result holds the transform
  pub run_transforms : (ys : List ℕ) → length ys ≡ p.half → (r : Verdict) (b : Two ℕ) → Runs p m w (xs, ys) r b
      → (k : ℕ) → k < p.half → cells (held_in (result_in p.count) b) k ≡ transform m w p.half (cells xs) k
  run_transforms ys e r b s k l = ap (λ (c : Two ℕ). cells (held_in (result_in p.count) c) k) (settled _ _ _ _ _ s (sym (run_taken h (length ys) e)))
      ∙ result_transform ys k l

  -- stage calls written alternately leave what the stages do
  alternates : (ys : List ℕ) → length ys ≡ p.half → (k : ℕ) → k ≤ p.count → (b : Two ℕ) → Alternately p m w k (xs, ys) b
      → b ≡ alternated (λ j. stage_of p j m w) k (xs, ys)
  unfolding alternated
  alternates ys e zero l b a = sym a
  alternates ys e (suc k) l b (c, (r, (a, called))) = go (eqb (k % 2) 0) refl (rw (alternates ys e k (le_of_lt l) c a) at called)
    where
      stages : Two ℕ
      stages = alternated (λ j. stage_of p j m w) k (xs, ys)

      long : (length stages.0 ≡ p.half) × (length stages.1 ≡ p.half)
      long = both_lengths p m w xs ys h.long e k

      taken : (t : Bool) → eqb (k % 2) 0 ≡ t → (n : ℕ) → n ≡ p.half → stage_verdict p k m w (source_by t stages) n ≡ Accepted
      taken t f n g = ap₂ (stage_verdict p k m w) (rw f at (source_run plain (residues m w p.half) p.half (in_use p) (xs, ys) k)) g ∙ each_accepted k l

      go : (t : Bool) → eqb (k % 2) 0 ≡ t → Called t p k m w stages r b → b ≡ across t (stage_of p k m w) stages
      go true f (kept, s) = ap₂ (λ (d q : List ℕ). (d, q)) kept (settled _ _ _ _ _ s (taken true f _ long.1))
      go false f (kept, s) = ap₂ (λ (d q : List ℕ). (d, q)) (settled _ _ _ _ _ s (taken false f _ long.0)) kept

  -- a run leaves in both buffers what the stage calls, written alternately, leave there; then a single radix is copied back
  pub run_alternates : (ys : List ℕ) → length ys ≡ p.half → (r : Verdict) (b c : Two ℕ) → Runs p m w (xs, ys) r b → Alternately p m w p.count (xs, ys) c
      → b ≡ copied_by (eqb p.count 1) c
  unfolding driven
  run_alternates ys e r b c s a =
      settled _ _ _ _ _ s (sym (run_taken h (length ys) e)) ∙ ap (copied_by (eqb p.count 1)) (sym (alternates ys e p.count (le_refl p.count) c a))
