-- Laws of a run: its stages find what they ask for, and leave h remainders. Assumes nothing.
use Rattle.sequences.proofs.Basics.{◌≡◌, ap, ◌∙◌, ℕ, zero, suc, ◌%◌, ◌<◌, ◌≤◌, le_of_lt, mod-lt, arith, true, List, eqb, length}
use Rattle.sequences.proofs.Basics.{eq-eqb, ne_eqb}
use Rattle.counts.specs.Counts.{radix, stride}
use Rattle.plan.specs.Record.{is_planned}
use Rattle.plan.specs.declared.Record.{Record}
use Rattle.plan.proofs.Bounds.{plan_radix_bounds}
use Rattle.schedule.specs.Buffers.{alternated}
use Rattle.schedule.specs.Plans.{in_use}
use Rattle.schedule.specs.Stage.{plain, total, output, stage_by, stage, run}
use Rattle.schedule.proofs.Cells.{length_stage}
use Rattle.sequences.proofs.Tables.{get_d_tabulate}
use Rattle.schedule.proofs.Buffers.{source_by, source_run, both_long}
use Rattle.schedule.proofs.Plans.{use-radix}
use Rattle.residues.specs.Parts.{Workable}
use Rattle.residues.specs.Residues.{residues, stage_of, Under}

-- a sum of two terms or more is a remainder
total_under : (m w h r : ℕ) (x : ℕ → ℕ) (p q : ℕ) → 0 < m → 0 < q → total (residues m w h) r x p q < m
unfolding total residues
total_under m w h r x p zero pm l = absurd (omega arith)
total_under m w h r x p (suc q) pm l = mod-lt _ pm

module _ (p : Record) (m w : ℕ) where
  -- the schedule after j stages
  abbrev pub after : List ℕ → ℕ → List ℕ
  after xs j = run plain (residues m w p.half) p.half (in_use p) j xs

  -- a stage makes h cells
  pub stage_long : (k : ℕ) (zs : List ℕ) → length (stage_of p k m w zs) ≡ p.half
  unfolding stage
  stage_long k zs = length_stage plain (residues m w p.half) k p.half (stride (in_use p) k) (radix (in_use p) k) zs

  -- so both buffers stay as long as they are
  pub both_lengths : (xs ys : List ℕ) → length xs ≡ p.half → length ys ≡ p.half → (k : ℕ)
      → (length (alternated (λ j. stage_of p j m w) k (xs, ys)).0 ≡ p.half) × (length (alternated (λ j. stage_of p j m w) k (xs, ys)).1 ≡ p.half)
  both_lengths xs ys = both_long (λ j. stage_of p j m w) (xs, ys) p.half stage_long

  module _ (planned : is_planned p ≡ true) (pm : 0 < m) where
    -- which are remainders
    stage_under : (k : ℕ) → k < p.count → (zs : List ℕ) → Under m p.half (stage_of p k m w zs)
    unfolding stage stage_by output plain residues
    stage_under k l zs n ln = rw (get_d_tabulate {A = ℕ} p.half 0 _ n 0 ln)
        (total_under m w p.half _ _ _ _ pm (omega (arith, use-radix p planned k l, plan_radix_bounds p planned k l)))

    module _ (xs : List ℕ) (long : length xs ≡ p.half) (under : Under m (length xs) xs) where
      -- what j stages leave
      pub after_lent : (j : ℕ) → j ≤ p.count → (length (after xs j) ≡ p.half) × Under m (length (after xs j)) (after xs j)
      unfolding run
      after_lent zero l = (long, under)
      after_lent (suc j) l = let e = stage_long j (after xs j) in (e, rw e (stage_under j l (after xs j)))

-- the buffers d and s hold what k stages leave of xs and ys
abbrev pub Left : Record → (m w : ℕ) → (xs ys d s : List ℕ) → (k : ℕ) → Type 0
Left p m w xs ys d s k = let b = alternated (λ j. stage_of p j m w) k (xs, ys) in (d ≡ b.0) × (s ≡ b.1)

module _ {p : Record} {m w : ℕ} {xs : List ℕ} (ys : List ℕ) (h : Workable p m w xs (length ys)) (d s : List ℕ) (k : ℕ) (e : Left p m w xs ys d s k) where
  pub as_long : (length d ≡ p.half) × (length s ≡ p.half)
  as_long = let long = both_lengths p m w xs ys h.long h.wide k in (ap length e.0 ∙ long.0, ap length e.1 ∙ long.1)

  -- stage k reads what those before it made
  source : source_by (eqb (k % 2) 0) (alternated (λ j. stage_of p j m w) k (xs, ys)) ≡ after p m w xs k
  source = source_run plain (residues m w p.half) p.half (in_use p) (xs, ys) k

  module _ (l : k < p.count) where
    workable : (src : List ℕ) (n : ℕ) → src ≡ after p m w xs k → n ≡ p.half → Workable p m w src n × (k < p.count)
    workable src n f g =
        let made = after_lent p m w h.planned (omega (arith, h.modulus.two)) xs h.long h.cells k (le_of_lt l) in
        (record { planned = h.planned; modulus = h.modulus; base = h.base; long = rw f made.0; wide = g; cells = rw f made.1 }, l)

    pub even_workable : k % 2 ≡ 0 → Workable p m w d (length s) × (k < p.count)
    even_workable f = workable d _ (e.0 ∙ rw (eq-eqb (k % 2) 0 f) at source) as_long.1

    pub odd_workable : (k % 2 ≡ 0 → ⊥) → Workable p m w s (length d) × (k < p.count)
    odd_workable f = workable s _ (e.1 ∙ rw (ne_eqb (k % 2) 0 f) at source) as_long.0
