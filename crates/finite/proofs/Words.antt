-- Laws of sizes of words: what a scan tells of a row, its cells, and what a run of stages leaves in both buffers. Assumes nothing.
use Rattle.sequences.proofs.Basics.{◌≡◌, refl, sym, subst, ℕ, zero, suc, ◌+◌, ◌*◌, ◌%◌, ◌≤◌, ◌<◌, le_of_lt, arith, Bool, true, false, List, [], ◌∷◌, eqb, lit≤}
use Rattle.sequences.proofs.Basics.{length, get_or, eqb-false, eqb-true}
use lib.Ieee.{Float, nan}
use Rattle.counts.specs.Counts.{radix, stride}
use Rattle.plan.specs.Record.{is_planned}
use Rattle.plan.specs.declared.Record.{Record}
use Rattle.schedule.specs.Buffers.{Two, across, alternated, copied_by, driven}
use Rattle.schedule.specs.Plans.{in_use}
use Rattle.schedule.specs.Stage.{plain, stage}
use Rattle.schedule.proofs.Buffers.{both_long}
use Rattle.schedule.proofs.Cells.{length_stage}
use Rattle.floats.specs.Complexes.{cell, paired, flat}
use Rattle.scan.specs.Scan.{fits, first_unfit}
use Rattle.floats.specs.declared.complex.Complex.{Complex}
use Rattle.floats.proofs.Flat.{get_paired}
use Rattle.scan.proofs.Scan.{all_pass}
use Rattle.kernel.specs.Floats.{floats}
use Rattle.stage.specs.Runs.{own_of, stage_in, run_of, lent_to}
use Rattle.stage.proofs.Runs.{length_made}
use Rattle.stage.proofs.Same.{stage_lent}
use Rattle.finite.specs.Sizes.{AtMost, Both, Words}
use Rattle.finite.proofs.Sizes.{fits_most, most_shifted}
use Rattle.finite.proofs.Stages.{All, Ones, stage_all}

-- ---- what a scan tells

pub scan_words : (k : ℕ) (xs : List Float) → length xs ≤ first_unfit k xs → Words k xs
unfolding first_unfit
scan_words k xs l i li = fits_most k (get_or xs i nan) (all_pass (fits k) xs l i li)

-- ---- cells and words

-- a cell of a row
pub cell_both : (k : ℕ) (xs : List Float) → Words k xs → (n : ℕ) → 2 * n + 1 < length xs → Both 1 k (cell xs n)
cell_both k xs w n l = record { re = w (2 * n) (omega arith); im = w (2 * n + 1) l }

pub words_cells : (k h : ℕ) (xs : List Float) → length xs ≡ 2 * h → Words k xs → All 1 k h (paired xs)
words_cells k h xs e w n ln = subst (Both 1 k) (sym (get_paired xs n (omega arith))) (record { re = w (2 * n) (omega arith); im = w (2 * n + 1) (omega arith) })

pub cells_words : (k : ℕ) (zs : List Complex) → All 1 k (length zs) zs → Words k (flat zs)
unfolding flat
cells_words k [] w i li = absurd (omega arith)
cells_words k (z ∷ zs) w zero li = (w 0 (omega arith)).re
cells_words k (z ∷ zs) w (suc zero) li = (w 0 (omega arith)).im
cells_words k (z ∷ zs) w (suc (suc i)) li = cells_words k zs (λ n ln. w (suc n) (omega arith)) i (omega arith)

-- ---- a stage and a run, word by word

-- a stage makes as many cells as the plan has
pub stage_cells : (p : Record) (lent : ℕ → ℕ → ℕ → Complex) (j : ℕ) (xs : List Complex) → length (stage plain (floats lent) p.half (in_use p) j xs) ≡ p.half
unfolding stage
stage_cells p lent j xs = length_stage plain (floats lent) j p.half (stride (in_use p) j) (radix (in_use p) j) xs

module _ (p : Record) (planned : is_planned p ≡ true) (W : ℕ) (some : 0 < W) (tw : List Float) (ones : Ones p (lent_to p W tw)) where
  stage_words_lem : (j k : ℕ) → j < p.count → k ≤ 121 → (xs : List Float) → length xs ≡ 2 * p.half → Words k xs → Words (k + 5) (stage_in p W tw j xs)
  stage_words_lem j k l few xs e w =
      let made = stage plain (floats (lent_to p W tw)) p.half (in_use p) j (paired xs) in
      let sized = stage_all p planned (lent_to p W tw) j k l few (λ later. ones j later l) (paired xs) (words_cells k p.half xs e w) in
      subst (Words (k + 5)) (sym (stage_lent p planned W some tw j l xs))
      (cells_words (k + 5) made (λ n ln. sized n (rw (stage_cells p (lent_to p W tw) j (paired xs)) at ln)))

  -- both buffers after n stages: Data, and the Scratchpad once it is written
  both_words : (k : ℕ) (b : Two Float) → length b.0 ≡ 2 * p.half → length b.1 ≡ 2 * p.half → Words k b.0 → (n : ℕ) → n ≤ p.count → k + 5 * n ≤ 121
      → Words (k + 5 * n) (alternated (stage_in p W tw) n b).0 × (0 < n → Words (k + 5 * n) (alternated (stage_in p W tw) n b).1)
  unfolding alternated
  both_words k b l m w zero ln few = (subst (λ (a : ℕ). Words a b.0) (omega arith) w, λ z. absurd (omega arith))
  both_words k b l m w (suc n) ln few = go (eqb (n % 2) 0) refl (both_words k b l m w n (le_of_lt ln) (omega arith))
      (both_long (stage_in p W tw) b (2 * p.half) (λ j zs. length_made p j W (own_of p tw j) zs) l m n)
    where
      more : k + 5 * n + 5 ≡ k + 5 * suc n
      more = omega arith

      up : (xs : List Float) → Words (k + 5 * n) xs → Words (k + 5 * suc n) xs
      up xs v i li = subst (λ (a : ℕ). AtMost 1 a (get_or xs i nan)) more (most_shifted 1 (k + 5 * n) 5 (get_or xs i nan) (lit≤ tt) (v i li))

      next : (xs : List Float) → length xs ≡ 2 * p.half → Words (k + 5 * n) xs → Words (k + 5 * suc n) (stage_in p W tw n xs)
      next xs e v = subst (λ (a : ℕ). Words a (stage_in p W tw n xs)) more (stage_words_lem n (k + 5 * n) ln (omega arith) xs e v)

      go : (t : Bool) → eqb (n % 2) 0 ≡ t → Words (k + 5 * n) (alternated (stage_in p W tw) n b).0
          × (0 < n → Words (k + 5 * n) (alternated (stage_in p W tw) n b).1)
          → (length (alternated (stage_in p W tw) n b).0 ≡ 2 * p.half) × (length (alternated (stage_in p W tw) n b).1 ≡ 2 * p.half)
          → Words (k + 5 * suc n) (across t (stage_in p W tw n) (alternated (stage_in p W tw) n b)).0
          × (0 < suc n → Words (k + 5 * suc n) (across t (stage_in p W tw n) (alternated (stage_in p W tw) n b)).1)
      go true e v lens = (up (alternated (stage_in p W tw) n b).0 v.0, λ z. next (alternated (stage_in p W tw) n b).0 lens.0 v.0)
      go false e v lens =
          let odd : 0 < n = later n (eqb-false (n % 2) 0 e) in
          (next (alternated (stage_in p W tw) n b).1 lens.1 (v.1 odd), λ z. up (alternated (stage_in p W tw) n b).1 (v.1 odd))
        where
          later : (n : ℕ) → (n % 2 ≡ 0 → ⊥) → 0 < n
          later zero f = absurd (f refl)
          later (suc n) f = omega arith

  -- and after all of them
  pub run_words : (k : ℕ) (b : Two Float) → length b.0 ≡ 2 * p.half → length b.1 ≡ 2 * p.half → Words k b.0 → k + 5 * p.count ≤ 121
      → Words (k + 5 * p.count) (run_of p W tw b).0 × (0 < p.count → Words (k + 5 * p.count) (run_of p W tw b).1)
  unfolding driven
  run_words k b l m w few = go (eqb p.count 1) refl (both_words k b l m w p.count (omega arith) few)
    where
      go : (t : Bool) → eqb p.count 1 ≡ t → Words (k + 5 * p.count) (alternated (stage_in p W tw) p.count b).0
          × (0 < p.count → Words (k + 5 * p.count) (alternated (stage_in p W tw) p.count b).1)
          → Words (k + 5 * p.count) (copied_by t (alternated (stage_in p W tw) p.count b)).0
          × (0 < p.count → Words (k + 5 * p.count) (copied_by t (alternated (stage_in p W tw) p.count b)).1)
      go true e v = let one = eqb-true p.count 1 e in (v.1 (omega arith), v.1)
      go false e v = v
