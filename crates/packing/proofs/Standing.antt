-- Where a stage's twiddles stand among those of all stages. Assumes nothing.
use Rattle.sequences.proofs.Basics.{◌≡◌, refl, ap, ap₂, ◌∙◌, ℕ, zero, suc, ◌+◌, ◌-◌, ◌*◌, ◌/◌, ◌<◌, ◌≤◌, arith, ℕ_discrete, List, ◌++◌, length, length-append}
use Rattle.sequences.proofs.Basics.{get_or-take}
use lib.Ieee.{Float}
use Rattle.sequences.specs.Pairs.{pair_at}
use Rattle.sequences.proofs.Pairs.{pair_before, pair_after}
use Rattle.counts.specs.Counts.{radix, stride, twiddle_count, twiddle_start}
use Rattle.plan.specs.declared.Record.{Record}
use Rattle.counts.proofs.Counts.{start_next, start_up}
use Rattle.schedule.specs.Plans.{in_use}
use Rattle.packing.specs.Places.{place}
use Rattle.packing.specs.Twiddles.{twiddle, stage_words, stages_words}
use Rattle.packing.proofs.Fill.{packed_at, length_packed}
use Rattle.packing.proofs.Places.{stands}

module _ (d : Float) (h : ℕ) (rs : List ℕ) (W : ℕ) where
  length_stage : (j : ℕ) → length (stage_words h rs W j) ≡ 2 * twiddle_count h rs j
  unfolding stage_words twiddle_count
  length_stage zero = refl
  length_stage (suc j) = length_packed (h / radix rs (suc j)) (radix rs (suc j)) W (twiddle (stride rs (suc j)) (radix rs (suc j)))

  length_stages : (n : ℕ) → length (stages_words h rs W n) ≡ 2 * twiddle_start h rs n
  unfolding stages_words twiddle_start
  length_stages zero = refl
  length_stages (suc j) = omega (arith, length-append (stages_words h rs W j) (stage_words h rs W j), length_stages j, length_stage j)

  -- what stands in stage j stands as far after the start of its words
  stage_at : (j q n : ℕ) → q < twiddle_count h rs j → j < n → pair_at d (stages_words h rs W n) (twiddle_start h rs j + q) ≡ pair_at d (stage_words h rs W j) q
  unfolding stages_words
  stage_at j q zero lq l = absurd (omega arith)
  stage_at j q (suc n) lq l = pick (ℕ_discrete j n) (stage_at j q n lq)
    where
      pick : Dec (j ≡ n) → (j < n → pair_at d (stages_words h rs W n) (twiddle_start h rs j + q) ≡ pair_at d (stage_words h rs W j) q)
          → pair_at d (stages_words h rs W n ++ stage_words h rs W n) (twiddle_start h rs j + q) ≡ pair_at d (stage_words h rs W j) q
      pick (yes e) f = rw (← e) (pair_after d (stages_words h rs W j) (stage_words h rs W j) (twiddle_start h rs j) q (length_stages j))
      pick (no e) f =
          let more : j + 1 + (n - (j + 1)) ≡ n = omega arith in
          let up : twiddle_start h rs (j + 1) ≤ twiddle_start h rs n = rw more at (start_up h rs (j + 1) (n - (j + 1))) in
          pair_before d (stages_words h rs W n) (stage_words h rs W n) (twiddle_start h rs j + q) (omega (arith, up, length_stages n, start_next h rs j))
          ∙ f (omega arith)

  -- twiddle k of iteration i of stage j
  pub twiddle_at : (n j i k : ℕ) → 0 < W → 1 ≤ j → j < n → i < h / radix rs j → 1 ≤ k → k < radix rs j
      → pair_at d (stages_words h rs W n) (twiddle_start h rs j + place (h / radix rs j) (radix rs j) W i k) ≡ twiddle (stride rs j) (radix rs j) i k
  unfolding stage_words twiddle_count
  twiddle_at n zero i k width later l li first last = absurd (omega arith)
  twiddle_at n (suc j) i k width later l li first last =
      let M = h / radix rs (suc j) in let r = radix rs (suc j) in
      stage_at (suc j) (place M r W i k) n (stands M r W width i k first last li).inside l
      ∙ packed_at d M r W width (twiddle (stride rs (suc j)) r) i k li first last

-- ---- the stages of a plan

-- the words of stage j start where the plan says
pub use-start : (p : Record) (j : ℕ) → j ≤ p.count → twiddle_start p.half (in_use p) j ≡ twiddle_start p.half p.radices j
unfolding twiddle_start twiddle_count radix in_use
use-start p zero l = refl
use-start p (suc j) l = ap₂ (λ (a b : ℕ). a + b) (use-start p j (omega arith)) (same j l)
  where
    same : (j : ℕ) → j < p.count → twiddle_count p.half (in_use p) j ≡ twiddle_count p.half p.radices j
    same zero l = refl
    same (suc j) l = ap (λ (r : ℕ). p.half / r * (r - 1)) (get_or-take p.count p.radices (suc j) 1 l)
