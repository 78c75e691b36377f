-- Laws of planning: the answer put together, and the verdict on a record. Assumes nothing.
use Rattle.sequences.proofs.Basics.{◌≡◌, refl, ap, ◌∙◌, ℕ, ◌/◌, ◌≤◌, arith, List, length, take}
use Rattle.refusal.specs.declared.Refusal.{Refusal}
use Rattle.std.specs.Prelude.{Ok, Err}
use Rattle.refusal.specs.Refusal.{Accepted, Refused}
use Rattle.refusal.proofs.Rows.{refuses, grants}
use Rattle.radices.specs.declared.Radices.{Radices}
use Rattle.plan.specs.declared.Planned.{Planned}
use Rattle.merging.specs.declared.inner.merging.Tally.{Tally}
use Rattle.merging.specs.declared.inner.merging.Merged.{Merged}
use Rattle.radices.specs.Lists.{product, padded, listed}
use Rattle.halving.specs.Half.{half}
use Rattle.merging.specs.Merging.{tally, total, sorted, merge_all}
use Rattle.plan.specs.Record.{plan_verdict, factors, record_of, accepted_plan, planned}
use Rattle.radices.proofs.Lists.{length_padded}
use Rattle.merging.proofs.Merging.{merged_leaves}
use Rattle.merging.proofs.Weights.{total_few}
use Rattle.plan.proofs.Records.{Good, good_few, good_halved, take_padded}

-- ---- the answer

pub answer_refused : (xs : List ℕ) (why : Refusal) → Refused why ≡ plan_verdict xs → Err why ≡ planned xs
unfolding planned
answer_refused xs why e = refuses _ _ why e

pub answer_accepted : (xs : List ℕ) (r : Planned) → r ≡ accepted_plan xs → Accepted ≡ plan_verdict xs → Ok r ≡ planned xs
unfolding planned
answer_accepted xs r p e = grants _ _ r e p

-- the half list as the array holds it
module _ (xs : List ℕ) (g : Good xs) (h : Radices) (e : h ≡ listed (half xs)) where
  half_few : length (half xs) ≤ 13
  half_few = omega (arith, good_few xs g, (good_halved xs g).fewer)

  pub half_fits : h.count ≤ length h.entries
  unfolding listed
  half_fits = rw e (omega (arith, length_padded (half xs) half_few, half_few))

  pub half_used : take h.count h.entries ≡ half xs
  unfolding listed
  half_used = rw e (take_padded (half xs) (length (half xs)) refl)

  module _ (t : Tally) (f : t ≡ tally (take h.count h.entries)) where
    pub half_tally : t ≡ tally (half xs)
    half_tally = f ∙ ap tally half_used

    pub half_total : total t ≤ 13
    half_total = rw half_tally (omega (arith, total_few (half xs), half_few))

    pub merged_total : (m : Merged) → m ≡ merge_all t → total m.tally ≤ 13
    unfolding merge_all
    merged_total m p = rw p (omega (arith, half_total, (merged_leaves t).keeps.fewer))

    pub answer_made : (m : Merged) → m ≡ merge_all t → (n k : ℕ) (rs : List ℕ) → n ≡ product xs → k ≡ length (sorted m.tally)
        → rs ≡ padded (sorted m.tally)
        → ◌≡◌ {A = Planned} (record { plan = record { n = n; half = n / 2; count = k; radices = rs }; merges = m.merges })
        (accepted_plan xs)
    unfolding accepted_plan record_of factors merge_all
    answer_made m p n k rs q u v = rw (u, v, q, p, half_tally)
