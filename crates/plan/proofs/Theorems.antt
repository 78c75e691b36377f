-- What is true of every accepted list: what merging keeps, how many merges there are, what is left, and that the record depends on n alone.
-- Assumes nothing.
use Rattle.sequences.proofs.Basics.{◌≡◌, refl, sym, ap, ◌∙◌, ℕ, zero, suc, ◌+◌, ◌*◌, ◌/◌, ◌%◌, ◌^◌, ◌<◌, ◌≤◌, arith, true, cond, ◌⊎◌, List, eqb}
use Rattle.refusal.specs.Refusal.{Accepted}
use Rattle.radices.specs.Lists.{product, count_of}
use Rattle.halving.specs.Half.{half}
use Rattle.merging.specs.Merging.{tally, applies, merge, sorted}
use Rattle.merging.specs.declared.inner.merging.Tally.{Tally}
use Rattle.merging.specs.declared.inner.merging.Rule.{Rule}
use Rattle.plan.specs.Record.{plan_verdict, factors, merges_of, record_of}
use Rattle.merging.proofs.Merging.{exponent, applied_keeps, merged_leaves, merged_closed, merges_few}
use Rattle.merging.proofs.Weights.{tally_sorted, product_sorted, product_tally, exponent_is}
use Rattle.plan.proofs.Records.{accepted_good, good_halved, merged_product, weight_keeps, stages, record_by_n}

-- at most one of a and b, and a + 2b known
low_is : (a b n : ℕ) → a + b ≤ 1 → a + 2 * b ≡ n → (a ≡ cond (eqb n 1) 1 0) × (b ≡ cond (eqb n 2) 1 0)
low_is zero zero n h e = rw (← e) (refl, refl)
low_is (suc zero) zero n h e = rw (← e) (refl, refl)
low_is zero (suc zero) n h e = rw (← e) (refl, refl)
low_is (suc a) (suc b) n h e = absurd (omega arith)
low_is zero (suc (suc b)) n h e = absurd (omega arith)
low_is (suc (suc a)) zero n h e = absurd (omega arith)

-- each single merge, by any rule that applies, keeps the product and the counts of 3, 5 and 7
pub each_merge_keeps : (r : Rule) (t : Tally) → applies r t ≡ true
    → (product (sorted (merge r t)) ≡ product (sorted t)) × (((merge r t).threes ≡ t.threes)
    × (((merge r t).fives ≡ t.fives) × ((merge r t).sevens ≡ t.sevens)))
each_merge_keeps r t e =
    let k = applied_keeps r t e in
    (product_sorted (merge r t) ∙ weight_keeps k ∙ sym (product_sorted t), (k.threes, (k.fives, k.sevens)))

module _ (xs : List ℕ) (accepted : plan_verdict xs ≡ Accepted) where
  -- the half list has half the product
  pub half_product : 2 * product (half xs) ≡ product xs
  half_product = (good_halved xs (accepted_good xs accepted)).twice

  -- merging keeps the product
  pub keeps_product : product (factors xs) ≡ product (half xs)
  unfolding factors
  keeps_product = merged_product (half xs) (good_halved xs (accepted_good xs accepted)).radices

  -- and the counts of 3, 5 and 7
  pub keeps_threes : count_of 3 (factors xs) ≡ count_of 3 (half xs)
  unfolding factors tally
  keeps_threes = ap (λ (t : Tally). t.threes) (tally_sorted (stages xs)) ∙ (merged_leaves (tally (half xs))).keeps.threes

  pub keeps_fives : count_of 5 (factors xs) ≡ count_of 5 (half xs)
  unfolding factors tally
  keeps_fives = ap (λ (t : Tally). t.fives) (tally_sorted (stages xs)) ∙ (merged_leaves (tally (half xs))).keeps.fives

  pub keeps_sevens : count_of 7 (factors xs) ≡ count_of 7 (half xs)
  unfolding factors tally
  keeps_sevens = ap (λ (t : Tally). t.sevens) (tally_sorted (stages xs)) ∙ (merged_leaves (tally (half xs))).keeps.sevens

  -- the number of merges is 0, or below the number of 2s and 4s in the half list
  pub few_merges : (merges_of xs ≡ 0) ⊎ (merges_of xs < count_of 2 (half xs) + count_of 4 (half xs))
  unfolding tally
  few_merges = merges_few (tally (half xs))

  -- with e the exponent of 2 in half the length, u being odd
  module _ (e u : ℕ) (made : product (half xs) ≡ 2 ^ e * u) (odd : u % 2 ≡ 1) where
    the_exponent : exponent (tally (half xs)) ≡ e
    the_exponent = exponent_is (tally (half xs)) e u (sym (product_tally (half xs) (good_halved xs (accepted_good xs accepted)).radices) ∙ made) odd

    -- e div 3 eights
    pub eights_left : count_of 8 (factors xs) ≡ e / 3
    unfolding factors tally
    eights_left = ap (λ (t : Tally). t.eights) (tally_sorted (stages xs)) ∙ (merged_closed (tally (half xs))).eights ∙ ap (λ (n : ℕ). n / 3) the_exponent

    rest_left : count_of 2 (factors xs) + 2 * count_of 4 (factors xs) ≡ e % 3
    unfolding factors tally
    rest_left = ap (λ (t : Tally). t.twos + 2 * t.fours) (tally_sorted (stages xs)) ∙ (merged_closed (tally (half xs))).rest
        ∙ ap (λ (n : ℕ). n % 3) the_exponent

    one_left : count_of 2 (factors xs) + count_of 4 (factors xs) ≤ 1
    unfolding factors tally
    one_left = rw (ap (λ (t : Tally). t.twos + t.fours) (tally_sorted (stages xs))) (merged_closed (tally (half xs))).one

    -- one 2 if e mod 3 is 1, one 4 if it is 2
    pub two_left : (count_of 2 (factors xs) ≡ cond (eqb (e % 3) 1) 1 0) × (count_of 4 (factors xs) ≡ cond (eqb (e % 3) 2) 1 0)
    two_left = low_is (count_of 2 (factors xs)) (count_of 4 (factors xs)) (e % 3) one_left rest_left

-- the record depends on n alone
pub record_depends_on_n : (xs ys : List ℕ) → plan_verdict xs ≡ Accepted → plan_verdict ys ≡ Accepted → product xs ≡ product ys → record_of xs ≡ record_of ys
record_depends_on_n xs ys p q e = record_by_n xs ys (accepted_good xs p) (accepted_good ys q) e
