-- Wrong programs that the promises of planning shut out: merge counts and twiddle counts made up. Assumes nothing.
use Rattle.sequences.proofs.Basics.{◌≡◌, refl, sym, ap, ◌∙◌, subst, ℕ, arith, List, [], ◌∷◌}
use Rattle.counts.specs.Counts.{radix, twiddle_count, twiddle_start, stage_twiddles, end_count, record_verdict, CountsStage, CountsEnd}
use Rattle.halving.specs.Half.{halving, halved, half}
use Rattle.radices.specs.Lists.{is_radix, product, first_bad, index_of, first_over, count_of, padded, eq_list}
use Rattle.sequences.specs.Lists.{first_that}
use Rattle.merging.specs.Merging.{tally, applies, merge, first_rule, rules_up_to, rules, merged_by, merged, letters, sorted, marked}
use Rattle.plan.specs.Record.{plan_verdict, factors, record_of, accepted_plan, planned, Plans, in_order, sized, is_planned}
use Rattle.std.specs.Prelude.{Result, Ok, IfOk, IsOkAnd}
use Rattle.refusal.specs.declared.Refusal.{Refusal}
use Rattle.refusal.specs.Refusal.{granted}
use Rattle.plan.specs.declared.Planned.{Planned}

-- ---- merges

merges_2222 : (a : Planned) × (planned (2 ∷ 2 ∷ 2 ∷ 2 ∷ []) ≡ Ok a) × (a.merges.count ≡ 1)
unfolding planned plan_verdict first_bad first_that is_radix first_over product accepted_plan half halving halved index_of tally count_of rules
    rules_up_to first_rule
    applies merge letters marked
merges_2222 = (_, refl, refl)

merges_4444 : (a : Planned) × (planned (4 ∷ 4 ∷ 4 ∷ 4 ∷ []) ≡ Ok a) × (a.merges.count ≡ 2)
unfolding planned plan_verdict first_bad first_that is_radix first_over product accepted_plan half halving halved index_of tally count_of rules
    rules_up_to first_rule
    applies merge letters marked
merges_4444 = (_, refl, refl)

-- two values of one answer are one
same_ok : {A : Type 0} {a b : A} (r : Result A Refusal) → Ok a ≡ r → r ≡ Ok b → a ≡ b
same_ok r e f = let g = e ∙ f in cc

-- an answer that is n, and c where it is a number
meets : {A : Type 0} (count : A → ℕ) (r : Result A Refusal) (a : A) (c : ℕ) → r ≡ Ok a → IfOk r (λ b. count b ≡ c) → count a ≡ c
meets {A} count r a c e f = subst (λ (q : Result A Refusal). IfOk q (λ b. count b ≡ c)) e f

-- one count of merges for every list
pub one_merge_count : (c : ℕ) (r s : Result Planned Refusal) → Plans (2 ∷ 2 ∷ 2 ∷ 2 ∷ []) r → Plans (4 ∷ 4 ∷ 4 ∷ 4 ∷ []) s
    → IfOk r (λ a. a.merges.count ≡ c) → IfOk s (λ b. b.merges.count ≡ c) → ⊥
one_merge_count c r s p q e f =
    let one : merges_2222.0.merges.count ≡ c = meets (λ (a : Planned). a.merges.count) r merges_2222.0 c (p.answer ∙ merges_2222.1) e in
    let two : merges_4444.0.merges.count ≡ c = meets (λ (a : Planned). a.merges.count) s merges_4444.0 c (q.answer ∙ merges_4444.1) f in
    omega (arith, one, two, merges_2222.2, merges_4444.2)

-- ---- twiddles

-- the stages of every promised plan of the list have so many twiddles, and its ends so many
pub record Counts (list : List ℕ) (stage end : ℕ) : Type 0 where
  pub planned : (r : Result Planned Refusal) → Plans list r → (a : Planned) × (r ≡ Ok a)
  pub stages : (a : Planned) → Plans list (Ok a) → (r : Result ℕ Refusal) → CountsStage a.plan r → r ≡ Ok stage
  pub ends : (a : Planned) → Plans list (Ok a) → (r : Result ℕ Refusal) → CountsEnd a.plan r → r ≡ Ok end

counts : (list : List ℕ) (stage end : ℕ) (b : Planned) → planned list ≡ Ok b → granted (record_verdict b.plan) (stage_twiddles b.plan) ≡ Ok stage
    → granted (record_verdict b.plan) (end_count b.plan.n) ≡ Ok end
    → Counts list stage end
counts list stage end b d e f =
    record {
      planned = λ r p. (b, p.answer ∙ d);
      stages = λ a p r s. s.answer ∙ ap (λ (q : Planned). granted (record_verdict q.plan) (stage_twiddles q.plan)) (same_ok _ p.answer d) ∙ e;
      ends = λ a p r s. s.answer ∙ ap (λ (q : Planned). granted (record_verdict q.plan) (end_count q.plan.n)) (same_ok _ p.answer d) ∙ f;
    }

-- n 640, radices 5, 8, 8
pub counts_640 : Counts (2 ∷ 5 ∷ 8 ∷ 8 ∷ []) 560 159
unfolding planned plan_verdict first_bad first_that is_radix first_over product accepted_plan record_of factors half halving halved index_of tally
    count_of rules
    rules_up_to merged_by merged sorted padded record_verdict is_planned in_order sized eq_list radix twiddle_count twiddle_start end_count
counts_640 = counts _ _ _ _ refl refl refl

-- n 588, radices 2, 3, 7, 7
pub counts_588 : Counts (4 ∷ 3 ∷ 7 ∷ 7 ∷ []) 700 146
unfolding planned plan_verdict first_bad first_that is_radix first_over product accepted_plan record_of factors half halving halved index_of tally
    count_of rules
    rules_up_to first_rule applies merged_by merged sorted padded record_verdict is_planned in_order sized eq_list radix twiddle_count twiddle_start end_count
counts_588 = counts _ _ _ _ refl refl refl

module _ (r s : Result Planned Refusal) (p : Plans (2 ∷ 5 ∷ 8 ∷ 8 ∷ []) r) (q : Plans (4 ∷ 3 ∷ 7 ∷ 7 ∷ []) s) (c : ℕ) where
  -- what holds of the plans of both lists holds of what is answered
  both : (P : Planned → Planned → Type 0) → ((a b : Planned) → Plans (2 ∷ 5 ∷ 8 ∷ 8 ∷ []) (Ok a) → Plans (4 ∷ 3 ∷ 7 ∷ 7 ∷ []) (Ok b) → P a b)
      → IsOkAnd r (λ a. IsOkAnd s (λ b. P a b))
  both P each =
      let (a, d) = counts_640.planned r p in let (b, e) = counts_588.planned s q in
      subst (λ (u : Result Planned Refusal). IsOkAnd u (λ x. IsOkAnd s (λ y. P x y))) (sym d)
      (subst (λ (u : Result Planned Refusal). IsOkAnd u (λ y. P a y)) (sym e)
      (each a b (subst (Plans (2 ∷ 5 ∷ 8 ∷ 8 ∷ [])) d p) (subst (Plans (4 ∷ 3 ∷ 7 ∷ 7 ∷ [])) e q)))

  -- one count of stage twiddles for every plan
  pub one_stage_count : IsOkAnd r (λ a. IsOkAnd s (λ b. (m n : Result ℕ Refusal) → IfOk m (λ k. k ≡ c) → IfOk n (λ k. k ≡ c)
      → CountsStage a.plan m → CountsStage b.plan n → ⊥))
  one_stage_count = both _ (λ a b u v m n e f x y.
      let one : 560 ≡ c = meets (λ (k : ℕ). k) m 560 c (counts_640.stages a u m x) e in
      let two : 700 ≡ c = meets (λ (k : ℕ). k) n 700 c (counts_588.stages b v n y) f in
      omega (arith, one, two))

  -- one count of end twiddles for every plan
  pub one_end_count : IsOkAnd r (λ a. IsOkAnd s (λ b. (m n : Result ℕ Refusal) → IfOk m (λ k. k ≡ c) → IfOk n (λ k. k ≡ c)
      → CountsEnd a.plan m → CountsEnd b.plan n → ⊥))
  one_end_count = both _ (λ a b u v m n e f x y.
      let one : 159 ≡ c = meets (λ (k : ℕ). k) m 159 c (counts_640.ends a u m x) e in
      let two : 146 ≡ c = meets (λ (k : ℕ). k) n 146 c (counts_588.ends b v n y) f in
      omega (arith, one, two))
