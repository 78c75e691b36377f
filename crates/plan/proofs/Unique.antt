-- Two answers that meet a promise are equal, and wrong programs that no promise admits. Assumes nothing.
use Rattle.sequences.proofs.Basics.{◌≡◌, refl, sym, ap, ◌∙◌, ℕ, arith, Bool, true, false, List, [], ◌∷◌}
use Rattle.refusal.proofs.Unique.{agree}
use Rattle.refusal.specs.declared.Refusal.{Refusal}
use Rattle.refusal.specs.declared.Refusal.TheVariants.{NoRadix}
use Rattle.std.specs.Prelude.{Result, Ok, Err}
use Rattle.plan.specs.declared.Record.{Record}
use Rattle.plan.specs.declared.Planned.{Planned}
use Rattle.radices.specs.Lists.{is_radix, product, first_bad, index_of, first_over, count_of}
use Rattle.sequences.specs.Lists.{first_that}
use Rattle.halving.specs.Half.{halving, halved, half}
use Rattle.merging.specs.Merging.{tally, applies, first_rule, rules_up_to, rules, letters, marked}
use Rattle.plan.specs.Record.{plan_verdict, record_of, accepted_plan, planned, Plans, Accepts}

pub Plans_one : {list : List ℕ} {r s : Result Planned Refusal} → Plans list r → Plans list s → r ≡ s
Plans_one p q = agree p.answer q.answer

pub Accepts_one : {p : Record} {r s : Bool} → Accepts p r → Accepts p s → r ≡ s
Accepts_one {p} {r} {s} a b = go r s (λ e. b.answer.1 (a.answer.0 e)) (λ e. a.answer.1 (b.answer.0 e))
  where
    go : (r s : Bool) → (r ≡ true → s ≡ true) → (s ≡ true → r ≡ true) → r ≡ s
    go true s f g = sym (f refl)
    go false true f g = g refl
    go false false f g = refl

-- ---- wrong programs

-- a length of 2 and one of 4 are planned, and differ
two_planned : planned (2 ∷ []) ≡ Ok (accepted_plan (2 ∷ []))
unfolding planned plan_verdict first_bad first_that is_radix first_over product
two_planned = refl

two_length : (accepted_plan (2 ∷ [])).plan.n ≡ 2
unfolding accepted_plan record_of product
two_length = refl

four_planned : planned (4 ∷ []) ≡ Ok (accepted_plan (4 ∷ []))
unfolding planned plan_verdict first_bad first_that is_radix first_over product
four_planned = refl

four_length : (accepted_plan (4 ∷ [])).plan.n ≡ 4
unfolding accepted_plan record_of product
four_length = refl

-- a planner that refuses every list does not meet the promise
pub refuses_all : (why : List ℕ → Refusal) → ((xs : List ℕ) → Plans xs (Err (why xs))) → ⊥
refuses_all why p =
    let e : Err (why (2 ∷ [])) ≡ Ok (accepted_plan (2 ∷ [])) = (p (2 ∷ [])).answer ∙ two_planned in
    let z : ◌≡◌ {A = ℕ} 0 1 = cc in
    omega arith

-- nor does one that gives the same plan for every list
pub one_plan : (r : Result Planned Refusal) → ((xs : List ℕ) → Plans xs r) → ⊥
one_plan r p =
    let e : ◌≡◌ {A = Result Planned Refusal} (Ok (accepted_plan (2 ∷ []))) (Ok (accepted_plan (4 ∷ []))) =
    sym two_planned ∙ sym (p (2 ∷ [])).answer ∙ (p (4 ∷ [])).answer ∙ four_planned in
    let f : accepted_plan (2 ∷ []) ≡ accepted_plan (4 ∷ []) = cc in
    let g : ◌≡◌ {A = ℕ} 2 4 = sym two_length ∙ ap (λ (x : Planned). x.plan.n) f ∙ four_length in
    omega arith

-- [2, 2, 3] is halved first, so that nothing is left to merge
pub halved_first : (a : Planned) × (planned (2 ∷ 2 ∷ 3 ∷ []) ≡ Ok a) × (a.merges.count ≡ 0)
unfolding planned plan_verdict first_bad first_that is_radix first_over product accepted_plan marked letters rules rules_up_to first_rule applies tally
    count_of half
    halving halved index_of
halved_first = (accepted_plan (2 ∷ 2 ∷ 3 ∷ []), refl, refl)

-- a byte that is no radix is reported before a product that is too large
pub two_before_three : planned (8 ∷ 8 ∷ 8 ∷ 8 ∷ 8 ∷ 9 ∷ []) ≡ Err (NoRadix 5)
unfolding planned plan_verdict first_bad first_that is_radix first_over product
two_before_three = refl
