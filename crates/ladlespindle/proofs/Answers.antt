-- Laws of the answers: counts of a list's plan by the verdict on the list, and acceptance as a number. Assumes nothing.
use Rattle.sequences.proofs.Basics.{◌≡◌, refl, sym, ap, ap₂, ◌∙◌, ℕ, arith, Bool, true, false, false≢true, List}
use Rattle.std.specs.Prelude.{Result, Ok, Err}
use Rattle.std.specs.Result.{result_unwrap_or}
use Rattle.refusal.specs.declared.Refusal.{Refusal}
use Rattle.refusal.specs.Refusal.{number_of, place_of, number_in, place_in, left, granted}
use Rattle.refusal.proofs.Rows.{granted_ok, granted_err}
use Rattle.refusal.specs.Refusal.{Verdict}
use Rattle.refusal.specs.Refusal.{Accepted, Refused}
use Rattle.radices.specs.Lists.{product, count_of, padded, eq_list}
use Rattle.merging.specs.Merging.{tally, sorted}
use Rattle.plan.specs.Record.{plan_verdict, record_of, accepted_plan, planned, Plans, Plannable, Accepts, in_order}
use Rattle.plan.specs.Record.{sized, is_planned}
use Rattle.counts.specs.Counts.{record_verdict}
use Rattle.plan.specs.declared.Record.{Record}
use Rattle.plan.specs.declared.Planned.{Planned as Made}
use Rattle.plan.proofs.Records.{accepted_good, planned_passes}
use Rattle.counts.proofs.Counts.{record_accepted, record_refused}
use Rattle.scaling.specs.declared.Scaled.{Scaled}
use Rattle.scaling.specs.Scaling.{gain, accepted_scaling, scaled, Scales}
use Rattle.ladlespindle.specs.Exports.{or_zero, count_for, no_record, no_plan, planned_or_none, no_scaling, scaling_as}
use Rattle.ladlespindle.specs.Exports.{crossed, planned_as, GivesPlanned, GivesNumber, GivesPlace, GivesAcceptance, GivesScaling}
use Rattle.ladlespindle.specs.declared.Scaling.{Scaling}

-- the record of a refused list is one that planning does not give
none_planned : is_planned no_record ≡ false
unfolding is_planned in_order sized product tally count_of sorted padded eq_list
none_planned = refl

-- a number of an answer, 0 in place of a refusal
abbrev or_none : {A : Type 0} → (A → ℕ) → Result A Refusal → ℕ
or_none g (Ok a) = g a
or_none g (Err why) = 0

-- planning by its verdict
module _ (xs : List ℕ) where
  pub planned_ok : (a : Made) → Plans xs (Ok a) → (plan_verdict xs ≡ Accepted) × (a ≡ accepted_plan xs)
  unfolding planned
  planned_ok a s = granted_ok _ _ _ s.answer

  pub planned_err : (why : Refusal) → Plans xs (Err why) → plan_verdict xs ≡ Refused why
  unfolding planned
  planned_err why s = granted_err _ _ _ s.answer

  -- what is made of it, every number 0 on a refusal
  pub made_of : (a : Made) → Plans xs (Ok a) → a ≡ planned_or_none xs
  unfolding planned_or_none
  made_of a s = let told = planned_ok a s in told.1 ∙ ap (λ (v : Verdict). left v (accepted_plan xs) no_plan) (sym told.0)

  pub none_of : (why : Refusal) → Plans xs (Err why) → no_plan ≡ planned_or_none xs
  unfolding planned_or_none
  none_of why s = ap (λ (v : Verdict). left v (accepted_plan xs) no_plan) (sym (planned_err why s))

  pub made_by : (r : Result Made Refusal) → Plans xs r → result_unwrap_or r no_plan ≡ planned_or_none xs
  made_by (Ok a) s = made_of a s
  made_by (Err why) s = none_of why s

  -- what planning answers, as numbers
  pub list_made : (a : Made) → Plans xs (Ok a) → GivesPlanned xs (record { number = 0; place = 0; plan = a.plan })
  list_made a s =
      record {
        answer = ap (λ (b : Made). planned_as 0 0 b.plan) (made_of a s)
            ∙ ap (λ (v : Verdict). planned_as (number_in v) (place_in v) (planned_or_none xs).plan) (sym (planned_ok a s).0);
      }

  pub list_refused : (why : Refusal) (number place : ℕ) (p : Record) → Plans xs (Err why) → number ≡ number_of why → place ≡ place_of why → p ≡ no_record
      → GivesPlanned xs (record { number = number; place = place; plan = p })
  list_refused why number place p s f g e =
      record {
        answer = (λ i. planned_as (f i) (g i) (e i)) ∙ ap (λ (b : Made). planned_as (number_of why) (place_of why) b.plan) (none_of why s)
            ∙ ap (λ (v : Verdict). planned_as (number_in v) (place_in v) (planned_or_none xs).plan) (sym (planned_err why s));
      }

  -- the refusal's number and place, 0 where there is none
  pub number_made : (a : Made) → Plans xs (Ok a) → GivesNumber xs 0
  number_made a s = record { answer = ap number_in (sym (planned_ok a s).0) }

  pub number_refused : (why : Refusal) (n : ℕ) → Plans xs (Err why) → n ≡ number_of why → GivesNumber xs n
  number_refused why n s e = record { answer = e ∙ ap number_in (sym (planned_err why s)) }

  pub place_made : (a : Made) → Plans xs (Ok a) → GivesPlace xs 0
  place_made a s = record { answer = ap place_in (sym (planned_ok a s).0) }

  pub place_refused : (why : Refusal) (k : ℕ) → Plans xs (Err why) → k ≡ place_of why → GivesPlace xs k
  place_refused why k s e = record { answer = e ∙ ap place_in (sym (planned_err why s)) }

  -- a number of the plan's record, by the verdict on that record: 0 where the list is refused
  count_by : {A : Type 0} (f : Record → A) (g : A → ℕ) (v : Verdict) → plan_verdict xs ≡ v
      → or_none g (granted (record_verdict (left v (accepted_plan xs) no_plan).plan) (f (left v (accepted_plan xs) no_plan).plan))
      ≡ or_zero v (g (f (record_of xs)))
  unfolding accepted_plan
  count_by f g Accepted e = rw (record_accepted (record_of xs) (planned_passes xs (accepted_good xs e)))
  count_by f g (Refused why) e = rw (record_refused no_record none_planned)

  module _ {A : Type 0} (f : Record → A) (g : A → ℕ) (a : Made) (e : a ≡ planned_or_none xs) (r : Result A Refusal)
      (q : r ≡ granted (record_verdict a.plan) (f a.plan)) where
    counted : or_none g r ≡ count_for (λ (p : Record). g (f p)) xs
    unfolding planned_or_none
    counted = rw (q, e, count_by f g (plan_verdict xs) refl)

    pub count_ok : (b : A) → r ≡ Ok b → g b ≡ count_for (λ (p : Record). g (f p)) xs
    count_ok b k = rw k at counted

    pub count_err : (why : Refusal) → r ≡ Err why → 0 ≡ count_for (λ (p : Record). g (f p)) xs
    count_err why k = rw k at counted

  -- a count with 0 in place of a refusal
  pub count_or_zero : (f : Record → ℕ) (a : Made) → a ≡ planned_or_none xs → (r : Result ℕ Refusal) → r ≡ granted (record_verdict a.plan) (f a.plan)
      → result_unwrap_or r 0 ≡ count_for f xs
  count_or_zero f a e (Ok k) q = count_ok f (λ n. n) a e (Ok k) q k refl
  count_or_zero f a e (Err why) q = count_err f (λ n. n) a e (Err why) q why refl

-- 1 for a record that is accepted, 0 for one that is not
module _ (p : Record) (b : Bool) (a : Accepts p b) where
  pub accepts_one : b ≡ true → GivesAcceptance p 1
  accepts_one e = record { one = (λ _. a.answer.0 e, λ _. refl); bit = omega arith }

  pub accepts_none : b ≡ false → GivesAcceptance p 0
  accepts_none e =
      record { one = (λ (h : ◌≡◌ {A = ℕ} 0 1). absurd (omega arith), λ (h : Plannable p). absurd (false≢true (sym e ∙ a.answer.1 h))); bit = omega arith }

-- what scaling answers, by its verdict
module _ (ins outs : List ℕ) where
  pub scale_made : (s : Scaled) (r : Scaling) → Scales ins outs (Ok s) → r ≡ scaling_as 0 0 s → GivesScaling ins outs r
  unfolding scaled
  scale_made s r a p =
      let told = granted_ok _ _ _ a.answer in
      record {
        answer = p ∙ ap (scaling_as 0 0) told.1
            ∙ ap (λ (v : Verdict). crossed v (accepted_scaling (gain 512 (product ins)) ins outs)) (sym told.0);
      }

  pub scale_refused : (why : Refusal) (number place : ℕ) (r : Scaling) → Scales ins outs (Err why) → number ≡ number_of why → place ≡ place_of why
      → r ≡ scaling_as number place no_scaling
      → GivesScaling ins outs r
  unfolding scaled
  scale_refused why number place r a f g p =
      let told = granted_err _ _ _ a.answer in
      record {
        answer = p ∙ ap₂ (λ (n k : ℕ). scaling_as n k no_scaling) f g
            ∙ ap (λ (v : Verdict). crossed v (accepted_scaling (gain 512 (product ins)) ins outs)) (sym told);
      }
