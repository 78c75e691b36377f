-- What each exported function answers for which list. Assumes nothing.
use Rattle.std.specs.Prelude.{ℕ, ◌+◌, ◌*◌, ◌≤◌, ◌≡◌, ◌↔◌, List, get_or, replicate}
use Rattle.refusal.specs.Refusal.{number_in, place_in, left}
use Rattle.refusal.specs.Refusal.{Verdict}
use Rattle.refusal.specs.Refusal.{Accepted, Refused}
use Rattle.radices.specs.Lists.{product}
use Rattle.radices.specs.declared.Radices.{Radices}
use Rattle.plan.specs.Record.{plan_verdict, record_of, accepted_plan, Plannable}
use Rattle.plan.specs.declared.Planned.{Planned as Made}
use Rattle.counts.specs.Counts.{stage_twiddles, end_count, result_in, buffer_number}
use Rattle.scaling.specs.Scaling.{gain, scale_verdict, accepted_scaling}
use Rattle.plan.specs.declared.Record.{Record}
use Rattle.scaling.specs.declared.Scaled.{Scaled}
use Rattle.ladlespindle.specs.declared.Planned.{Planned}
use Rattle.ladlespindle.specs.declared.Scaling.{Scaling}

-- a number where the list is accepted, 0 where it is refused
abbrev pub or_zero : Verdict → ℕ → ℕ
or_zero Accepted k = k
or_zero (Refused why) k = 0

-- a count of a list's plan, 0 on a refusal
abbrev pub count_for : (Record → ℕ) → List ℕ → ℕ
count_for f xs = or_zero (plan_verdict xs) (f (record_of xs))

-- every number 0
abbrev pub no_record : Record
no_record = record { n = 0; half = 0; count = 0; radices = replicate 13 0 }

abbrev pub no_plan : Made
no_plan = record { plan = no_record; merges = record { count = 0; letters = replicate 13 0 } }

abbrev pub no_list : Radices
no_list = record { count = 0; entries = replicate 13 0 }

abbrev pub no_scaling : Scaled
no_scaling = record { p = 0; in_product = 0; out_product = 0; in_list = no_list; out_list = no_list }

-- the plan of a list with its merges, every number 0 on a refusal
unfoldable pub planned_or_none : List ℕ → Made
planned_or_none xs = left (plan_verdict xs) (accepted_plan xs) no_plan

-- a scaling with the refusal as two numbers
abbrev pub scaling_as : (number place : ℕ) → Scaled → Scaling
scaling_as n k s =
    record {
      number = n;
      place = k;
      p = s.p;
      in_product = s.in_product;
      out_product = s.out_product;
      in_list = s.in_list;
      out_list = s.out_list;
    }

-- by a verdict: what scaling makes, every number 0 on a refusal
abbrev pub crossed : Verdict → Scaled → Scaling
crossed v s = scaling_as (number_in v) (place_in v) (left v s no_scaling)

-- what `ladlespindle_version` promises of its answer: 0.11.0
pub record GivesVersion (r : ℕ) : Type 0 where
  pub answer : r ≡ 10000 * 0 + 100 * 11 + 0

-- what `ladlespindle_interface` promises of its answer
pub record GivesInterface (r : ℕ) : Type 0 where
  pub answer : r ≡ 1

-- planning's answer with the refusal as two numbers
abbrev pub planned_as : (number place : ℕ) → Record → Planned
planned_as n k p = record { number = n; place = k; plan = p }

-- what `ladlespindle_plan_list` promises of its answer
pub record GivesPlanned (list : List ℕ) (r : Planned) : Type 0 where
  pub answer : r ≡ planned_as (number_in (plan_verdict list)) (place_in (plan_verdict list)) (planned_or_none list).plan

-- what `ladlespindle_plan` promises of its answer
pub record GivesPlan (list : List ℕ) (r : Record) : Type 0 where
  pub answer : r ≡ (planned_or_none list).plan

-- what `ladlespindle_refusal_number` promises of its answer
pub record GivesNumber (list : List ℕ) (r : ℕ) : Type 0 where
  pub answer : r ≡ number_in (plan_verdict list)

-- what `ladlespindle_refusal_place` promises of its answer
pub record GivesPlace (list : List ℕ) (r : ℕ) : Type 0 where
  pub answer : r ≡ place_in (plan_verdict list)

-- what `ladlespindle_n` promises of its answer
pub record GivesLength (list : List ℕ) (r : ℕ) : Type 0 where
  pub answer : r ≡ (planned_or_none list).plan.n

-- what `ladlespindle_half` promises of its answer
pub record GivesHalf (list : List ℕ) (r : ℕ) : Type 0 where
  pub answer : r ≡ (planned_or_none list).plan.half

-- what `ladlespindle_stages` promises of its answer
pub record GivesStages (list : List ℕ) (r : ℕ) : Type 0 where
  pub answer : r ≡ (planned_or_none list).plan.count

-- what `ladlespindle_radix` promises of its answer
pub record GivesRadix (list : List ℕ) (stage r : ℕ) : Type 0 where
  pub answer : r ≡ get_or (planned_or_none list).plan.radices stage 0

-- what `ladlespindle_merges` promises of its answer
pub record GivesMerges (list : List ℕ) (r : ℕ) : Type 0 where
  pub answer : r ≡ (planned_or_none list).merges.count

-- what `ladlespindle_merge_letter` promises of its answer
pub record GivesLetter (list : List ℕ) (index r : ℕ) : Type 0 where
  pub answer : r ≡ get_or (planned_or_none list).merges.letters index 0

-- what `ladlespindle_stage_twiddles` promises of its answer
pub record GivesStageTwiddles (list : List ℕ) (r : ℕ) : Type 0 where
  pub answer : r ≡ count_for stage_twiddles list

-- what `ladlespindle_end_twiddles` promises of its answer
pub record GivesEndTwiddles (list : List ℕ) (r : ℕ) : Type 0 where
  pub answer : r ≡ count_for (λ p. end_count p.n) list

-- what `ladlespindle_result` promises of its answer
pub record GivesResult (list : List ℕ) (r : ℕ) : Type 0 where
  pub answer : r ≡ count_for (λ p. buffer_number (result_in p.count)) list

-- what `ladlespindle_accepts` promises of its answer: 1 exactly when some list plans to the record, else 0
pub record GivesAcceptance (p : Record) (r : ℕ) : Type 0 where
  pub one : (r ≡ 1) ↔ Plannable p
  pub bit : r ≤ 1

-- what `ladlespindle_scale` promises of its answer
pub record GivesScaling (ins outs : List ℕ) (r : Scaling) : Type 0 where
  pub answer : r ≡ crossed (scale_verdict 512 ins outs) (accepted_scaling (gain 512 (product ins)) ins outs)
