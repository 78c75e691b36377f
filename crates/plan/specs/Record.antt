-- Planning: the verdict on a list, the record and the merges beside it, and which records planning gives. Assumes nothing.
use Rattle.std.specs.Prelude.{ℕ, ◌*◌, ◌/◌, ◌%◌, ◌+◌, ◌≡◌, ◌↔◌, Bool, true, ◌&&◌, List, [], ◌∷◌, leb, ltb, eqb, length, take, Result}
use Rattle.refusal.specs.Refusal.{◌⇒◌, verdict, granted}
use Rattle.refusal.specs.declared.Refusal.{Refusal}
use Rattle.refusal.specs.declared.Refusal.TheVariants.{Empty, NoRadix, TooLarge, Odd}
use Rattle.refusal.specs.Refusal.{Verdict}
use Rattle.refusal.specs.Refusal.{Accepted}
use Rattle.plan.specs.declared.Record.{Record}
use Rattle.plan.specs.declared.Planned.{Planned}
use Rattle.radices.specs.Lists.{product, first_bad, first_over, largest, padded, eq_list}
use Rattle.halving.specs.Half.{half}
use Rattle.merging.specs.Merging.{tally, total, rules, merged, letters, marked, sorted}

-- refusals 1, 2, 3 and 4, in this order
unfoldable pub plan_verdict : List ℕ → Verdict
plan_verdict xs =
    verdict
    (eqb (length xs) 0 ⇒ Empty
    ∷ ltb (first_bad xs) (length xs) ⇒ NoRadix (first_bad xs)
    ∷ ltb (first_over 1 xs) (length xs) ⇒ TooLarge (first_over 1 xs)
    ∷ eqb (product xs % 2) 1 ⇒ Odd
    ∷ [])

-- the radices of the stages: the half list merged, in ascending order
unfoldable pub factors : List ℕ → List ℕ
factors xs = sorted (merged (tally (half xs)))

-- how many merges there are
abbrev pub merges_of : List ℕ → ℕ
merges_of xs = length (rules (tally (half xs)))

unfoldable pub record_of : List ℕ → Record
record_of xs =
    record {
      n = product xs;
      half = product xs / 2;
      count = length (factors xs);
      radices = padded (factors xs);
    }

unfoldable pub accepted_plan : List ℕ → Planned
accepted_plan xs = record { plan = record_of xs; merges = marked (letters (tally (half xs))) }

-- what planning a list answers
unfoldable pub planned : List ℕ → Result Planned Refusal
planned xs = granted (plan_verdict xs) (accepted_plan xs)

-- what `plan` promises of its answer
pub record Plans (list : List ℕ) (r : Result Planned Refusal) : Type 0 where
  pub answer : r ≡ planned list

-- some list plans to this record
abbrev pub Plannable : Record → Type 0
Plannable p = (xs : List ℕ) × (plan_verdict xs ≡ Accepted) × (record_of xs ≡ p)

-- what `accepts` promises of its answer
pub record Accepts (p : Record) (r : Bool) : Type 0 where
  pub answer : (r ≡ true) ↔ Plannable p

-- The first k entries are radices in ascending order, at most one of them a 2 or a 4, and the unused entries are 0.
unfoldable pub in_order : (k : ℕ) → List ℕ → Bool
in_order k rs =
    leb k 13
    && eqb (total (tally (take k rs))) k
    && leb ((tally (take k rs)).twos + (tally (take k rs)).fours) 1
    && eq_list rs (padded (sorted (tally (take k rs))))

-- half is the product of the radices in use, n is twice that and at most the largest length
unfoldable pub sized : Record → Bool
sized p = leb p.n largest && eqb p.n (2 * p.half) && eqb (product (take p.count p.radices)) p.half

-- the test of a record
unfoldable pub is_planned : Record → Bool
is_planned p = in_order p.count p.radices && sized p
