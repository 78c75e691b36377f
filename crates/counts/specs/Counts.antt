-- Counts of a plan: strides, twiddles of the stages and of the ends, and the buffer with the result. Assumes nothing.
use Rattle.std.specs.Prelude.{ℕ, zero, suc, ◌+◌, ◌-◌, ◌*◌, ◌/◌, ◌%◌, ◌≡◌, Bool, true, false, cond, not, ◌||◌, List, [], ◌∷◌, eqb, get_or, take, Result}
use Rattle.refusal.specs.Refusal.{◌⇒◌, verdict, granted}
use Rattle.refusal.specs.declared.Refusal.{Refusal}
use Rattle.refusal.specs.declared.Refusal.TheVariants.{NotPlanned}
use Rattle.refusal.specs.Refusal.{Verdict}
use Rattle.radices.specs.Lists.{product}
use Rattle.plan.specs.Record.{is_planned}
use Rattle.plan.specs.declared.Record.{Record}
use Rattle.counts.specs.declared.Buffer.{Buffer}
use Rattle.counts.specs.declared.Buffer.TheVariants.{Data, Scratchpad}

-- the radix of stage j, 1 past the end of the list
unfoldable pub radix : List ℕ → ℕ → ℕ
radix rs j = get_or rs j 1

-- the product of the radices before stage j
unfoldable pub stride : List ℕ → ℕ → ℕ
stride rs j = product (take j rs)

-- how many twiddles stage j has: none in the first, else r - 1 for each of its h / r iterations
unfoldable pub twiddle_count : (h : ℕ) → List ℕ → ℕ → ℕ
twiddle_count h rs zero = 0
twiddle_count h rs (suc j) = h / radix rs (suc j) * (radix rs (suc j) - 1)

-- where the twiddles of stage j start: after those of the stages before it
unfoldable pub twiddle_start : (h : ℕ) → List ℕ → ℕ → ℕ
twiddle_start h rs zero = 0
twiddle_start h rs (suc j) = twiddle_start h rs j + twiddle_count h rs j

-- the twiddles of all stages, where those of one stage more would start
abbrev pub stage_twiddles : Record → ℕ
stage_twiddles p = twiddle_start p.half p.radices p.count

-- k from 1 to n / 4 - 1 if 4 divides n, else to n / 4
unfoldable pub end_count : ℕ → ℕ
end_count n = cond (eqb (n % 4) 0) (n / 4 - 1) (n / 4)

abbrev pub buffer_by : Bool → Buffer
buffer_by true = Data
buffer_by false = Scratchpad

-- a single stage is copied back, and an even number ends where it began
unfoldable pub result_in : ℕ → Buffer
result_in count = buffer_by (eqb count 1 || eqb (count % 2) 0)

-- the number of a buffer
abbrev pub buffer_number : Buffer → ℕ
buffer_number Data = 0
buffer_number Scratchpad = 1

-- what `Buffer::number` promises of its answer
pub record NumbersBuffer (b : Buffer) (r : ℕ) : Type 0 where
  pub answer : r ≡ buffer_number b

-- refusal 5
unfoldable pub record_verdict : Record → Verdict
record_verdict p = verdict (not (is_planned p) ⇒ NotPlanned 0 ∷ [])

-- what `stage_twiddles` promises of its answer
pub record CountsStage (p : Record) (r : Result ℕ Refusal) : Type 0 where
  pub answer : r ≡ granted (record_verdict p) (stage_twiddles p)

-- what `end_twiddles` promises of its answer
pub record CountsEnd (p : Record) (r : Result ℕ Refusal) : Type 0 where
  pub answer : r ≡ granted (record_verdict p) (end_count p.n)

-- what `result` promises of its answer
pub record Locates (p : Record) (r : Result Buffer Refusal) : Type 0 where
  pub answer : r ≡ granted (record_verdict p) (result_in p.count)
