-- What the plan program prints for which input. Assumes nothing.
use Rattle.std.specs.Prelude.{ℕ, ◌≤◌, ◌≡◌, List, [], ◌∷◌, ◌++◌, map, length, take, Result, Ok, Err}
use Rattle.refusal.specs.Refusal.{number_of, place_of}
use Rattle.refusal.specs.declared.Refusal.{Refusal}
use Rattle.plan.specs.Record.{planned}
use Rattle.counts.specs.Counts.{stage_twiddles, end_count, result_in}
use Rattle.plan.specs.declared.Record.{Record}
use Rattle.merging.specs.declared.Merges.{Merges}
use Rattle.plan.specs.declared.Planned.{Planned}
use Rattle.counts.specs.declared.Buffer.{Buffer}
use Rattle.counts.specs.declared.Buffer.TheVariants.{Data, Scratchpad}
use Rattle.little.specs.Numbers.{ascii}
use Rattle.text.specs.Lines.{decimal, line}
use Rattle.text.specs.declared.Text.{Text}
use Rattle.tokens.specs.Tokens.{radices, first_read}

-- the radices as words, and a dash for none
unfoldable pub factor_words : List ℕ → List (List ℕ)
factor_words [] = ascii "-" ∷ []
factor_words (b ∷ bs) = map decimal (b ∷ bs)

-- the name of a buffer
abbrev pub buffer_name : Buffer → List ℕ
buffer_name Data = ascii "data"
buffer_name Scratchpad = ascii "scratchpad"

-- a plan, in seven lines
unfoldable pub plan_lines : Record → Merges → List ℕ
plan_lines p m =
    line "n" (decimal p.n ∷ [])
    ++ (line "half" (decimal p.half ∷ [])
    ++ (line "factors" (factor_words (take p.count p.radices))
    ++ (line "merges" (decimal m.count ∷ [])
    ++ (line "stage" (decimal (stage_twiddles p) ∷ [])
    ++ (line "end" (decimal (end_count p.n) ∷ [])
    ++ line "result" (buffer_name (result_in p.count) ∷ []))))))

-- a refusal, in one line
unfoldable pub refusal_line : Refusal → List ℕ
refusal_line why = line "refused" (decimal (number_of why) ∷ decimal (place_of why) ∷ [])

-- what planning answered, in lines: a plan or a refusal
abbrev pub lines_of : Result Planned Refusal → List ℕ
lines_of (Ok made) = plan_lines made.plan made.merges
lines_of (Err why) = refusal_line why

-- the first bytes of the input are read, parted into tokens and planned
unfoldable pub report_of : List ℕ → List ℕ
report_of input = lines_of (planned (radices (first_read input)))

-- what `report` promises of its answer
pub record Reports (input : List ℕ) (r : Text) : Type 0 where
  pub answer : r ≡ report_of input
  pub fits : length (report_of input) ≤ 256
