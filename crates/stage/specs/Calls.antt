-- A single stage: which calls are refused, and what the call promises. Assumes nothing.
use Rattle.std.specs.Prelude.{ℕ, ◌*◌, not, List, [], ◌∷◌, ◌++◌, eqb, ltb, Float, length}
use Rattle.refusal.specs.Refusal.{Row, ◌⇒◌, verdict, Settles}
use Rattle.refusal.specs.declared.Refusal.TheVariants.{NotPlanned, Width, Length, Number, Twiddle, Stage}
use Rattle.refusal.specs.Refusal.{Verdict}
use Rattle.counts.specs.Counts.{twiddle_count}
use Rattle.plan.specs.Record.{is_planned}
use Rattle.plan.specs.declared.Record.{Record}
use Rattle.packing.specs.Places.{is_width}
use Rattle.scan.specs.Scan.{ceiling, first_unfit}
use Rattle.kernel.specs.Floats.{stage_of}

-- refusals 5, 15, 6 and 8 of slices of so many words, in this order: 2h in, 2h out, two for each of the stage's own twiddles
abbrev pub size_rows : Record → (j W input output twiddles : ℕ) → List Row
size_rows p j W input output twiddles =
    not (is_planned p) ⇒ NotPlanned 0
    ∷ not (ltb j p.count) ⇒ Stage
    ∷ not (is_width W) ⇒ Width
    ∷ not (eqb input (2 * p.half)) ⇒ Length 0
    ∷ not (eqb output (2 * p.half)) ⇒ Length 1
    ∷ not (eqb twiddles (2 * twiddle_count p.half p.radices j)) ⇒ Length 3
    ∷ []

-- refusals 9 and 10: numbers in at most 2 ^ 48, twiddles at most 1
abbrev pub number_rows : (input twiddles : List Float) → List Row
number_rows xs tw =
    ltb (first_unfit ceiling xs) (length xs) ⇒ Number (first_unfit ceiling xs)
    ∷ ltb (first_unfit 0 tw) (length tw) ⇒ Twiddle (first_unfit 0 tw)
    ∷ []

-- the verdicts by these alone
unfoldable pub size_verdict : Record → (j W input output twiddles : ℕ) → Verdict
size_verdict p j W input output twiddles = verdict (size_rows p j W input output twiddles)

unfoldable pub number_verdict : (input twiddles : List Float) → Verdict
number_verdict xs tw = verdict (number_rows xs tw)

-- the verdict of a stage, whose other buffer has so many words
unfoldable pub stage_verdict : Record → (j W : ℕ) → (xs : List Float) → (output : ℕ) → (tw : List Float) → Verdict
stage_verdict p j W xs output tw = verdict (size_rows p j W (length xs) output (length tw) ++ number_rows xs tw)

-- what `stage` promises of its answer r and of what is left in the other buffer
abbrev pub Stages : Record → (j W : ℕ) → (input output twiddles : List Float) → Verdict → List Float → Type 0
Stages p j W input output twiddles r after =
    Settles (stage_verdict p j W input (length output) twiddles) (stage_of p j W twiddles input) output r after
