-- Forward and inverse: which calls are refused, and what they promise. Assumes nothing.
use Rattle.std.specs.Prelude.{ℕ, ◌+◌, ◌*◌, Bool, not, List, [], ◌∷◌, ◌++◌, eqb, ltb, Float, length}
use Rattle.refusal.specs.Refusal.{Row, ◌⇒◌, verdict, Settles}
use Rattle.refusal.specs.declared.Refusal.TheVariants.{NotPlanned, Width, Length, Number, Twiddle}
use Rattle.refusal.specs.Refusal.{Verdict}
use Rattle.counts.specs.Counts.{stage_twiddles, end_count}
use Rattle.plan.specs.Record.{is_planned}
use Rattle.plan.specs.declared.Record.{Record}
use Rattle.packing.specs.Places.{is_width}
use Rattle.scan.specs.Scan.{ceiling, first_unfit}
use Rattle.transform.specs.Transforms.{Slices, forward_of, inverse_of}

-- how many words the bins of a plan have
abbrev pub bin_words : Record → ℕ
bin_words p = 2 * (p.half + 1)

-- refusals 5, 6 and 8, in this order: whether input and output have their lengths, and how many words the other slices have
abbrev pub size_rows : Record → (W : ℕ) → (input output : Bool) → (scratch stage end : ℕ) → List Row
size_rows p W input output scratch stage end =
    not (is_planned p) ⇒ NotPlanned 0
    ∷ not (is_width W) ⇒ Width
    ∷ not input ⇒ Length 0
    ∷ not output ⇒ Length 1
    ∷ ltb scratch (6 * p.n) ⇒ Length 2
    ∷ not (eqb stage (2 * stage_twiddles p)) ⇒ Length 3
    ∷ not (eqb end (2 * end_count p.n)) ⇒ Length 4
    ∷ []

-- refusals 9 and 10: numbers in at most 2 ^ k, twiddles at most 1, those of the stages and of the ends joined
abbrev pub number_rows : (k : ℕ) → (input stage end : List Float) → List Row
number_rows k xs stage end =
    ltb (first_unfit k xs) (length xs) ⇒ Number (first_unfit k xs)
    ∷ ltb (first_unfit 0 (stage ++ end)) (length (stage ++ end)) ⇒ Twiddle (first_unfit 0 (stage ++ end))
    ∷ []

-- the verdicts by these alone
unfoldable pub size_verdict : Record → (W : ℕ) → (input output : Bool) → (scratch stage end : ℕ) → Verdict
size_verdict p W input output scratch stage end = verdict (size_rows p W input output scratch stage end)

unfoldable pub number_verdict : (k : ℕ) → (input stage end : List Float) → Verdict
number_verdict k xs stage end = verdict (number_rows k xs stage end)

-- both
unfoldable pub lent_verdict : Record → (W : ℕ) → (input output : Bool) → (scratch k : ℕ) → (xs stage end : List Float) → Verdict
lent_verdict p W input output scratch k xs stage end = verdict (size_rows p W input output scratch (length stage) (length end) ++ number_rows k xs stage end)

-- forward: n samples at most 2 ^ 32 in, all bins out
abbrev pub forward_verdict : Record → (W : ℕ) → (xs : List Float) → (output scratch : ℕ) → (stage end : List Float) → Verdict
forward_verdict p W xs output scratch stage end = lent_verdict p W (eqb (length xs) p.n) (eqb output (bin_words p)) scratch 32 xs stage end

-- inverse: all bins, numbers at most 2 ^ 48, in, n samples and more out
abbrev pub inverse_verdict : Record → (W : ℕ) → (xs : List Float) → (output scratch : ℕ) → (stage end : List Float) → Verdict
inverse_verdict p W xs output scratch stage end = lent_verdict p W (eqb (length xs) (bin_words p)) (not (ltb output p.n)) scratch ceiling xs stage end

-- what `forward` promises of its answer r and of what is left in output and scratch
abbrev pub Forwards : Record → (W : ℕ) → (stage end xs : List Float) → Slices → Verdict → Slices → Type 0
Forwards p W stage end xs before r after =
    Settles (forward_verdict p W xs (length before.0) (length before.1) stage end) (forward_of p W stage end xs before.1) before r after

-- what `inverse` promises of them
abbrev pub Inverts : Record → (W : ℕ) → (stage end xs : List Float) → Slices → Verdict → Slices → Type 0
Inverts p W stage end xs before r after =
    Settles (inverse_verdict p W xs (length before.0) (length before.1) stage end)
    (inverse_of p W stage end xs before.1 (length before.0)) before r after
