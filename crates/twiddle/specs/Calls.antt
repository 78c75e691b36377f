-- Filling: which calls are refused, what an accepted one leaves, and what both calls promise. Assumes nothing.
use Rattle.std.specs.Prelude.{ℕ, ◌*◌, not, List, [], ◌∷◌, eqb, Float, length}
use Rattle.refusal.specs.Refusal.{◌⇒◌, verdict, Settles}
use Rattle.refusal.specs.declared.Refusal.TheVariants.{NotPlanned, Width, NotHoused, Length}
use Rattle.refusal.specs.Refusal.{Verdict}
use Rattle.counts.specs.Counts.{stage_twiddles, end_count}
use Rattle.plan.specs.Record.{is_planned}
use Rattle.plan.specs.declared.Record.{Record}
use Rattle.schedule.specs.Plans.{in_use}
use Rattle.turn.specs.Turns.{housed}
use Rattle.packing.specs.Places.{is_width}
use Rattle.packing.specs.Twiddles.{stages_words}
use Rattle.end_twiddles.specs.Ends.{end_words}
use Rattle.end_twiddles.specs.declared.inner.ends.Direction.{Direction}

-- refusals 5, 6, 7 and 8 of slices of so many words, in this order: two words a twiddle
unfoldable pub fill_verdict : Record → (W stage end : ℕ) → Verdict
fill_verdict p W stage end =
    verdict
    (not (is_planned p) ⇒ NotPlanned 0
    ∷ not (is_width W) ⇒ Width
    ∷ not (housed p.n) ⇒ NotHoused
    ∷ not (eqb stage (2 * stage_twiddles p)) ⇒ Length 3
    ∷ not (eqb end (2 * end_count p.n)) ⇒ Length 4
    ∷ [])

-- the stage slice, then the end slice
abbrev pub Slices : Type 0
Slices = List Float × List Float

-- what an accepted call writes: the twiddles of the stages, then those of the ends
abbrev pub filled : Direction → Record → (W : ℕ) → Slices
filled d p W = (stages_words p.half (in_use p) W p.count, end_words d p.n)

-- what `fill_forward` and `fill_inverse` promise of the answer r and of what is left in the two slices
abbrev pub Fills : Direction → Record → (W : ℕ) → Slices → Verdict → Slices → Type 0
Fills d p W before r after = Settles (fill_verdict p W (length before.0) (length before.1)) (filled d p W) before r after
