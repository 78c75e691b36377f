-- A run of a plan's stages in floats, on two buffers of 2h words: what it leaves, and what the driver asks for. Assumes nothing.
use Rattle.std.specs.Prelude.{ℕ, ◌+◌, ◌*◌, ◌/◌, ◌≤◌, ◌<◌, ◌≡◌, List, Float, take, drop}
use Rattle.counts.specs.Counts.{radix, stride, twiddle_count, twiddle_start}
use Rattle.plan.specs.declared.Record.{Record}
use Rattle.schedule.specs.Buffers.{Two, driven}
use Rattle.schedule.specs.Plans.{in_use}
use Rattle.schedule.specs.Stage.{twiddle_turn}
use Rattle.packing.specs.Places.{place}
use Rattle.floats.specs.declared.complex.Complex.{Complex}
use Rattle.floats.specs.Complexes.{cell}
use Rattle.kernel.specs.Floats.{word_of, stage_of}

-- the words of stage j's own twiddles, in those of all stages
abbrev pub own_of : Record → (tw : List Float) → (j : ℕ) → List Float
own_of p tw j = take (2 * twiddle_count p.half p.radices j) (drop (2 * twiddle_start p.half p.radices j) tw)

-- stage j, with its own of the twiddles of all stages
abbrev pub stage_in : Record → (W : ℕ) → (tw : List Float) → (j : ℕ) → List Float → List Float
stage_in p W tw j xs = stage_of p j W (own_of p tw j) xs

-- what a run leaves in its two buffers: what the stages, written alternately, leave there, a single radix copied back
abbrev pub run_of : Record → (W : ℕ) → (tw : List Float) → Two Float → Two Float
run_of p W tw b = driven (stage_in p W tw) p.count b

-- ---- the twiddles of all stages, by stage, iteration and number

-- as they stand in the lent words
abbrev pub lent_to : Record → (W : ℕ) → (tw : List Float) → (j i q : ℕ) → Complex
lent_to p W tw j i q = cell tw (twiddle_start p.half p.radices j + place (p.half / radix (in_use p) j) (radix (in_use p) j) W i q)

-- as filling lends them: the words of the turns that the schedule states
abbrev pub turning : List ℕ → (j i q : ℕ) → Complex
turning rs j i q = word_of (twiddle_turn (stride rs j) (radix rs j) i q)

-- two stages that are lent the same for each iteration and number
abbrev pub Agree : (M r : ℕ) → (ℕ → ℕ → Complex) → (ℕ → ℕ → Complex) → Type 0
Agree M r lent lent' = (i q : ℕ) → i < M → 1 ≤ q → q < r → lent i q ≡ lent' i q

-- all stages of a plan with twiddles
abbrev pub AgreeAll : Record → (ℕ → ℕ → ℕ → Complex) → (ℕ → ℕ → ℕ → Complex) → Type 0
AgreeAll p lent lent' = (j : ℕ) → 1 ≤ j → j < p.count → Agree (p.half / radix (in_use p) j) (radix (in_use p) j) (lent j) (lent' j)

-- the same words are lent at two widths
abbrev pub Alike : Record → (W W' : ℕ) → (tw tw' : List Float) → Type 0
Alike p W W' tw tw' = AgreeAll p (lent_to p W tw) (lent_to p W' tw')

-- ---- what the driver asks for

-- what the driver asks of two buffers, of so many words, for the stages of an accepted plan
pub record Drivable (p : Record) (nd ns : ℕ) : Type 0 where
  pub long : nd ≡ 2 * p.half
  pub wide : ns ≡ 2 * p.half

-- what one stage of it asks, whose twiddles start at `start`
pub record Steppable (p : Record) (k ns nd start : ℕ) : Type 0 where
  pub known : k < p.count
  pub source : ns ≡ 2 * p.half
  pub target : nd ≡ 2 * p.half
  pub starts : start ≡ twiddle_start p.half p.radices k
