-- The twelve proved cases as one table, and what it is for a case to hold: it speaks of whatever answer the promises admit. Assumes nothing.
use Rattle.std.specs.Prelude.{ℕ, ◌*◌, ◌≤◌, ◌≡◌, true, List, [], ◌∷◌, map, Float, pos, neg_ℤ, length, replicate, Result, Ok, IsOkAnd, IsErrAnd}
use Rattle.std.specs.Float.{binary32}
use Rattle.std.specs.Float.Ieee.{of_int}
use Rattle.refusal.specs.Refusal.{number_in, place_in}
use Rattle.refusal.specs.Refusal.{Verdict}
use Rattle.refusal.specs.Refusal.{Accepted, Refused}
use Rattle.counts.specs.Counts.{result_in}
use Rattle.radices.specs.Lists.{padded}
use Rattle.merging.specs.Merging.{letter, marked}
use Rattle.plan.specs.Record.{Plans}
use Rattle.plan.specs.declared.Planned.{Planned}
use Rattle.plan.specs.declared.Record.{Record}
use Rattle.merging.specs.declared.inner.merging.Rule.{Rule}
use Rattle.merging.specs.declared.inner.merging.Rule.TheVariants.{A, B, C}
use Rattle.schedule.specs.Buffers.{Two, held_in}
use Rattle.schedule.specs.Plans.{in_use}
use Rattle.schedule.specs.Stage.{run, plain}
use Rattle.packing.specs.Places.{is_width}
use Rattle.floats.specs.Complexes.{cx, flat}
use Rattle.floats.specs.declared.complex.Complex.{Complex}
use Rattle.spectrum.specs.Calls.{Forwards, Inverts}
use Rattle.power.specs.Power.{Powers}
use Rattle.transform.specs.Transforms.{Slices}
use Rattle.refusal.specs.declared.Refusal.{Refusal}
use Rattle.remainder.specs.Calls.{Runs}
use Rattle.residues.specs.Residues.{residues}

-- ---- the table

-- whole numbers as floats
abbrev pub +◌ : ℕ → Float
+ n = of_int binary32 (pos n)

abbrev pub -◌ : ℕ → Float
- n = of_int binary32 (neg_ℤ (pos n))

infix 80 +◌ -◌
-- what is to come of a list
pub data Outcome : Type 0 where
  -- planning refuses it with this number and place
  refused : (number place : ℕ) → Outcome
  -- planning makes it these radices, by these merges and no others
  planned : (radices : List ℕ) → (merges : List Rule) → Outcome
  -- half its length is h, and a run of its plan modulo m, with the base w, makes ys of xs
  summed : (h m w : ℕ) → (xs ys : List ℕ) → Outcome
  -- half its length is h, and a run of its plan modulo m, with the base w, is refused with this number and place, whatever it is lent
  unsummed : (h m w number place : ℕ) → Outcome
  -- forward makes these bins of the samples, inverse makes these samples of the bins, and so much is the power of all bins
  spectrum : (samples : List Float) → (bins : List Complex) → (again : List Float) → (power : Float) → Outcome

-- a list, and what is to come of it
abbrev pub Case : Type 0
Case = List ℕ × Outcome

-- the cases, first of planning, then of sums
abbrev pub table : List Case
table =
    ([], refused 1 0)
    ∷ (2 ∷ 3 ∷ 6 ∷ [], refused 2 2)
    ∷ (3 ∷ 5 ∷ [], refused 4 0)
    ∷ (replicate 14 2, refused 3 13)
    ∷ (replicate 13 2, planned (8 ∷ 8 ∷ 8 ∷ 8 ∷ []) (B ∷ B ∷ B ∷ B ∷ []))
    ∷ (2 ∷ [], planned [] [])
    ∷ (2 ∷ 2 ∷ 2 ∷ 2 ∷ [], planned (8 ∷ []) (B ∷ []))
    ∷ (4 ∷ 4 ∷ 4 ∷ 4 ∷ [], planned (2 ∷ 8 ∷ 8 ∷ []) (A ∷ C ∷ []))
    ∷ (8 ∷ 3 ∷ [], planned (3 ∷ 4 ∷ []) [])
    ∷ (3 ∷ 2 ∷ 2 ∷ [], summed 6 7 3 (0 ∷ 1 ∷ 0 ∷ 0 ∷ 0 ∷ 0 ∷ []) (1 ∷ 3 ∷ 2 ∷ 6 ∷ 4 ∷ 5 ∷ []))
    ∷ (8 ∷ [], unsummed 4 7 3 12 0)
    ∷ (4 ∷ [], spectrum (+ 1 ∷ + 2 ∷ + 3 ∷ + 4 ∷ []) (cx (+ 10) (+ 0) ∷ cx (- 2) (+ 2) ∷ cx (- 2) (+ 0) ∷ []) (+ 4 ∷ + 8 ∷ + 12 ∷ + 16 ∷ []) (+ 112))
    ∷ []

-- ---- what it is for a case to hold

-- a verdict has the number n and the place k
pub record Gives (n k : ℕ) (v : Verdict) : Type 0 where
  pub number : number_in v ≡ n
  pub place : place_in v ≡ k

-- an answer accepts its list, with the radices rs and the merges ms, unused entries 0
pub record Makes (rs : List ℕ) (ms : List Rule) (a : Planned) : Type 0 where
  pub count : a.plan.count ≡ length rs
  pub radices : a.plan.radices ≡ padded rs
  pub merges : a.merges ≡ marked (map letter ms)

-- a plan's half is h, the schedule's stages in remainders make ys of xs, and every run on xs is accepted and leaves ys in the buffer with the result
pub record Sums (h m w : ℕ) (xs ys : List ℕ) (p : Record) : Type 0 where
  pub half : p.half ≡ h
  pub stages : run plain (residues m w h) h (in_use p) p.count xs ≡ ys
  pub runs : (scratch : List ℕ) → length scratch ≡ h → (r : Verdict) (after : Two ℕ) → Runs p m w (xs, scratch) r after
      → (r ≡ Accepted) × (held_in (result_in p.count) after ≡ ys)

-- a plan's half is h, and every run is refused with the number n and the place k and leaves what it was lent
pub record Refuses (h m w n k : ℕ) (p : Record) : Type 0 where
  pub half : p.half ≡ h
  pub runs : (before : Two ℕ) (r : Verdict) (after : Two ℕ) → Runs p m w before r after → Gives n k r × (after ≡ before)

-- a plan that has no twiddles: at every width and with any scratch that is long enough, both transforms are accepted and leave these very words,
-- +0 where a 0 stands; and the power of all bins is this word
pub record Transforms (samples : List Float) (bins : List Complex) (again : List Float) (total : Float) (p : Record) : Type 0 where
  pub forward : (W : ℕ) → is_width W ≡ true → (before : Slices) → length before.0 ≡ 2 * length bins → 6 * length samples ≤ length before.1
      → (r : Verdict) (after : Slices) → Forwards p W [] [] samples before r after → (r ≡ Accepted) × (after.0 ≡ flat bins)
  pub inverse : (W : ℕ) → is_width W ≡ true → (before : Slices) → length before.0 ≡ length again → 6 * length samples ≤ length before.1
      → (r : Verdict) (after : Slices) → Inverts p W [] [] (flat bins) before r after → (r ≡ Accepted) × (after.0 ≡ again)
  pub power : (a : Result Float Refusal) → Powers (flat bins) 0 p.half a → a ≡ Ok total

-- what an outcome says of an answer to planning
abbrev pub Says : Outcome → Result Planned Refusal → Type 0
Says (refused number place) a = IsErrAnd a (λ why. Gives number place (Refused why))
Says (planned radices merges) a = IsOkAnd a (Makes radices merges)
Says (summed h m w xs ys) a = IsOkAnd a (λ made. Sums h m w xs ys made.plan)
Says (unsummed h m w number place) a = IsOkAnd a (λ made. Refuses h m w number place made.plan)
Says (spectrum samples bins again power) a = IsOkAnd a (λ made. Transforms samples bins again power made.plan)

-- it is so of every answer that planning the list promises
abbrev pub Holds : Case → Type 0
Holds c = (a : Result Planned Refusal) → Plans c.0 a → Says c.1 a

-- every case of a list has the property P
abbrev pub All : (Case → Type 0) → List Case → Type 0
All P [] = Unit {0}
All P (c ∷ cs) = P c × All P cs
