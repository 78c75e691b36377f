-- The power of bins: the sum, which calls are refused, and what the call promises. Assumes nothing.
use Rattle.std.specs.Prelude.{ℕ, zero, suc, ◌+◌, ◌-◌, ◌/◌, ◌%◌, ◌≡◌, not, ◌||◌, List, [], ◌∷◌, eqb, ltb, Float, length, Result}
use Rattle.std.specs.Float.{binary32}
use Rattle.std.specs.Float.Ieee.{add, mul}
use Rattle.refusal.specs.Refusal.{◌⇒◌, verdict, granted}
use Rattle.refusal.specs.declared.Refusal.{Refusal}
use Rattle.refusal.specs.declared.Refusal.TheVariants.{Length, Number, Bins}
use Rattle.refusal.specs.Refusal.{Verdict}
use Rattle.turn.specs.Turns.{+0}
use Rattle.floats.specs.Complexes.{cell}
use Rattle.scan.specs.Scan.{ceiling, first_unfit}
use Rattle.floats.specs.declared.complex.Complex.{Complex}

-- of one bin
abbrev pub power_of : Complex → Float
power_of z = add binary32 (mul binary32 z.re z.re) (mul binary32 z.im z.im)

-- of so many bins from lo on, added in ascending order from +0
unfoldable pub power_from : List Float → (lo count : ℕ) → Float
power_from xs lo zero = +0
power_from xs lo (suc k) = add binary32 (power_from xs lo k) (power_of (cell xs (lo + k)))

-- refusals 8, 14 and 9, in this order: an even length from 4 to 8,194, bins in order and at hand, every number at most 2 ^ 48
unfoldable pub power_verdict : List Float → (lo hi : ℕ) → Verdict
power_verdict xs lo hi =
    verdict
    ((not (eqb (length xs % 2) 0) || ltb (length xs) 4 || ltb 8194 (length xs)) ⇒ Length 0
    ∷ (ltb hi lo || not (ltb hi (length xs / 2))) ⇒ Bins
    ∷ ltb (first_unfit ceiling xs) (length xs) ⇒ Number (first_unfit ceiling xs)
    ∷ [])

-- what `power` promises of its answer: the sum over bins lo to hi
pub record Powers (spectrum : List Float) (lo hi : ℕ) (r : Result Float Refusal) : Type 0 where
  pub answer : r ≡ granted (power_verdict spectrum lo hi) (power_from spectrum lo (hi + 1 - lo))
