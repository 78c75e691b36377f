-- How large floats are: one, a complex one, the words of a row, and what a direction writes. Assumes nothing.
use Rattle.std.specs.Prelude.{ℕ, ◌*◌, ◌^◌, ◌≤◌, ◌<◌, ◌≡◌, Bool, true, not, List, eqb, ltb, Float, length, get_or}
use Rattle.std.specs.Float.{nan, inf, fin}
use Rattle.std.specs.Float.Ieee.{up, down}
use Rattle.counts.specs.Counts.{stage_twiddles, end_count}
use Rattle.plan.specs.Record.{is_planned}
use Rattle.plan.specs.declared.Record.{Record}
use Rattle.packing.specs.Places.{is_width}
use Rattle.floats.specs.declared.complex.Complex.{Complex}
use Rattle.spectrum.specs.Calls.{bin_words}
use Rattle.scratch.specs.Scratch.{data_of, pad_of}
use Rattle.transform.specs.Transforms.{Slices}

-- finite, and at most q * 2 ^ k in magnitude
abbrev pub AtMost : (q k : ℕ) → Float → Type 0
AtMost q k nan = ⊥
AtMost q k (inf s) = ⊥
AtMost q k (fin s m e) = m * up e ≤ q * 2 ^ k * down e

-- both parts are
pub record Both (q k : ℕ) (z : Complex) : Type 0 where
  pub re : AtMost q k z.re
  pub im : AtMost q k z.im

-- every word of a row is finite and at most 2 ^ k
abbrev pub Words : (k : ℕ) → List Float → Type 0
Words k xs = (i : ℕ) → i < length xs → AtMost 1 k (get_or xs i nan)

-- what a call of a plan is rightly lent beside its numbers: a width, slices of their lengths, and twiddles at most 1
pub record RightlyLent (p : Record) (W : ℕ) (stage end : List Float) (input output : Bool) (scratch : ℕ) : Type 0 where
  pub planned : is_planned p ≡ true
  pub width : is_width W ≡ true
  pub long : input ≡ true
  pub wide : output ≡ true
  pub room : 6 * p.n ≤ scratch
  pub stages : length stage ≡ 2 * stage_twiddles p
  pub ends : length end ≡ 2 * end_count p.n
  pub ones : Words 0 stage × Words 0 end

-- n samples, all bins out
abbrev pub RightForward : Record → (W : ℕ) → (stage end : List Float) → (samples output scratch : ℕ) → Type 0
RightForward p W stage end samples output scratch = RightlyLent p W stage end (eqb samples p.n) (eqb output (bin_words p)) scratch

-- all bins, n samples or more out
abbrev pub RightInverse : Record → (W : ℕ) → (stage end : List Float) → (bins output scratch : ℕ) → Type 0
RightInverse p W stage end bins output scratch = RightlyLent p W stage end (eqb bins (bin_words p)) (not (ltb output p.n)) scratch

-- a bound on the output, and one on Data and, where there are at least so many stages, on the Scratchpad
abbrev pub Within : (stages : ℕ) → Record → (out scratch : ℕ) → Slices → Type 0
Within stages p out scratch s = Words out s.0 × Words scratch (data_of p.half s.1) × (stages ≤ p.count → Words scratch (pad_of p.half s.1))
