-- What a reader opens first: where each twiddle stands in what a filling leaves, at every width, and that it is the schedule's turn.
-- That two outcomes of a call are equal is `Fills_one` of proofs/Unique.antt. Assumes nothing.
use Rattle.sequences.proofs.Basics.{◌≡◌, sym, ap, ◌∙◌, ℕ, ◌+◌, ◌-◌, ◌*◌, ◌/◌, ◌<◌, ◌≤◌, le_of_lt, arith, true, false, length, get_or}
use lib.Ieee.{Float}
use Rattle.sequences.specs.Pairs.{At}
use Rattle.sequences.proofs.Pairs.{told, at_same, pairs_at}
use Rattle.refusal.specs.Refusal.{left}
use Rattle.refusal.specs.declared.Refusal.{Refusal}
use Rattle.refusal.specs.Refusal.{Verdict}
use Rattle.refusal.specs.Refusal.{Accepted, Refused}
use Rattle.refusal.proofs.Rows.{settled}
use Rattle.counts.specs.Counts.{radix, stride, twiddle_start, end_count}
use Rattle.plan.specs.declared.Record.{Record}
use Rattle.schedule.specs.Plans.{in_use}
use Rattle.schedule.specs.Stage.{twiddle_turn}
use Rattle.turn.specs.Calls.{part}
use Rattle.turn.specs.Turns.{bare, housed, turn_of, words_of}
use Rattle.turn.proofs.Index.{index_below}
use Rattle.turn.proofs.Theorems.{other_turns}
use Rattle.packing.specs.Places.{place, iteration_at, number_at, Stands, Found}
use Rattle.packing.specs.Twiddles.{twiddle}
use Rattle.packing.proofs.Places.{stands, found}
use Rattle.packing.proofs.Standing.{twiddle_at, use-start}
use Rattle.packing.proofs.Widths.{width_bounds}
use Rattle.end_twiddles.specs.Ends.{directed, end_twiddle, end_words}
use Rattle.end_twiddles.specs.declared.inner.ends.Direction.{Direction}
use Rattle.end_twiddles.proofs.Ends.{end_inside, end_quarter}
use Rattle.twiddle.specs.Calls.{Slices, filled, Fills}
use Rattle.twiddle.proofs.Verdicts.{Taken, taken}

-- ---- places: M iterations of radix r, any width

module _ (M r W : ℕ) (width : 0 < W) where
  -- each twiddle stands at a place below M * (r - 1), which tells its iteration and its number
  pub each_stands : (i k : ℕ) → i < M → 1 ≤ k → k < r → Stands M r W i k (place M r W i k)
  each_stands i k li first last = stands M r W width i k first last li

  -- and at each such place stands a twiddle
  pub each_filled : (p : ℕ) → p < M * (r - 1) → Found M r W (iteration_at M r W p) (number_at M r W p) p
  each_filled = found M r W width

-- ---- an accepted filling

module _ (d : Direction) (p : Record) (W : ℕ) (before : Slices) (r : Verdict) (after : Slices) (fills : Fills d p W before r after)
    (accepted : r ≡ Accepted) where
  -- what the answer tells
  tells : Taken p W (length before.0) (length before.1)
  tells = taken p W (length before.0) (length before.1) r fills.answer accepted

  -- what is left in the slices
  leaves : after ≡ filled d p W
  leaves = settled _ _ _ _ _ fills (sym fills.answer ∙ accepted)

  -- twiddle k of iteration i of stage j stands at its place after the start of the stage's words, and is the turn that the schedule states
  pub filled_twiddle : (z : Float) (j i k : ℕ) → 1 ≤ j → j < p.count → i < p.half / radix (in_use p) j → 1 ≤ k → k < radix (in_use p) j
      → At z after.0 (twiddle_start p.half p.radices j + place (p.half / radix (in_use p) j) (radix (in_use p) j) W i k)
      (words_of (turn_of (twiddle_turn (stride (in_use p) j) (radix (in_use p) j) i k)))
  unfolding twiddle
  filled_twiddle z j i k later known li first last = rw (leaves, ← use-start p j (le_of_lt known)) (told z _ _ _
      (twiddle_at z p.half (in_use p) W p.count j i k (width_bounds W tells.width).0 later known li first last))

  -- end twiddle k stands at place k - 1
  pub filled_end : (z : Float) (k : ℕ) → 1 ≤ k → k ≤ end_count p.n → At z after.1 (k - 1) (directed d (words_of (turn_of (part k p.n))))
  unfolding end_words end_twiddle
  filled_end z k first last =
      let same : 1 + (k - 1) ≡ k = omega arith in
      rw leaves (told z _ _ _ (rw same at (pairs_at z (end_count p.n) 1 (end_twiddle d p.n) (k - 1) (omega arith))))

-- the words of a twiddle are the same at every width, and in both directions
module _ (c d : Direction) (p : Record) (W W' : ℕ) (xs ys xs' ys' : Slices) (r s : Verdict) (one : Fills c p W xs r xs') (two : Fills d p W' ys s ys')
    (taken-one : r ≡ Accepted)
    (taken-two : s ≡ Accepted) where
  pub same_words : (z : Float) (j i k : ℕ) → 1 ≤ j → j < p.count → i < p.half / radix (in_use p) j → 1 ≤ k → k < radix (in_use p) j → (e : ℕ) → e < 2
      → get_or xs'.0 (2 * (twiddle_start p.half p.radices j + place (p.half / radix (in_use p) j) (radix (in_use p) j) W i k) + e) z
      ≡ get_or ys'.0 (2 * (twiddle_start p.half p.radices j + place (p.half / radix (in_use p) j) (radix (in_use p) j) W' i k) + e) z
  same_words z j i k later known li first last = at_same z _ _ _ _ _ (filled_twiddle c p W xs r xs' one taken-one z j i k later known li first last)
      (filled_twiddle d p W' ys s ys' two taken-two z j i k later known li first last)

-- ---- a refused filling writes nothing

pub refused_keeps : (d : Direction) (p : Record) (W : ℕ) (before : Slices) (r : Verdict) (after : Slices) → Fills d p W before r after → (why : Refusal)
    → r ≡ Refused why → after ≡ before
refused_keeps d p W before r after fills why e = fills.cells ∙ ap (λ (v : Verdict). left v (filled d p W) before) (sym fills.answer ∙ e)

-- ---- no end twiddle is a whole quarter

pub end_bare : (n k : ℕ) → housed n ≡ true → 1 ≤ k → k ≤ end_count n → bare (turn_of (part k n)) ≡ false
end_bare n k h first last = ap bare (index_below k n h (end_inside n k h last)).1 ∙ other_turns (k * (6720 / n)) (end_quarter n k h first last)
