-- The arithmetic of a float stage: turns from the house table, twiddles from lent words. Assumes nothing.
use Rattle.std.specs.Prelude.{ℕ, ◌/◌, List, Float}
use Rattle.counts.specs.Counts.{radix}
use Rattle.plan.specs.declared.Record.{Record}
use Rattle.schedule.specs.Plans.{in_use}
use Rattle.schedule.specs.Stage.{Part, Arith, stage, plain}
use Rattle.turn.specs.Turns.{turn_of, words_of}
use Rattle.packing.specs.Places.{place}
use Rattle.floats.specs.declared.complex.Complex.{Complex}
use Rattle.floats.specs.Complexes.{cx, blank, plus, times, turned_by, cell, paired, flat}

-- with `lent j i q` for twiddle q of iteration i of stage j: a cell is turned by the house table's turn, and twiddled by a multiplication in full
unfoldable pub floats : (lent : ℕ → ℕ → ℕ → Complex) → Arith Complex
floats lent =
    record {
      blank = blank;
      plus = plus;
      turned = λ a x. turned_by (turn_of a) x;
      twiddled = λ j i q a x. times x (lent j i q);
    }

-- the words of the house table's turn
abbrev pub word_of : Part → Complex
word_of a = cx (words_of (turn_of a)).0 (words_of (turn_of a)).1

-- with the house table's turns throughout: each twiddle is the word of its own turn
unfoldable pub house_floats : Arith Complex
house_floats =
    record {
      blank = blank;
      plus = plus;
      turned = λ a x. turned_by (turn_of a) x;
      twiddled = λ j i q a x. times x (word_of a);
    }

-- twiddle q of iteration i, in the words lent to a stage of M iterations of radix r and packed for width W
abbrev pub lent_at : (M r W : ℕ) → List Float → (i q : ℕ) → Complex
lent_at M r W tw i q = cell tw (place M r W i q)

-- the words that stage j of a plan makes of the words xs, with its own twiddles tw
unfoldable pub stage_of : Record → (j W : ℕ) → (tw xs : List Float) → List Float
stage_of p j W tw xs =
    flat (stage plain (floats (λ k. lent_at (p.half / radix (in_use p) j) (radix (in_use p) j) W tw)) p.half (in_use p) j (paired xs))
