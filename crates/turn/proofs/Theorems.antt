-- What the definition of a turn gives: whole quarters are at the indices 0, 1,680, 3,360 and 5,040 and nowhere else, and the words that are
-- stated for them are the table's numbers there, as everywhere. The table's rule is `house_rule` of proofs/Rule.antt. Assumes nothing.
use Rattle.sequences.proofs.Basics.{◌≡◌, refl, sym, ap, ◌∙◌, ℕ, zero, suc, ◌*◌, ◌/◌, ◌%◌, ◌<◌, ◌≤◌, mod-lt, zero-lt-suc, arith, dec_le, false, dite}
use lib.Ieee.{round, of_bits, neg}
use Rattle.schedule.specs.Stage.{Part}
use Rattle.house.specs.House.{cosines, sines}
use Rattle.house.specs.Entries.{entry_of, mirrored, plain, exchanged}
use Rattle.turn.specs.declared.Turn.TheVariants.{Zero, Quarter, Half, ThreeQuarter}
use Rattle.turn.specs.Turns.{bare, index_of, rounded, numbers_at, quarters, turn_at, turn_of, words_of}
use Rattle.turn.proofs.Lookup.{turn_whole, turn_numbers}

-- ---- which turns are whole quarters

pub quarter_turns : (turn_at 0 ≡ Zero) × (turn_at 1680 ≡ Quarter) × (turn_at 3360 ≡ Half) × (turn_at 5040 ≡ ThreeQuarter)
unfolding turn_at
quarter_turns = (refl, refl, refl, refl)

pub other_turns : (index : ℕ) → (index % 1680 ≡ 0 → ⊥) → bare (turn_at index) ≡ false
other_turns index n = ap bare (sym (turn_numbers index n))

-- ---- their words

quarter_words : (q : ℕ) → q < 4 → words_of (quarters q) ≡ numbers_at (q * 1680)
unfolding words_of numbers_at entry_of mirrored plain exchanged rounded cosines sines round of_bits neg
quarter_words zero h = refl
quarter_words (suc zero) h = refl
quarter_words (suc (suc zero)) h = refl
quarter_words (suc (suc (suc zero))) h = refl
quarter_words (suc (suc (suc (suc q)))) h = absurd (omega arith)

words_at : (index : ℕ) → index < 6720 → words_of (turn_at index) ≡ numbers_at index
unfolding words_of
words_at index h = dite (dec_le (index % 1680) 0) whole other
  where
    whole : index % 1680 ≤ 0 → words_of (turn_at index) ≡ numbers_at index
    whole z =
        let e : index / 1680 * 1680 ≡ index = omega arith in
        ap words_of (sym (turn_whole index (omega arith))) ∙ quarter_words (index / 1680) (omega arith) ∙ ap numbers_at e

    other : (index % 1680 ≤ 0 → ⊥) → words_of (turn_at index) ≡ numbers_at index
    other z = ap words_of (sym (turn_numbers index (λ (e : index % 1680 ≡ 0). z (omega arith))))

-- the words of a turn are the numbers at its index, in which zero is +0
pub words_are : (a : Part) → words_of (turn_of a) ≡ numbers_at (index_of a)
unfolding turn_of index_of
words_are a = words_at (index_of a) (mod-lt (a.t * 6720 / a.L) (zero-lt-suc 6719))
