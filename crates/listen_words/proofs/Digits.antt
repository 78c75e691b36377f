-- A word read digit by digit. Assumes nothing.
use Rattle.sequences.proofs.Basics.{◌≡◌, ap, ◌∙◌, ℕ, ◌+◌, ◌-◌, ◌*◌, ◌^◌, ◌<◌, ◌≤◌, add-one, arith, true, false, List, length, get_or, drop}
use Rattle.sequences.proofs.Basics.{drop-cons, drop_of_length-le}
use Rattle.std.proofs.Common.{Some, None}
use Rattle.std.proofs.lemmas.Bool.Decides.{nat_tests}
use native.Mathlib.Nat.{pow-le-pow_right}
use Rattle.std.specs.Char.{is_ascii_digit}
use Rattle.listen_words.specs.Words.{digits_from}

module _ (word : List ℕ) (value i : ℕ) where
  -- no digit is left
  pub digits_all : length word ≤ i → digits_from value (drop i word) ≡ Some value
  unfolding digits_from
  digits_all l = ap (digits_from value) (drop_of_length-le word l)

  module _ (l : i < length word) where
    -- one is no digit
    pub digits_none : is_ascii_digit (get_or word i 0) ≡ false → digits_from value (drop i word) ≡ None
    unfolding digits_from
    digits_none e = ap (digits_from value) (drop-cons word i 0 l) ∙ rw e

    -- one digit more
    pub digits_next : is_ascii_digit (get_or word i 0) ≡ true
        → digits_from value (drop i word) ≡ digits_from (10 * value + (get_or word i 0 - 48)) (drop (i + 1) word)
    unfolding digits_from
    digits_next e = ap (digits_from value) (drop-cons word i 0 l) ∙ rw (e, add-one)

-- less than nine digits make a number below 10 ^ 8
pub below_nine : (value i : ℕ) → i < 9 → value < 10 ^ i → value < 10 ^ 8
below_nine value i l h = omega (arith, h, pow-le-pow_right {n = 10} (omega arith) {i = i} {j = 8} (omega arith))

-- a digit is worth 9 at most
pub digit_few : (b : ℕ) → is_ascii_digit b ≡ true → b ≤ 57
digit_few b e = grind (arith, nat_tests)
