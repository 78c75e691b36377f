-- Samples of 16 bits: the f32 of two bytes, which f32 can be written, and the bytes of one. Assumes nothing.
use Rattle.std.specs.Prelude.{ℕ, ◌+◌, ◌-◌, ◌*◌, ◌/◌, ◌%◌, Bool, true, false, cond, not, ◌&&◌, List, eqb, leb, ltb, length, get_or, Float}
use Rattle.std.specs.Float.{nan, inf, fin}
use Rattle.std.specs.Float.Ieee.{up, down, odd}
use Rattle.sequences.specs.Lists.{first_that, tabulate}
use Rattle.sequences.specs.Pairs.{pairs}
use Rattle.little.specs.Numbers.{number_at}

-- ±q / 32,768, exactly
abbrev pub over : Bool → (q : ℕ) → Float
over s q = odd 16 s q 0 15

-- the sample that two bytes with the number v are: v, or from 32,768 on v - 65,536, divided by 32,768
unfoldable pub sample_of : (v : ℕ) → Float
sample_of v = cond (ltb v 32768) (over false v) (over true (65536 - v))

-- the n samples whose bytes stand from a place on
unfoldable pub samples_at : (bs : List ℕ) (from n : ℕ) → List Float
samples_at bs from n = tabulate n 0 (λ i. sample_of (number_at 2 bs (from + 2 * i)))

-- whether 32,768 times a number is whole, and from -32,768 to 32,767: a finite number is m * up e over down e in size
unfoldable pub fits : Float → Bool
fits nan = false
fits (inf s) = false
fits (fin s m e) = eqb (m * up e * 32768 % down e) 0 && leb (m * up e * 32768 / down e) (cond s 32768 32767)

-- the number of the two bytes of a sample that fits: below 0 it is 65,536 more, and -0 is 0
unfoldable pub word_of : Float → ℕ
word_of nan = 0
word_of (inf s) = 0
word_of (fin s m e) = cond s (65536 - m * up e * 32768 / down e) (m * up e * 32768 / down e) % 65536

-- the index of the first sample that does not fit, or the length
unfoldable pub first_unfit : List Float → ℕ
first_unfit xs = first_that (λ x. not (fits x)) xs

-- the bytes of samples that fit, the lower one first
unfoldable pub sample_bytes : List Float → List ℕ
sample_bytes xs = pairs (length xs) 0 (λ i. (word_of (get_or xs i nan) % 256, word_of (get_or xs i nan) / 256))
