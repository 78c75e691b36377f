-- The numbers that the code writes, as floats. Assumes nothing.
use Rattle.sequences.proofs.Basics.{◌≡◌, refl, true, false}
use lib.IntN.{pos}
use lib.Ieee.{Float, fin, binary32, of_bits}

-- 32,768 and -32,768, 32,767, and 3 * 2 ^ 22
abbrev pub scale : Float
scale = fin false 1 (pos 15)

abbrev pub lowest : Float
lowest = fin true 1 (pos 15)

abbrev pub highest : Float
highest = fin false 32767 (pos 0)

abbrev pub shift : Float
shift = fin false 3 (pos 22)

pub scale_is : of_bits binary32 1191182336 ≡ scale
unfolding of_bits
scale_is = refl

pub highest_is : of_bits binary32 1191181824 ≡ highest
unfolding of_bits
highest_is = refl

pub shift_is : of_bits binary32 1262485504 ≡ shift
unfolding of_bits
shift_is = refl
