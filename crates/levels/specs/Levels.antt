-- Powers in decibels, in whole numbers. A step is a power's exponent and the part of the doubling that it is in, of 128; steps have levels.
-- Assumes nothing.
use Rattle.std.specs.Prelude.{ℕ, zero, suc, ◌+◌, ◌-◌, ◌*◌, ◌/◌, ◌%◌, ◌^◌, min, Bool, cond, ◌&&◌, leb, ltb, eqb, Float, get_or}
use Rattle.std.specs.Float.{binary32}
use Rattle.std.specs.Float.Ieee.{to_bits, of_bits, le}
use Rattle.sequences.specs.Lists.{first_that}
use Rattle.levels.specs.Parts.{parts}

-- the step of a power: exponent and first seven digits of its f32; 0 below the least normal number and for a NaN
unfoldable pub step_of : Float → ℕ
step_of power = cond (le (of_bits binary32 8388608) power) (to_bits binary32 power / 65536) 0

-- how many ten-thousandths of a decibel a step is above step 0: 3.0103 decibels a doubling, and its part's
unfoldable pub units_of : (step : ℕ) → ℕ
units_of step = 30103 * (step / 128) + get_or parts (step % 128) 0

-- the level of a step against that of full scale, in tenths of a decibel, to nearest; full scale is at 16,000, and 0 is no power at all
unfoldable pub level_of : (full step : ℕ) → ℕ
level_of full step = cond (eqb step 0) 0 ((units_of step + 16000500 - units_of full) / 1000)

-- the first part of a doubling that is at least so many units, or 128
unfoldable pub part_at_least : (units : ℕ) → ℕ
part_at_least units = first_that (leb units) parts

-- the least step of at least that level, no lower than 128, where normal numbers begin, and no higher than 32,639, where finite ones end
unfoldable pub least_step : (full level : ℕ) → ℕ
least_step full level =
    let least = 1000 * level + units_of full in
    let needed = least - 16000500 in
    cond (ltb least 16030603) 128 (min (128 * (needed / 30103) + part_at_least (needed % 30103)) 32639)

-- the least power of a step, (1 + part / 128) 2 ^ (exponent - 127), is at least 2 ^ -50 and above so many parts of 2 ^ -57
unfoldable pub is_above : (step parts : ℕ) → Bool
is_above step parts = leb 77 (step / 128) && ltb parts ((128 + step % 128) * 2 ^ (step / 128 - 77))

-- the first level from `level` on whose least power is above that, of k that are tried
unfoldable pub lowest_of : (full parts : ℕ) → (k level : ℕ) → ℕ
lowest_of full parts zero level = level
lowest_of full parts (suc k) level = cond (is_above (least_step full level) parts) level (lowest_of full parts k (level + 1))

-- the lowest level from one on that rounding cannot feign: full scale is tried last
unfoldable pub lowest : (full parts : ℕ) → (level : ℕ) → ℕ
lowest full parts level = lowest_of full parts (16000 - level) level
