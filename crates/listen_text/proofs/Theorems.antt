-- What a reader opens first: the level that is printed agrees with the decision, and texts and lines worked out. Assumes nothing.
use Rattle.sequences.proofs.Basics.{◌≡◌, refl, ap, ◌∙◌, ℕ, ◌*◌, ◌≤◌, Bool, true, not, cond, T, ltb}
use lib.Ieee.{binary32, of_bits, to_bits, le, fits, is_nan}
use Rattle.hear.specs.Hear.{decided}
use Rattle.hear.specs.declared.Decision.TheVariants.{Fanning, Quiet}
use Rattle.listening.specs.declared.Block.{Block}
use Rattle.little.specs.Numbers.{ascii}
use Rattle.text.specs.Lines.{last_digits, decimal, indent, right}
use Rattle.levels.specs.Parts.{parts}
use Rattle.levels.specs.Levels.{step_of, units_of, level_of, least_step}
use Rattle.levels.proofs.Theorems.{level_decides}
use Rattle.listen_text.specs.Lines.{time_text, tenths_text, level_text, block_line, left_line, whole_line, bar_of, row_line}

-- by the threshold of a level, a block is quiet exactly where the level that is printed for its band is lower
pub printed_decides : (full level : ℕ) → full ≤ 65535 → 1 ≤ level → level ≤ level_of full 32639
    → (b : Block) → T (fits binary32 b.band) → T (not (is_nan b.band)) → b.decision ≡ decided b.band (of_bits binary32 (least_step full level * 65536))
    → b.decision ≡ cond (ltb (level_of full (step_of b.band)) level) Quiet Fanning
unfolding decided
printed_decides full level f l h b held told d = d ∙ ap (λ (t : Bool). cond t Quiet Fanning) (level_decides b.band held told full level f l h)

-- ---- texts and lines

-- 2,940 milliseconds
time : time_text 2940 ≡ ascii "     2.940 s"
unfolding time_text right indent decimal last_digits
time = refl

-- 30.1 decibels below full scale
below : level_text 15699 ≡ ascii " -30.1"
unfolding level_text tenths_text indent decimal last_digits
below = refl

-- full scale
full : level_text 16000 ≡ ascii "   0.0"
unfolding level_text tenths_text indent decimal last_digits
full = refl

-- no power at all
none : level_text 0 ≡ ascii "  -inf"
unfolding level_text
none = refl

-- a block with 1/1024 of the power of full scale in the band and none outside it, where full scale is 1, whose step is 16,256
quiet : (b : Block) → b.band ≡ of_bits binary32 981467136 → b.outside ≡ of_bits binary32 0 → b.decision ≡ Quiet
    → block_line 2940 16256 b ≡ ascii "     2.940 s   band  -30.1 dB   outside   -inf dB   quiet\n"
unfolding block_line time_text level_text tenths_text right indent decimal last_digits level_of units_of parts step_of le of_bits to_bits
quiet b p q d = rw (p, q, d)

-- 100 samples behind the last block, which ends at 2.94 seconds
rest : left_line 2940 100 ≡ ascii "     2.940 s   100 samples are left, too few for a block: not heard\n"
unfolding left_line time_text right indent decimal last_digits
rest = refl

-- 12 blocks, of which 3 fan
whole : whole_line 12 3 ≡ ascii "12 blocks heard: 3 fanning, 9 quiet\n"
unfolding whole_line decimal last_digits
whole = refl

-- a frequency in the band, 30.1 decibels below full scale: 39 signs of 60
row : row_line 250 15699 true ≡ ascii "    250 Hz  -30.1 |#######################################\n"
unfolding row_line level_text tenths_text bar_of right indent decimal last_digits
row = refl
