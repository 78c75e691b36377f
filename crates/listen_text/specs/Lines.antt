-- The lines that the listen program prints, over what the calls answer. Assumes nothing.
use Rattle.std.specs.Prelude.{ℕ, ◌+◌, ◌-◌, ◌/◌, ◌%◌, Bool, cond, List, [], ◌∷◌, ◌++◌, eqb, ltb, Float, replicate}
use Rattle.little.specs.Numbers.{ascii}
use Rattle.text.specs.Lines.{decimal, indent, right}
use Rattle.levels.specs.Levels.{step_of, level_of}
use Rattle.hear.specs.declared.Decision.{Decision}
use Rattle.hear.specs.declared.Decision.TheVariants.{Fanning, Quiet}
use Rattle.listening.specs.declared.Block.{Block}

-- a digit
abbrev pub digit : ℕ → ℕ
digit n = 48 + n

-- a time of so many milliseconds, in seconds
unfoldable pub time_text : (ms : ℕ) → List ℕ
time_text ms = right 6 (ms / 1000) ++ (46 ∷ digit (ms / 100 % 10) ∷ digit (ms / 10 % 10) ∷ digit (ms % 10) ∷ ascii " s")

-- so many tenths behind a sign
unfoldable pub tenths_text : (sign tenths : ℕ) → List ℕ
tenths_text sign tenths = indent 3 (tenths / 10) ++ (sign ∷ (decimal (tenths / 10) ++ (46 ∷ digit (tenths % 10) ∷ [])))

-- a level: a minus sign stands before those below full scale, which is 16,000; 0 is no power at all
unfoldable pub level_text : (level : ℕ) → List ℕ
level_text level = cond (eqb level 0) (ascii "  -inf") (cond (ltb level 16000) (tenths_text 45 (16000 - level)) (tenths_text 32 (level - 16000)))

-- the level of a power against the step of full scale
abbrev pub power_text : (full : ℕ) → Float → List ℕ
power_text full power = level_text (level_of full (step_of power))

-- whether the bees fan, and the line end
abbrev pub decision_text : Decision → List ℕ
decision_text Fanning = ascii "fanning\n"
decision_text Quiet = ascii "quiet\n"

-- a block that begins at a time: the power in the band and outside it, and whether the bees fan
unfoldable pub block_line : (ms full : ℕ) → Block → List ℕ
block_line ms full b =
    time_text ms ++ (ascii "   band " ++ (power_text full b.band ++ (ascii " dB   outside " ++ (power_text full b.outside ++ (ascii " dB   "
    ++ decision_text b.decision)))))

-- samples at the end that make no block
unfoldable pub left_line : (ms samples : ℕ) → List ℕ
left_line ms samples = time_text ms ++ (ascii "   " ++ (decimal samples ++ ascii " samples are left, too few for a block: not heard\n"))

-- how many blocks there were, and how many of them fan
unfoldable pub whole_line : (blocks fanning : ℕ) → List ℕ
whole_line blocks fanning =
    decimal blocks ++ (ascii " blocks heard: " ++ (decimal fanning ++ (ascii " fanning, " ++ (decimal (blocks - fanning) ++ ascii " quiet\n"))))

-- how many signs a level's bar has in the plot: one for each 1.5 decibels from -90 on, at most 60
unfoldable pub bar_of : (level : ℕ) → ℕ
bar_of level = cond (ltb level 15100) 0 (cond (ltb 16000 level) 60 ((level - 15100) / 15))

-- the sign of bars: # in the band, and - outside it
abbrev pub sign_of : (inside : Bool) → ℕ
sign_of inside = cond inside 35 45

-- a row of the plot: its frequency, its level, and its bar
unfoldable pub row_line : (hertz level : ℕ) → (inside : Bool) → List ℕ
row_line hertz level inside =
    right 7 hertz ++ (ascii " Hz " ++ (level_text level ++ (ascii " |" ++ (replicate (bar_of level) (sign_of inside) ++ (10 ∷ [])))))
