-- The text of a power. Assumes nothing.
use Rattle.sequences.proofs.Basics.{◌≡◌, ap, ◌∙◌, ℕ, lit≤}
use lib.Ieee.{Float}
use Rattle.levels.specs.Levels.{step_of, level_of}
use Rattle.text.specs.Growing.{Adds}
use Rattle.sequences.proofs.Basics.{List}
use Rattle.text.proofs.Growing.{said}
use Rattle.listen_text.specs.Lines.{level_text, power_text}

-- the level of a power's step, in text, is the power's text
pub power_said : (full : ℕ) (power : Float) {t r : List ℕ} {step level : ℕ}
    → step ≡ step_of power → level ≡ level_of full step → Adds t (level_text level) 26 r → Adds t (power_text full power) 26 r
power_said full power s l f = said (ap level_text (l ∙ ap (level_of full) s)) (lit≤ tt) f
