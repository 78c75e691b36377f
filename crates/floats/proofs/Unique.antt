-- Two answers that meet a promise are equal. Assumes nothing.
use Rattle.sequences.proofs.Basics.{◌≡◌, sym, ap, ◌∙◌}
use lib.Ieee.{Float}
use Rattle.turn.specs.declared.Turn.{Turn}
use Rattle.floats.specs.declared.complex.Complex.{Complex}
use Rattle.floats.specs.Complexes.{cx, GivesWords, Adds, Subtracts, Multiplies, Conjugates, TurnsBy}

pub GivesWords_one : (t : Turn) {r s : Complex} → GivesWords t r → GivesWords t s → r ≡ s
GivesWords_one t a b = ap (λ (w : Float × Float). cx w.0 w.1) (a ∙ sym b)

module _ (x y : Complex) {r s : Complex} where
  pub Adds_one : Adds x y r → Adds x y s → r ≡ s
  Adds_one a b = a ∙ sym b

  pub Subtracts_one : Subtracts x y r → Subtracts x y s → r ≡ s
  Subtracts_one a b = a ∙ sym b

  pub Multiplies_one : Multiplies x y r → Multiplies x y s → r ≡ s
  Multiplies_one a b = a ∙ sym b

module _ (x : Complex) {r s : Complex} where
  pub Conjugates_one : Conjugates x r → Conjugates x s → r ≡ s
  Conjugates_one a b = a ∙ sym b

  pub TurnsBy_one : (t : Turn) → TurnsBy t x r → TurnsBy t x s → r ≡ s
  TurnsBy_one t a b = a ∙ sym b
