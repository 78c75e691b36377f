-- Laws of signs: a number negated twice, and a cell conjugated twice. Assumes nothing.
use Rattle.sequences.proofs.Basics.{◌≡◌, refl, ap, Bool, true, false, not}
use lib.Ieee.{Float, nan, inf, fin, neg}
use Rattle.floats.specs.declared.complex.Complex.{Complex}
use Rattle.floats.specs.Complexes.{cx, conjugate}

not_not : (b : Bool) → not (not b) ≡ b
not_not true = refl
not_not false = refl

pub neg_neg : (x : Float) → neg (neg x) ≡ x
unfolding neg
neg_neg nan = refl
neg_neg (inf s) = ap inf (not_not s)
neg_neg (fin s m e) = ap (λ (b : Bool). fin b m e) (not_not s)

pub conjugate_twice : (z : Complex) → conjugate (conjugate z) ≡ z
conjugate_twice z = ap (cx z.re) (neg_neg z.im)
