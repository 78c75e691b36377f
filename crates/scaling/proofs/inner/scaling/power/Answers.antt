-- `scaling::inner::scaling::power` meets its contract. Assumes nothing.
use Rattle.sequences.proofs.Basics.{◌∙◌, ap, ℕ, ◌^◌, ◌%◌, one-mul, mod-eq_of_lt, arith}
use Rattle.scaling.proofs.Scaling.{power_small}
use Rattle.scaling.proofs.inner.scaling.power.Goals as goal

pub returns : goal.returns
returns c = ap (λ (n : ℕ). n % 2 ^ 64) (one-mul (2 ^ c.args.g)) ∙ mod-eq_of_lt (omega (arith, power_small c.args.g c.requires))
