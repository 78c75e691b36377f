-- `listening::inner::lengths::most_feigned` meets its contract. Assumes nothing.
use Rattle.sequences.proofs.Basics.{refl, ◌+◌, ◌*◌, ◌≤◌, mul-le-mul, arith}
use Rattle.listening.specs.Lengths.{feigned}
use Rattle.listening.proofs.inner.lengths.most_feigned.Goals as goal

-- how large a distance is
far : (c : goal.Start) → (33 * c.args.stages + 23) * c.args.half ≤ 452 * 3360
far c = mul-le-mul {n₁ = 33 * c.args.stages + 23} {n₂ = 452} (omega arith) c.requires.1

-- and what stands before the last one
many : (c : goal.Start) → 513 * c.args.bins * ((33 * c.args.stages + 23) * c.args.half) ≤ 513 * 3361 * (452 * 3360)
many c = mul-le-mul {n₁ = 513 * c.args.bins} {n₂ = 513 * 3361} (omega arith) (far c)

pub overflow_mul-result-3 : goal.overflow_mul-result-3
overflow_mul-result-3 c = omega (arith, mul-le-mul (many c) (far c))

pub returns : goal.returns
unfolding feigned
returns c = refl
