-- `plan::inner::records::makes` meets its contract. Assumes nothing.
use Rattle.sequences.proofs.Basics.{ap, ℕ, eqb, arith}
use Rattle.plan.proofs.Records.{made_not}
use Rattle.plan.proofs.inner.records.makes.Goals as goal

pub returns-in-Ok : goal.returns-in-Ok
returns-in-Ok c = ap (λ (n : ℕ). eqb n c.args.half) c.in-Ok.ensures.1

pub returns-in-Err : goal.returns-in-Err
returns-in-Err c = made_not c.args.list.now c.args.half c.requires.0 c.requires.1 (let over = c.in-Err.ensures in omega (arith, over.0, over.1))
