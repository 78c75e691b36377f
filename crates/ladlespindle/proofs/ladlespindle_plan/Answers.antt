-- `ladlespindle_plan` meets its promise: a field of what planning makes. Assumes nothing.
use Rattle.sequences.proofs.Basics.{ap}
use Rattle.plan.specs.declared.Planned.{Planned}
use Rattle.ladlespindle.proofs.ladlespindle_plan.Goals as goal

pub returns : goal.returns
returns c = record { answer = ap (λ (a : Planned). a.plan) c.made_of.ensures }
