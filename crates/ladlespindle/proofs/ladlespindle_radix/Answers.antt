-- `ladlespindle_radix` meets its promise: an entry of what planning makes. Assumes nothing.
use Rattle.sequences.proofs.Basics.{ap, ◌∙◌, get_or}
use Rattle.plan.specs.declared.Planned.{Planned}
use Rattle.ladlespindle.proofs.ladlespindle_radix.Goals as goal

pub returns : goal.returns
returns c = let at = c.args in record { answer = c.entry.ensures ∙ ap (λ (a : Planned). get_or a.plan.radices at.stage 0) c.made_of.ensures }
