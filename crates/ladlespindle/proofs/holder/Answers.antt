-- `ladlespindle::holder` meets its contract. Assumes nothing.
use Rattle.sequences.proofs.Basics.{sym, ap, ◌∙◌}
use Rattle.refusal.specs.Refusal.{left}
use Rattle.refusal.specs.Refusal.{Verdict}
use Rattle.counts.specs.Counts.{buffer_number, result_in}
use Rattle.ladlespindle.proofs.holder.Goals as goal

pub returns-in-Ok : goal.returns-in-Ok
returns-in-Ok c = let a = c.args in c.number.ensures.answer ∙ ap buffer_number c.result_in.ensures
    ∙ ap (λ (v : Verdict). left v (buffer_number (result_in a.count)) 0) (sym c.in-Ok.is)
