-- `planned` meets its contract: the plan is one of a length that is served.
use Rattle.std.proofs.Common.{sym, ap, ◌∙◌}
use Rattle.listening.specs.Lengths.{served}
use Rattle.listen_main.proofs.Lengths.{served_block}
use Rattle.listen_main.proofs.setup.planned.Goals as goal

pub returns : goal.returns
returns c =
    let b = served_block _ (ap served c.if-plan-block.false ∙ sym c.is_served.ensures ∙ c.if-not-is_served.false) in
    (b.0, b.1, b.2, c.if-plan-gt3360.false, c.if-plan-gt13.false)
