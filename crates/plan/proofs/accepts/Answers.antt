-- `plan::accepts` meets its contract. Assumes nothing.
use Rattle.sequences.proofs.Basics.{sym, ◌∙◌}
use Rattle.plan.proofs.Records.{passes_plannable, plannable_passes}
use Rattle.plan.proofs.accepts.Goals as goal

pub returns : goal.returns
returns c = let p = c.args.plan in record {
  answer = (
    λ e. passes_plannable p (sym c.is_planned.ensures ∙ e),
    λ e. c.is_planned.ensures ∙ plannable_passes
        p e,
  );
}
