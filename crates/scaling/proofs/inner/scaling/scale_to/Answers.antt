-- `scaling::inner::scaling::scale_to` meets its contract. Assumes nothing.
use Rattle.sequences.proofs.Basics.{sym, ◌∙◌}
use Rattle.refusal.proofs.Rows.{thrown}
use Rattle.scaling.proofs.Scaling.{scale_in, scale_out}
use Rattle.scaling.proofs.inner.scaling.scale_to.Goals as goal

pub returns-in_err-check : goal.returns-in_err-check
returns-in_err-check c = thrown _ _ c.from_residual.ensures.1
    ∙ scale_in c.args.target c.args.in_list.now c.args.out_list.now _ (sym c.check.ensures ∙ c.in_err-check.was)

pub returns-in_err-check-2 : goal.returns-in_err-check-2
returns-in_err-check-2 c = thrown _ _ c.from_residual-in_err-check-2.ensures.1
    ∙ scale_out c.args.target c.args.in_list.now c.args.out_list.now (sym c.check.ensures ∙ c.in_ok-check.was) _
    (sym c.check-2.ensures ∙ c.in_err-check-2.was)

pub scaled_lists-requires : goal.scaled_lists-requires
scaled_lists-requires c = record { low = c.requires; ins = sym c.check.ensures ∙ c.in_ok-check.was; outs = sym c.check-2.ensures ∙ c.in_ok-check-2.was }
