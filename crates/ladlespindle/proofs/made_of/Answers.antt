-- `ladlespindle::made_of` meets its contract. Assumes nothing.
use Rattle.sequences.proofs.Basics.{◌∙◌}
use Rattle.ladlespindle.proofs.Answers.{made_by}
use Rattle.ladlespindle.proofs.made_of.Goals as goal

pub returns : goal.returns
returns c = c.unwrap_or.ensures ∙ made_by c.args.list.now c.plan.result c.plan.ensures
