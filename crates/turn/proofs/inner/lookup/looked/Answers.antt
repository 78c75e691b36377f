-- `turn::inner::lookup::looked` meets its contract. Assumes nothing.
use Rattle.sequences.proofs.Basics.{sym, ◌∙◌}
use Rattle.turn.proofs.Index.{index_below}
use Rattle.turn.proofs.inner.lookup.looked.Goals as goal

pub returns : goal.returns
returns c = c.at.ensures ∙ sym (index_below c.args.t c.args.l c.requires.divides c.requires.below).1
