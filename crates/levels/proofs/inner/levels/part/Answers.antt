-- `levels::inner::levels::part` meets its contract. Assumes nothing.
use Rattle.sequences.proofs.Basics.{refl}
use Rattle.levels.specs.Parts.{parts}
use Rattle.levels.proofs.Parts.{part_between}
use Rattle.levels.proofs.inner.levels.part.Goals as goal

pub returns : goal.returns
unfolding parts
returns c = (refl, (part_between c.args.k c.requires).1)
