-- `Radices::new` meets its contract. Assumes nothing.
use Rattle.sequences.proofs.Basics.{refl}
use Rattle.radices.specs.Lists.{padded, listed}
use Rattle.radices.proofs.Radices.new.Goals as goal

pub returns-clause-list : goal.returns-clause-list
unfolding listed padded
returns-clause-list c = refl
