-- `Radices::push` meets its contract. Assumes nothing.
use Rattle.sequences.proofs.Basics.{[]}
use Rattle.radices.proofs.Lists.{pushed_listed}
use Rattle.radices.proofs.Radices.push.Goals as goal

pub returns-clause-list : goal.returns-clause-list
returns-clause-list c = λ xs e. pushed_listed xs [] c.args.self.now e c.args.radix c.requires
