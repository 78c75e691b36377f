-- `house::inner::entries::unrounded` meets its contract. Assumes nothing.
use Rattle.house.proofs.Entries.{entry_plain, entry_exchanged}
use Rattle.house.specs.Entries.{plain, exchanged}
use Rattle.house.specs.House.{cosines, sines}
use Rattle.house.proofs.inner.entries.unrounded.Goals as goal

pub returns-then-b-gt840 : goal.returns-then-b-gt840
unfolding plain exchanged cosines sines
returns-then-b-gt840 c = entry_exchanged c.args.index c.if-b-gt840.true

pub returns : goal.returns
unfolding plain exchanged cosines sines
returns c = entry_plain c.args.index c.if-b-gt840.false
