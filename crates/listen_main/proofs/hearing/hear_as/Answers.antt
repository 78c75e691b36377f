-- `hear_as`: it hears at the width that it fills.
use Rattle.std.proofs.Common.{rules, refl}
use Rattle.listen_main.proofs.hearing.hear_as.Goals as goal

pub hear_blocks-requires : goal.hear_blocks-requires
hear_blocks-requires c = (refl, search rules, search rules)
