-- `found` is safe: a file with a walk has the 12 bytes of its mark.
use Rattle.listen_input.proofs.Walking.{has_mark}
use Rattle.listen_input.proofs.inner.source.found.Goals as goal

pub walked-requires : goal.walked-requires
walked-requires c = has_mark _ _ _ c.begin.ensures c.in-Ok.is
