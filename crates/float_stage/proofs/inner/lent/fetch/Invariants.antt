-- `float_stage::inner::lent::fetch` meets its contract. Assumes nothing.
use Rattle.sequences.proofs.Basics.{◌≡◌, length}
use Rattle.kernel.specs.Floats.{lent_at}
use Rattle.lanes.specs.Parts.{Fetched}
use Rattle.float_stage.proofs.inner.lent.fetch.Given as goal

abbrev pub invariant-loop-j : goal.invariant-loop-j
invariant-loop-j l = (length l.t ≡ length l.initial.t) × Fetched l.i l.j l.r (lent_at l.m l.r l.w l.tw) l.t
