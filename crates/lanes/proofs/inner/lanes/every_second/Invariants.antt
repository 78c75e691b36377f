-- `lanes::inner::lanes::every_second` meets its contract. Assumes nothing.
use Rattle.sequences.proofs.Basics.{◌+◌, ◌*◌, get_or}
use Rattle.schedule.specs.Parts.{Every}
use Rattle.floats.specs.Complexes.{blank}
use Rattle.kernel.specs.Parts.{kernel_of}
use Rattle.lanes.specs.Parts.{Taken}
use Rattle.lanes.proofs.inner.lanes.every_second.Given as goal

abbrev pub invariant-loop-n : goal.invariant-loop-n
invariant-loop-n l = Taken (Every l.from (l.from + 2 * l.n)) (kernel_of l.r (λ q. get_or l.c q blank)) l.j l.initial.to.re l.initial.to.im l.to.re l.to.im
