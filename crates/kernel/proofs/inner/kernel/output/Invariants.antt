-- `kernel::inner::kernel::output` meets its contract. Assumes nothing.
use Rattle.sequences.proofs.Basics.{◌≡◌, ◌-◌, get_or}
use Rattle.schedule.specs.Stage.{total}
use Rattle.floats.specs.Complexes.{blank}
use Rattle.kernel.specs.Parts.{untwiddled}
use Rattle.kernel.proofs.inner.kernel.output.Given as goal

abbrev pub invariant-loop-q : goal.invariant-loop-q
invariant-loop-q l = l.acc ≡ total untwiddled l.r (λ k. get_or l.c k blank) l.p (l.q - 1)
