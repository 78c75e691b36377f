-- `counts::inner::stages::twiddle_start` meets its contract. Assumes nothing.
use Rattle.sequences.proofs.Basics.{◌≡◌, ◌*◌, ◌≤◌}
use Rattle.counts.specs.Counts.{twiddle_start}
use Rattle.counts.proofs.inner.stages.twiddle_start.Given as goal

abbrev pub invariant-loop-i : goal.invariant-loop-i
invariant-loop-i l = record { small : l.sum ≤ 28672 * l.i; start : l.sum ≡ twiddle_start l.plan.half l.plan.radices l.i }
