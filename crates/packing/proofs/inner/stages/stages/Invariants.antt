-- `packing::inner::stages::stages` meets its contract. Assumes nothing.
use Rattle.sequences.proofs.Basics.{◌≡◌, ◌*◌, length, take}
use Rattle.counts.specs.Counts.{twiddle_start}
use Rattle.schedule.specs.Plans.{in_use}
use Rattle.packing.specs.Twiddles.{stages_words}
use Rattle.packing.proofs.inner.stages.stages.Given as goal

abbrev pub invariant-loop-j : goal.invariant-loop-j
invariant-loop-j l =
    (length l.out ≡ length l.initial.out)
    × (take (2 * twiddle_start l.plan.half l.plan.radices l.j) l.out ≡ stages_words l.plan.half (in_use l.plan) l.width l.j)
