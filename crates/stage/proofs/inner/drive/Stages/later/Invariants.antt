-- `stage::inner::drive::Stages::later` meets its contract. Assumes nothing.
use Rattle.sequences.proofs.Basics.{◌≡◌, ◌*◌, length}
use Rattle.counts.specs.Counts.{twiddle_start}
use Rattle.stage.specs.Runs.{stage_in}
use Rattle.stage.proofs.Runs.{Going}
use Rattle.stage.proofs.inner.drive.Stages.later.Given as goal

abbrev pub invariant-loop-k : goal.invariant-loop-k
invariant-loop-k l = (l.start ≡ twiddle_start l.self.plan.half l.self.plan.radices l.k) × (length l.«data» ≡ 2 * l.self.plan.half)
    × (length l.scratch ≡ 2 * l.self.plan.half)
    × Going (stage_in l.self.plan l.self.width l.self.twiddles.now) l.initial.scratch l.«data» l.scratch l.k
