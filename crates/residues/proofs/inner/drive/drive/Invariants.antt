-- `residues::inner::drive::drive` meets its contract. Assumes nothing.
use Rattle.residues.proofs.Runs.{Left}
use Rattle.residues.proofs.inner.drive.drive.Given as goal

abbrev pub invariant-loop-k : goal.invariant-loop-k
invariant-loop-k l = Left l.plan l.m l.w l.initial.«data» l.initial.scratch l.«data» l.scratch l.k
