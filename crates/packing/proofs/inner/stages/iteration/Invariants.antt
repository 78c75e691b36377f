-- `packing::inner::stages::iteration` meets its contract. Assumes nothing.
use Rattle.packing.specs.Parts.{Turned}
use Rattle.packing.proofs.inner.stages.iteration.Given as goal

abbrev pub invariant-loop-k : goal.invariant-loop-k
invariant-loop-k l = Turned l.turn l.lane.first l.lane.apart l.k l.initial.out l.out
