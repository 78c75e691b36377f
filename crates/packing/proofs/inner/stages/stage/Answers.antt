-- `packing::inner::stages::stage` meets its contract. Assumes nothing.
use Rattle.sequences.proofs.Basics.{◌∙◌, arith}
use lib.Ieee.{nan}
use Rattle.packing.proofs.Circle.{housed_small}
use Rattle.packing.proofs.Fill.{all_placed}
use Rattle.packing.proofs.Stage.{lane_turnable, stage_next}
use Rattle.packing.proofs.inner.stages.stage.Goals as goal

pub overflow_mul-step : goal.overflow_mul-step
overflow_mul-step c = omega (arith, housed_small _ c.requires.circle)

pub iteration-requires : goal.iteration-requires
iteration-requires c =
    let l = c.loop-i in
    rw l.invariant.0 (lane_turnable _ _ _ _ _ c.args.packing.small c.requires l.i c.loop-i-test.true _ c.lane.ensures)

pub loop-i-preserved : goal.loop-i-preserved
loop-i-preserved c =
    let l = c.loop-i in
    stage_next _ _ _ _ _ c.args.packing.small c.requires l.i c.loop-i-test.true _ c.lane.ensures l.out _ l.invariant.0 l.invariant.1 c.iteration.ensures

pub returns : goal.returns
returns c =
    let l = c.loop-i in
    all_placed nan _ _ _ c.args.packing.small.lane _ l.out (l.invariant.0 ∙ c.requires.long) (λ i k li. l.invariant.1 i k (omega arith))
