-- `residues::inner::stage::Stage::iteration` meets its contract. Assumes nothing.
use Rattle.sequences.proofs.Basics.{refl, arith}
use Rattle.schedule.proofs.Fill.{every_both, wrote_as}
use Rattle.residues.proofs.Arms.{steps_apart}
use Rattle.residues.proofs.Iteration.{kernel_same}
use Rattle.residues.proofs.inner.stage.Stage.iteration.Goals as goal

pub returns : goal.returns
returns g c =
    let s = c.args.self.now in
    wrote_as (λ p l. (refl, kernel_same s.modulus s.turns g.row.R _ _ (omega (arith, c.requires.0.some)) c.cells-c.ensures p))
    (every_both (steps_apart c.args.to s.stride s.lent.stride) g.row.R c.every.ensures c.every-2.ensures)
