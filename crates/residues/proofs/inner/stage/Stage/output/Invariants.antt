-- `residues::inner::stage::Stage::output` meets its contract. Assumes nothing.
use Rattle.sequences.proofs.Basics.{◌≡◌, ◌-◌, ◌<◌}
use Rattle.schedule.specs.Stage.{total}
use Rattle.residues.specs.Parts.{lent_by}
use Rattle.residues.specs.Residues.{cells}
use Rattle.residues.proofs.inner.stage.Stage.output.Given as goal

abbrev pub invariant-loop-q : goal.invariant-loop-q
invariant-loop-q g l = (l.sum < l.self.modulus) × (l.sum ≡ total (lent_by l.self.modulus 1 l.self.turns) g.row.R (cells l.c) l.p (l.q - 1))
