-- `residues::inner::stage::Stage::every` meets its contract. Assumes nothing.
use Rattle.sequences.proofs.Basics.{◌+◌, ◌*◌}
use Rattle.schedule.specs.Parts.{Every}
use Rattle.residues.specs.Parts.{kernel_of, Spread}
use Rattle.residues.specs.Residues.{cells}
use Rattle.residues.proofs.inner.stage.Stage.every.Given as goal

abbrev pub invariant-loop-k : goal.invariant-loop-k
invariant-loop-k g l =
    Spread (Every l.b (l.b + 2 * l.k)) l.to l.self.stride (kernel_of l.self.modulus l.self.turns g.row.R (cells l.c)) l.initial.dst l.dst
