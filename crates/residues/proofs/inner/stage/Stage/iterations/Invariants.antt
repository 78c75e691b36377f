-- `residues::inner::stage::Stage::iterations` meets its contract. Assumes nothing.
use Rattle.sequences.proofs.Basics.{◌≡◌, length}
use Rattle.residues.specs.Parts.{output_of, Made}
use Rattle.residues.proofs.Stage.{Standing}
use Rattle.residues.proofs.inner.stage.Stage.iterations.Given as goal

abbrev pub invariant-loop-i : goal.invariant-loop-i
invariant-loop-i g l =
    let s = l.self in
    (length l.dst ≡ length l.initial.dst) × Standing s.modulus s.step s.stride g.row.R l.i l.block l.column l.v
    × Made s.stride g.row.R (output_of s.modulus s.step s.apart s.stride g.row.R l.src s.turns) l.dst l.i
