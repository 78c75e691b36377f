-- `residues::inner::stage::Stage::cells` meets its contract. Assumes nothing.
use Rattle.sequences.proofs.Basics.{◌≡◌, ℕ, ◌%◌, ◌^◌, ◌<◌, get_or, length}
use Rattle.residues.specs.Parts.{read_of}
use Rattle.residues.proofs.inner.stage.Stage.cells.Given as goal

abbrev pub invariant-loop-q : goal.invariant-loop-q
invariant-loop-q g l =
    (length l.cells ≡ g.row.R) × (l.power ≡ l.v ^ l.q % l.self.modulus)
    × ((k : ℕ) → k < l.q → get_or l.cells k 0 ≡ read_of l.self.modulus l.v l.self.apart l.src l.i k)
