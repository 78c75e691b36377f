-- `storing::inner::storing::piece` meets its contract. Assumes nothing.
use Rattle.sequences.proofs.Basics.{◌≡◌, arith}
use Rattle.storing.proofs.Writes.{wrote_all}
use Rattle.storing.proofs.inner.storing.piece.Goals as goal

pub returns-in-4 : goal.returns-in-4
returns-in-4 c = let all : 4 ≡ c.args.n = omega arith in
    wrote_all _ _ _ all c.row.ensures

pub returns-in-2 : goal.returns-in-2
returns-in-2 c = let all : 2 ≡ c.args.n = omega arith in
    wrote_all _ _ _ all c.row-in-2.ensures

pub returns-in_default : goal.returns-in_default
returns-in_default c = let all : 1 ≡ c.args.n =
    omega (arith, c.requires.0.1) in
    wrote_all _ _ _ all c.row-in_default.ensures
