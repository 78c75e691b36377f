-- `listening::inner::window::window` meets its contract. Assumes nothing.
use Rattle.sequences.proofs.Basics.{◌≡◌, arith, length}
use lib.Ieee.{nan}
use Rattle.sequences.proofs.Tables.{table_all}
use Rattle.listening.specs.Block.{weight, hann}
use Rattle.listening.proofs.inner.window.window.Goals as goal

pub returns : goal.returns
unfolding hann
returns c =
    let l = c.loop-i in
    let long : length l.out ≡ length c.args.out.now = omega arith in
    let all : l.i ≡ length c.args.out.now = omega arith in
    table_all (weight (length c.args.out.now)) l.out _ nan long (rw all at l.invariant)
