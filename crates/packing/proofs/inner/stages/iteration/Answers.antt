-- `packing::inner::stages::iteration` meets its contract. Assumes nothing.
use Rattle.sequences.proofs.Basics.{refl, ap, ◌∙◌, ◌≡◌, ◌*◌, ◌+◌, suc, arith}
use Rattle.turn.specs.Turns.{turn_at, words_of}
use Rattle.packing.proofs.Stage.{turned_next}
use Rattle.packing.proofs.inner.stages.iteration.Goals as goal

pub loop-k-preserved : goal.loop-k-preserved
loop-k-preserved c =
    let l = c.loop-k in
    let a = c.args in
    let index : (l.k + 1) * a.turn ≡ suc l.k * a.turn = omega arith in
    turned_next a.turn a.lane.first a.lane.apart l.k _ l.out _ _ _ c.requires.some
    (omega (arith, l.invariant.size, c.requires.within l.k c.loop-k-test.true)) refl
    (c.from.ensures ∙ ap words_of (c.at.ensures ∙ ap turn_at index)) c.put.ensures l.invariant
