-- `ends::inner::cells::Row::pairs` meets its contract. Assumes nothing.
use Rattle.sequences.proofs.Basics.{◌∙◌, arith}
use Rattle.ends.proofs.inner.cells.Row.pairs.Goals as goal

pub step-requires : goal.step-requires
step-requires g c = let l = c.loop-k in (
  record {
    some = l.invariant.0;
    few = c.requires.0.few;
    short = omega arith;
    room = omega arith;
    long = c.requires.1;
    lent = c.requires.0.lent;
  },
  l.invariant.2 ∙ c.requires.0.long,
)

pub loop-k-preserved : goal.loop-k-preserved
loop-k-preserved g c = let l = c.loop-k in let q = c.step in let few = c.requires.0.few in (
  omega arith,
  omega arith,
  q.auto.out ∙ l.invariant.2,
  λ p. q.ensures (l.invariant.3 p),
)
