-- `storing::inner::storing::step` meets its contract. Assumes nothing.
use Rattle.sequences.proofs.Basics.{arith}
use Rattle.storing.proofs.Places.{picked}
use Rattle.storing.proofs.Batches.{waiting_asks, waiting_room, waiting_within, waiting_rows, waiting_next, waiting_done}
use Rattle.storing.proofs.inner.storing.step.Goals as goal

pub overflow_sub-span : goal.overflow_sub-span
overflow_sub-span c = let p = c.requires in omega (arith, waiting_asks p.0 c.args.span.evenly p.1 p.2)

pub batch-n-requires : goal.batch-n-requires
batch-n-requires c = let p = c.requires in waiting_asks p.0 c.args.span.evenly p.1 p.2

pub overflow_add-at : goal.overflow_add-at
overflow_add-at c = let p = c.requires in omega (arith, waiting_room p.0 c.args.span.evenly p.1 p.2)

pub rows-requires : goal.rows-requires
rows-requires c = let p = c.requires in let b = c.batch-n.ensures in let w = waiting_rows p.0 c.args.span.evenly p.1 p.2 b in (w.0, w.1, b.0, b.1, w.2)

pub onward-requires : goal.onward-requires
onward-requires c = let p = c.requires in (
  waiting_within p.0 c.args.span.evenly p.1 p.2 c.batch-n.ensures,
  omega
      (arith, waiting_room p.0 c.args.span.evenly p.1 p.2),
)

pub returns : goal.returns
returns c = let a = c.args in let p = c.requires in let b = c.batch-n.ensures in let rows = c.rows in (
  waiting_next p.0 a.span.evenly p.1 p.2 b c.onward.ensures,
  omega (arith, b.1),
  λ v held. waiting_done p.0 a.span.evenly p.1 p.2 b c.pick-from.result.now.re c.pick-from.result.now.im a.dst.now rows.new.dst
      rows.ensures v (picked a.span.i a.span.len a.span.r v a.low.now a.high.now _ c.pick-from.ensures held),
)
