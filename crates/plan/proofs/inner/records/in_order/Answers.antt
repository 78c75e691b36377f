-- `plan::inner::records::in_order` meets its contract. Assumes nothing.
use Rattle.sequences.proofs.Basics.{◌∙◌, arith}
use Rattle.plan.proofs.Records.{order_long, counted_few, order_uncounted, order_low, order_same, same_arrays}
use Rattle.plan.proofs.inner.records.in_order.Goals as goal

pub returns-then-count-gt13 : goal.returns-then-count-gt13
returns-then-count-gt13 c = order_long c.args.count c.args.radices c.if-count-gt13.true

pub size-requires : goal.size-requires
size-requires c = counted_few c.args.count c.args.radices c.of-tally.result c.of-tally.ensures c.if-count-gt13.false

pub returns-then-size-count : goal.returns-then-size-count
returns-then-size-count c = order_uncounted c.args.count c.args.radices c.of-tally.result c.of-tally.ensures c.if-count-gt13.false c.size.result
    c.size.ensures c.if-size-count.true

pub overflow_add-tally : goal.overflow_add-tally
overflow_add-tally c = omega (arith, counted_few c.args.count c.args.radices c.of-tally.result c.of-tally.ensures c.if-count-gt13.false)

pub returns-then-tally-gt1 : goal.returns-then-tally-gt1
returns-then-tally-gt1 c = order_low c.args.count c.args.radices c.of-tally.result c.of-tally.ensures c.if-count-gt13.false c.size.result
    c.size.ensures c.if-size-count.false c.if-tally-gt1.true

pub ascending-requires : goal.ascending-requires
ascending-requires c = counted_few c.args.count c.args.radices c.of-tally.result c.of-tally.ensures c.if-count-gt13.false

pub returns : goal.returns
returns c = c.eq.ensures ∙ same_arrays c.args.radices c.ascending.result
    ∙ order_same c.args.count c.args.radices c.of-tally.result c.of-tally.ensures c.if-count-gt13.false
    c.size.result c.size.ensures c.if-size-count.false c.if-tally-gt1.false _ c.ascending.ensures
