-- `spaced_radices` adds the radices in turn. Assumes nothing.
use Rattle.sequences.proofs.Basics.{arith}
use Rattle.text.proofs.Growing.{then, said, spaced_next}
use Rattle.plan_text.proofs.inner.lines.spaced_radices.Goals as goal

pub loop-radix-preserved : goal.loop-radix-preserved
loop-radix-preserved c = let l = c.loop-radix in
    said (spaced_next c.args.radices.now l.radix-index (omega arith)) (omega arith) (then l.invariant c.push_radix.ensures)
