-- `Tally::merge_all` meets its contract. Assumes nothing.
use Rattle.sequences.proofs.Basics.{sym}
use Rattle.merging.proofs.Merging.{so_far_none, so_far_fits, so_far_step, so_far_end, falls_at}
use Rattle.merging.proofs.inner.merging.Tally.merge_all.Goals as goal

pub merging-init : goal.merging-init
merging-init c = so_far_none c.args.self c.requires

pub bounds-letters-count : goal.bounds-letters-count
bounds-letters-count c = so_far_fits _ _ _ _ c.merging.invariant c.in-Some.rule (sym c.in-Some.ensures)

pub merging-smaller : goal.merging-smaller
merging-smaller c = rw c.merge-tally.ensures (falls_at c.merging.tally c.in-Some.rule (sym c.in-Some.ensures)).0

pub merging-preserved : goal.merging-preserved
merging-preserved c = rw (c.merge-tally.ensures, c.letter.ensures) (so_far_step _ _ _ _ c.merging.invariant c.in-Some.rule (sym c.in-Some.ensures))

pub returns : goal.returns
returns c = so_far_end c.args.self _ _ _ c.merging.invariant (sym c.in_default.ensures)
