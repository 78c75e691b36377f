-- `Tally::ascending` meets its contract. Assumes nothing.
use Rattle.sequences.proofs.Basics.{◌∙◌, ap}
use Rattle.radices.specs.Lists.{padded}
use Rattle.radices.proofs.Lists.{listed_entries}
use Rattle.merging.proofs.Merging.{sorted_runs}
use Rattle.merging.proofs.inner.merging.Tally.ascending.Goals as goal

pub returns : goal.returns
returns c =
    let p2 = c.push_times.ensures.list _ c.new-all.ensures.list in let p3 = c.push_times-2.ensures.list _ p2 in
    let p4 = c.push_times-3.ensures.list _ p3 in let p5 = c.push_times-4.ensures.list _ p4 in
    let p7 = c.push_times-5.ensures.list _ p5 in
    listed_entries _ _ (c.push_times-6.ensures.list _ p7) ∙ ap padded (sorted_runs c.args.self)
