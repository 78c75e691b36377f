-- `plan::accepted` meets its contract. Assumes nothing.
use Rattle.sequences.proofs.Basics.{sym, length-take-le}
use Rattle.plan.proofs.Records.{good_few, accepted_good}
use Rattle.plan.proofs.Planning.{half_fits, half_total, merged_total, answer_made}
use Rattle.plan.proofs.accepted.Goals as goal

pub half_list-half-requires : goal.half_list-half-requires
half_list-half-requires c = good_few _ (accepted_good _ c.requires.0)

pub slice_bounds-entries-end : goal.slice_bounds-entries-end
slice_bounds-entries-end c = half_fits c.args.list.now (accepted_good c.args.list.now c.requires.0) c.half_list-half.result
    c.half_list-half.ensures

pub slice_bounds-of-end : goal.slice_bounds-of-end
slice_bounds-of-end c = sym (length-take-le _ _ (half_fits c.args.list.now (accepted_good c.args.list.now c.requires.0) c.half_list-half.result
    c.half_list-half.ensures))

pub merge_all-merged-requires : goal.merge_all-merged-requires
merge_all-merged-requires c = half_total c.args.list.now (accepted_good c.args.list.now c.requires.0) c.half_list-half.result c.half_list-half.ensures
    c.of.result
    c.of.ensures

pub size-requires : goal.size-requires
size-requires c = merged_total c.args.list.now (accepted_good c.args.list.now c.requires.0) c.half_list-half.result c.half_list-half.ensures
    c.of.result c.of.ensures c.merge_all-merged.result c.merge_all-merged.ensures

pub ascending-requires : goal.ascending-requires
ascending-requires c = merged_total c.args.list.now (accepted_good c.args.list.now c.requires.0) c.half_list-half.result c.half_list-half.ensures
    c.of.result c.of.ensures c.merge_all-merged.result c.merge_all-merged.ensures

pub returns : goal.returns
returns c = answer_made c.args.list.now (accepted_good c.args.list.now c.requires.0) c.half_list-half.result c.half_list-half.ensures
    c.of.result c.of.ensures c.merge_all-merged.result c.merge_all-merged.ensures _ _ _ c.requires.1 c.size.ensures
    c.ascending.ensures
