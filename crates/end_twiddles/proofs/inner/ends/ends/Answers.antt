-- `end_twiddles::inner::ends::ends` meets its contract. Assumes nothing.
use Rattle.sequences.proofs.Basics.{◌∙◌, ap, ◌+◌, ◌<◌, arith, length}
use Rattle.sequences.specs.Pairs.{pair_at}
use Rattle.sequences.proofs.Pairs.{length_put, pair_more}
use lib.Ieee.{nan}
use Rattle.counts.specs.Counts.{end_count}
use Rattle.end_twiddles.specs.Ends.{end_twiddle}
use Rattle.end_twiddles.proofs.Ends.{end_index, end_next, ends_done}
use Rattle.end_twiddles.proofs.inner.ends.ends.Goals as goal

pub overflow_mul-k : goal.overflow_mul-k
overflow_mul-k c = omega (arith, end_index c.args.n c.requires.housed c.loop-k.k (omega arith))

pub at-requires : goal.at-requires
at-requires c = end_index c.args.n c.requires.housed c.loop-k.k (omega arith)

pub loop-k-preserved : goal.loop-k-preserved
loop-k-preserved c =
    let l = c.loop-k in
    let early : l.k < end_count c.args.n = omega arith in
    let next = end_next c.args.n c.requires.housed c.args.direction l.k early _ _ _ c.at.ensures c.from-words.ensures c.directed.ensures in
    let put = c.put.ensures in (
      ap length put ∙ length_put l.out l.k _ ∙ l.invariant.0,
      λ p lp. ap (λ ys. pair_at nan ys p) put
          ∙ pair_more nan (λ k. end_twiddle c.args.direction c.args.n (k + 1)) l.out l.k _ (omega arith) next l.invariant.1 p lp,
    )

pub returns : goal.returns
returns c =
    let l = c.loop-k in
    ends_done c.args.direction c.args.n l.out (l.invariant.0 ∙ c.requires.long) (λ p lp. l.invariant.1 p (omega arith))
