-- `transform::inner::stages::prepare` meets its contract. Assumes nothing.
use Rattle.sequences.proofs.Basics.{sym, arith, length-take-le}
use Rattle.transform.proofs.Transforms.{prepare_made}
use Rattle.transform.proofs.inner.stages.prepare.Goals as goal

pub slice_bounds-preprocess_ifft-end-2 : goal.slice_bounds-preprocess_ifft-end-2
slice_bounds-preprocess_ifft-end-2 c = sym (length-take-le _ _ (omega (arith, c.requires.1, c.requires.0.some)))

pub preprocess_ifft-requires : goal.preprocess_ifft-requires
preprocess_ifft-requires c = let e = c.requires.0 in (
  record {
    some = e.some;
    few = e.few;
    long = length-take-le _ _ (omega (
      arith,
      c.requires.1,
      e.some,
    ));
    lent = e.lent;
  },
  omega (arith, e.long),
)

pub returns : goal.returns
returns c = let a = c.args in prepare_made a.tables.plan.half a.tables.end_twiddles.now a.input.now a.scratch.now _ c.requires.0.some c.preprocess_ifft.ensures
