-- `transform::inner::stages::finish` meets its contract. Assumes nothing.
use Rattle.sequences.proofs.Basics.{ap, ◌∙◌, arith, length}
use Rattle.ends.specs.Ends.{postprocess_fft}
use Rattle.scratch.proofs.Scratch.{part_long}
use Rattle.transform.proofs.inner.stages.finish.Goals as goal

pub postprocess_fft-requires : goal.postprocess_fft-requires
postprocess_fft-requires c = (
  c.requires.0,
  omega (
    arith,
    ap length c.part.ensures,
    part_long c.args.tables.plan.half c.args.scratch.now c.requires.1
        c.args.which,
  ),
)

pub returns : goal.returns
returns c = let a = c.args in c.postprocess_fft.ensures ∙ ap (postprocess_fft a.tables.plan.half a.tables.end_twiddles.now) c.part.ensures
