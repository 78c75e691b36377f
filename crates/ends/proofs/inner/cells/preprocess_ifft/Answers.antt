-- `ends::inner::cells::preprocess_ifft` meets its contract. Assumes nothing.
use Rattle.sequences.proofs.Basics.{ap, arith}
use Rattle.floats.specs.Complexes.{cell}
use Rattle.mixing.specs.Steps.{ifft_steps}
use Rattle.mixing.specs.Parts.{conjugating}
use Rattle.ends.proofs.inner.cells.preprocess_ifft.Goals as goal

pub end-requires : goal.end-requires
end-requires c = let e = c.get.ensures in (
  c.requires.0,
  omega (arith, c.requires.1),
  record {
    first = ap ((conjugating ifft_steps).first (cell
        c.args.cells.now 0)) e;
    last = e;
  },
)
