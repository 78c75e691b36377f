-- `transform::inner::stages::part` meets its contract. Assumes nothing.
use Rattle.sequences.proofs.Basics.{sym, ap, ◌∙◌, List}
use lib.Ieee.{Float}
use Rattle.schedule.specs.Buffers.{held_in}
use Rattle.scratch.specs.Scratch.{data_of}
use Rattle.scratch.proofs.Scratch.{data_length, pad_part}
use Rattle.transform.proofs.inner.stages.part.Goals as goal

pub slice_bounds-held-end : goal.slice_bounds-held-end
slice_bounds-held-end c = sym (data_length _ _ c.requires.1)

pub returns : goal.returns
returns c = let a = c.args in
    c.held.ensures ∙ ap (λ (pad : List Float). held_in a.which (data_of a.h a.scratch.now, pad)) (pad_part a.h a.scratch.now)
