-- `scratch::inner::restoring::from_data` meets its contract. Assumes nothing.
use Rattle.sequences.proofs.Basics.{length-take-le}
use Rattle.scratch.proofs.Scratch.{pad_length, choice_long, data_restored}
use Rattle.scratch.proofs.inner.restoring.from_data.Goals as goal

pub returns : goal.returns
returns c = let a = c.args in
    let both = data_restored a.h a.scratch.now a.output.now _ _ _ _ c.requires.1
    (choice_long a.ran _ _ _ (length-take-le _ _ c.requires.2) (pad_length a.h a.scratch.now c.requires.1))
    c.keep_pad.ensures c.conjugate_front.ensures c.copy_front.ensures in
    record { scratch_after = both.0; output_after = both.1 }
