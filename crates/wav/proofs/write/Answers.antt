-- `wav::write` meets its contract. Assumes nothing.
use Rattle.sequences.proofs.Basics.{sym, ◌∙◌}
use Rattle.refusal.proofs.Rows.{settles_accepted}
use Rattle.wav.proofs.Calls.{write_told}
use Rattle.wav.proofs.Files.{file_made}
use Rattle.wav.proofs.write.Goals as goal

pub returns : goal.returns
returns c = let a = c.args in let told = write_told a.rate a.samples.now _ _ c.lent.ensures c.in_ok-lent.was in
    settles_accepted _ _ _ _ (sym c.in_ok-lent.was ∙ c.lent.ensures)
    (file_made a.rate a.samples.now a.file.now _ _ _ told.1 c.header.ensures c.lay.ensures c.write_samples.ensures)
