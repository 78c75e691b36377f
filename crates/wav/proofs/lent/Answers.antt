-- `lent` goes down the rows of a file to write. Assumes nothing.
use Rattle.refusal.proofs.Rows.{deciding}
use Rattle.wav.specs.Wav.{write_verdict}
use Rattle.wav.proofs.lent.Goals as goal

pub returns-in-Some : goal.returns-in-Some
unfolding write_verdict
returns-in-Some c = let unfit = c.in-Some.ensures in search (deciding, unfit.0, unfit.1) depth 20

pub returns : goal.returns
unfolding write_verdict
returns c = let fit = c.in_default.ensures in search (deciding, fit) depth 20
