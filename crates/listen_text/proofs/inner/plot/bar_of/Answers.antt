-- `bar_of` counts no sign, 60, or one for each 1.5 decibels above -90. Assumes nothing.
use Rattle.sequences.proofs.Basics.{lt-ltb, le-ltb, rules}
use Rattle.listen_text.specs.Lines.{bar_of}
use Rattle.listen_text.proofs.inner.plot.bar_of.Goals as goal

pub returns-then-level-lt15100 : goal.returns-then-level-lt15100
unfolding bar_of
returns-then-level-lt15100 c = search (rules, lt-ltb, le-ltb)

pub returns-then-level-gt16000 : goal.returns-then-level-gt16000
unfolding bar_of
returns-then-level-gt16000 c = search (rules, lt-ltb, le-ltb)

pub returns : goal.returns
unfolding bar_of
returns c = search (rules, lt-ltb, le-ltb)
