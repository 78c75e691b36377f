-- `call_of` ends: each turn takes a word at least.
use Rattle.listen_input.proofs.inner.options.call_of.Given as goal

abbrev pub decreases-loop-place : goal.decreases-loop-place
decreases-loop-place l = l.words.left
