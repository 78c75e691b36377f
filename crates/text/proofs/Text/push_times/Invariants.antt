-- `push_times` adds the byte so many times. The invariant: it is added as often as the loop has turned. Assumes nothing.
use Rattle.sequences.proofs.Basics.{replicate}
use Rattle.text.specs.Growing.{Adds}
use Rattle.text.proofs.Text.push_times.Given as goal

abbrev pub invariant-loop : goal.invariant-loop
invariant-loop l = Adds l.initial.self (replicate l.counter l.sign) l.counter l.self
