-- `listening::inner::window::weigh` meets its contract. The invariant: what is weighed, with what is left weighed, is what is wanted. Assumes nothing.
use Rattle.sequences.proofs.Basics.{◌≡◌, ◌++◌, take, drop}
use Rattle.listening.specs.Block.{weighed}
use Rattle.listening.proofs.inner.window.weigh.Given as goal

abbrev pub invariant-loop-i : goal.invariant-loop-i
invariant-loop-i l = take l.i l.samples ++ weighed (drop l.i l.samples) (drop l.i l.weights) ≡ weighed l.initial.samples l.weights
