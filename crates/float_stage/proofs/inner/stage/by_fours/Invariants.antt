-- `float_stage::inner::stage::by_fours` meets its contract. Assumes nothing.
use Rattle.sequences.proofs.Basics.{◌≡◌, ◌-◌, ◌%◌, false}
use Rattle.kernel.specs.Floats.{lent_at}
use Rattle.kernel.specs.Parts.{output_of}
use Rattle.float_stage.proofs.Rounds.{Round}
use Rattle.float_stage.proofs.inner.stage.by_fours.Given as goal

abbrev pub invariant-loop-i : goal.invariant-loop-i
invariant-loop-i l =
    (l.i % 4 ≡ 0) × Round l.even l.end l.s l.r (output_of false l.m l.r l.src (lent_at l.m l.r 4 l.tw)) 0 l.low.re l.low.im l.high.re l.high.im
    l.initial.dst l.dst
    l.at.block l.at.col l.i

abbrev pub decreases-loop-i : goal.decreases-loop-i
decreases-loop-i l = l.end - l.i
