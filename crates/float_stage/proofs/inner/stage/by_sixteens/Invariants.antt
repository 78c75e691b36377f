-- `float_stage::inner::stage::by_sixteens` meets its contract. Assumes nothing.
use Rattle.sequences.proofs.Basics.{◌≡◌, ◌-◌, ◌*◌, ◌/◌, ◌≤◌, false, length}
use Rattle.kernel.specs.Floats.{lent_at}
use Rattle.kernel.specs.Parts.{output_of}
use Rattle.float_stage.proofs.Rounds.{Round}
use Rattle.float_stage.proofs.inner.stage.by_sixteens.Given as goal

abbrev pub invariant-loop-i : goal.invariant-loop-i
invariant-loop-i l =
    (length l.t ≡ 224) × (l.w ≡ 4 → l.m / 4 * 4 ≤ l.i)
    × Round l.even l.m l.s l.r (output_of false l.m l.r l.src (lent_at l.m l.r l.w l.tw)) l.end l.low.re l.low.im l.high.re l.high.im l.initial.dst l.dst
    l.at.block l.at.col l.i

abbrev pub decreases-loop-i : goal.decreases-loop-i
decreases-loop-i l = l.m - l.i
