-- `scaling::inner::scaling::gain` meets its contract. Assumes nothing.
use Rattle.sequences.proofs.Basics.{◌≡◌, ◌-◌, ◌*◌, ◌^◌, ◌<◌, ◌≤◌}
use Rattle.scaling.specs.Scaling.{gain as gainOf, gain_from}
use Rattle.scaling.proofs.inner.scaling.gain.Given as goal

abbrev pub invariant-loop-reached : goal.invariant-loop-reached
invariant-loop-reached l = (l.target ≤ 4096) × ((l.reached ≤ 8192)
    × ((l.g < l.reached) × ((l.reached ≡ 2 ^ l.g * l.base) × (gainOf l.target l.base ≡ gain_from (l.target - l.g) l.g l.target l.base))))

abbrev pub decreases-loop-reached : goal.decreases-loop-reached
decreases-loop-reached l = l.target - l.g
