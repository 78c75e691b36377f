-- Two outcomes that meet a promise are equal. Assumes nothing.
use Rattle.sequences.proofs.Basics.{◌≡◌, ℕ, List}
use lib.Ieee.{Float}
use Rattle.refusal.proofs.Unique.{agree}
use Rattle.plan.specs.declared.Record.{Record}
use Rattle.transform.specs.Transforms.{Slices}
use Rattle.hear.specs.Hear.{NumbersDecision, Hears}
use Rattle.hear.specs.declared.Decision.{Decision}
use Rattle.hear.specs.declared.Heard.{Heard}

pub NumbersDecision_one : {d : Decision} {r s : ℕ} → NumbersDecision d r → NumbersDecision d s → r ≡ s
NumbersDecision_one a b = agree a.answer b.answer

pub Hears_one : (p : Record) (W : ℕ) (stage end xs : List Float) (lo hi : ℕ) (threshold : Float) (before : Slices) {r s : Heard} {x y : Slices}
    → Hears p W stage end xs lo hi threshold before r x → Hears p W stage end xs lo hi threshold before s y → (r ≡ s) × (x ≡ y)
Hears_one p W stage end xs lo hi threshold before a b = (agree a.answer b.answer, agree a.cells b.cells)
