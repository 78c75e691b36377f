-- Two outcomes that meet a promise are equal. Assumes nothing.
use Rattle.sequences.proofs.Basics.{◌≡◌, ℕ, List}
use lib.Ieee.{Float}
use Rattle.refusal.specs.Refusal.{Verdict}
use Rattle.refusal.proofs.Unique.{Settles_one}
use Rattle.plan.specs.declared.Record.{Record}
use Rattle.stage.specs.Calls.{Stages}

pub Stages_one : (p : Record) (j W : ℕ) (input output twiddles : List Float) {r s : Verdict} {ys zs : List Float}
    → Stages p j W input output twiddles r ys → Stages p j W input output twiddles s zs → (r ≡ s) × (ys ≡ zs)
Stages_one p j W input output twiddles a b = Settles_one a b
