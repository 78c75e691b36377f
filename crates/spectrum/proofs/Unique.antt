-- Two outcomes that meet a promise are equal. Assumes nothing.
use Rattle.sequences.proofs.Basics.{◌≡◌, ℕ, List}
use lib.Ieee.{Float}
use Rattle.refusal.specs.Refusal.{Verdict}
use Rattle.refusal.proofs.Unique.{Settles_one}
use Rattle.plan.specs.declared.Record.{Record}
use Rattle.spectrum.specs.Calls.{Forwards, Inverts}
use Rattle.transform.specs.Transforms.{Slices}

module _ (p : Record) (W : ℕ) (stage end xs : List Float) (before : Slices) {r s : Verdict} {x y : Slices} where
  pub Forwards_one : Forwards p W stage end xs before r x → Forwards p W stage end xs before s y → (r ≡ s) × (x ≡ y)
  Forwards_one a b = Settles_one a b

  pub Inverts_one : Inverts p W stage end xs before r x → Inverts p W stage end xs before s y → (r ≡ s) × (x ≡ y)
  Inverts_one a b = Settles_one a b
