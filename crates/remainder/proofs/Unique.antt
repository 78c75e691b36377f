-- Two outcomes that meet a promise are equal. Assumes nothing.
use Rattle.sequences.proofs.Basics.{◌≡◌, ℕ, List}
use Rattle.refusal.specs.Refusal.{Verdict}
use Rattle.refusal.proofs.Unique.{Settles_one}
use Rattle.plan.specs.declared.Record.{Record}
use Rattle.schedule.specs.Buffers.{Two}
use Rattle.remainder.specs.Calls.{Stages, Runs}

pub Stages_one : (p : Record) (j m w : ℕ) (input other : List ℕ) {r s : Verdict} {ys zs : List ℕ}
    → Stages p j m w input other r ys → Stages p j m w input other s zs → (r ≡ s) × (ys ≡ zs)
Stages_one p j m w input other a b = Settles_one a b

pub Runs_one : (p : Record) (m w : ℕ) (before : Two ℕ) {r s : Verdict} {b c : Two ℕ} → Runs p m w before r b → Runs p m w before s c → (r ≡ s) × (b ≡ c)
Runs_one p m w before a b = Settles_one a b
