-- Wrong programs that the promises shut out, at h 6, m 7, w 3 and the samples 0, 1, 0, 0, 0, 0. Assumes nothing.
use Rattle.sequences.proofs.Basics.{◌≡◌, refl, ℕ, arith, true, List, [], ◌∷◌, length, le_refl}
use Rattle.sequences.specs.Lists.{first_that}
use Rattle.refusal.specs.Refusal.{Verdict}
use Rattle.counts.specs.Counts.{stride, result_in}
use Rattle.radices.specs.Lists.{product, padded, eq_list, count_of}
use Rattle.merging.specs.Merging.{tally, sorted}
use Rattle.plan.specs.Record.{is_planned, in_order, sized}
use Rattle.plan.specs.declared.Record.{Record}
use Rattle.schedule.specs.Plans.{in_use}
use Rattle.remainder.specs.Calls.{Lent, Stages, Runs, first_large}
use Rattle.residues.specs.Residues.{Under}
use Rattle.remainder.specs.Sums.{sum, transform, block_sum}
use Rattle.remainder.proofs.Verdicts.{none_large}
use Rattle.remainder.proofs.Theorems.{chain_blocks, run_transforms}

-- the plan of 3, 2, 2
abbrev twelve : Record
twelve = record { n = 12; half = 6; count = 2; radices = 2 ∷ 3 ∷ 0 ∷ 0 ∷ 0 ∷ 0 ∷ 0 ∷ 0 ∷ 0 ∷ 0 ∷ 0 ∷ 0 ∷ 0 ∷ [] }

abbrev pulse : List ℕ
pulse = 0 ∷ 1 ∷ 0 ∷ 0 ∷ 0 ∷ 0 ∷ []

-- its transform
abbrev spectrum : List ℕ
spectrum = 1 ∷ 3 ∷ 2 ∷ 6 ∷ 4 ∷ 5 ∷ []

twelve_planned : is_planned twelve ≡ true
unfolding is_planned in_order sized product tally sorted padded eq_list count_of
twelve_planned = refl

pulse_under : Under 7 6 pulse
unfolding first_large first_that
pulse_under = none_large 7 pulse (le_refl 6)

lent : Lent twelve 7 3 pulse
lent = record { planned = twelve_planned; modulus = omega arith; base = omega arith; circle = refl; long = refl; cells = pulse_under }

-- a run that writes nothing
pub writes_nothing : (scratch : List ℕ) → length scratch ≡ 6 → (r : Verdict) → Runs twelve 7 3 (pulse, scratch) r (pulse, scratch) → ⊥
unfolding result_in transform sum
writes_nothing scratch e r s =
    let first : ◌≡◌ {A = ℕ} 0 1 = run_transforms twelve 7 3 pulse lent scratch e r (pulse, scratch) s 0 (omega arith) in
    omega arith

-- a first stage that does the whole transform, whatever the later ones do
pub whole_at_once : (other : List ℕ) → length other ≡ 6 → (r : Verdict) → Stages twelve 0 7 3 pulse other r spectrum → ⊥
unfolding stride in_use product block_sum sum
whole_at_once other e r s =
    let first : ◌≡◌ {A = ℕ} 1 0 = chain_blocks twelve 7 3 pulse lent 1 (omega arith) spectrum (pulse, (other, (r, (refl, (e, s))))) 0 0 (omega arith)
    (omega arith) in
    omega arith
