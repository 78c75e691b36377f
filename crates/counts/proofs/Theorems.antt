-- Which records are refused. Assumes nothing.
use Rattle.sequences.proofs.Basics.{◌≡◌, refl, Bool, true, false}
use Rattle.refusal.specs.Refusal.{Accepted, Refused}
use Rattle.refusal.specs.declared.Refusal.TheVariants.{NotPlanned}
use Rattle.plan.specs.declared.Record.{Record}
use Rattle.counts.specs.Counts.{record_verdict}
use Rattle.plan.specs.Record.{Plannable, is_planned}
use Rattle.plan.proofs.Records.{passes_plannable, plannable_passes}
use Rattle.counts.proofs.Counts.{record_refused, record_accepted}

-- refusal 5 is given exactly to the records that no list plans to
pub refusal_five : (p : Record) → (Plannable p → record_verdict p ≡ Accepted) × ((Plannable p → ⊥) → record_verdict p ≡ Refused (NotPlanned 0))
refusal_five p = (λ (e : Plannable p). record_accepted p (plannable_passes p e), λ (n : Plannable p → ⊥). record_refused p (fails (is_planned p) refl n))
  where
    fails : (b : Bool) → is_planned p ≡ b → (Plannable p → ⊥) → is_planned p ≡ false
    fails true e n = absurd (n (passes_plannable p e))
    fails false e n = e
