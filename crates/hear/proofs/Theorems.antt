-- What a reader opens first: an accepted hearing leaves what forward leaves and answers the power of its bins, quiet exactly where that is below the
-- threshold; a refused one leaves what was lent and is fanning, and a threshold that is a NaN is never quiet. Assumes nothing.
use Rattle.sequences.proofs.Basics.{◌≡◌, refl, sym, ap, ◌∙◌, ℕ, ◌+◌, ◌-◌, ◌≤◌, Bool, true, false, cond, List, length}
use lib.Ieee.{Float, nan, inf, fin, lt}
use Rattle.refusal.specs.Refusal.{left}
use Rattle.refusal.specs.declared.Refusal.{Refusal}
use Rattle.refusal.specs.Refusal.{Verdict}
use Rattle.refusal.specs.Refusal.{Accepted, Refused}
use Rattle.refusal.proofs.Rows.{settles_accepted}
use Rattle.plan.specs.declared.Record.{Record}
use Rattle.transform.specs.Transforms.{Slices, forward_of}
use Rattle.spectrum.specs.Calls.{Forwards}
use Rattle.power.specs.Power.{power_from}
use Rattle.hear.specs.Hear.{decided, hear_verdict, heard, Hears}
use Rattle.hear.specs.declared.Decision.TheVariants.{Fanning, Quiet}
use Rattle.hear.specs.declared.Heard.{Heard}
use Rattle.hear.proofs.Verdicts.{hear_told, verdict_told}

-- nothing is below a NaN
pub nan_brakes : (power : Float) → decided power nan ≡ Fanning
unfolding decided lt
nan_brakes nan = refl
nan_brakes (inf s) = refl
nan_brakes (fin s m e) = refl

module _ (p : Record) (W : ℕ) (stage end xs : List Float) (lo hi : ℕ) (threshold : Float) (before : Slices) (r : Heard) (after : Slices)
    (call : Hears p W stage end xs lo hi threshold before r after) where
  abbrev told : Verdict
  told = hear_verdict p W xs (length before.0) (length before.1) stage end lo hi

  abbrev made : Slices
  made = forward_of p W stage end xs before.1

  abbrev sum : Float
  sum = power_from made.0 lo (hi + 1 - lo)

  is_told : r.verdict ≡ told
  is_told = verdict_told p W stage end xs lo hi threshold before r after call

  answer_is : (v : Verdict) → r.verdict ≡ v → r ≡ heard v sum threshold
  answer_is v e = call.answer ∙ ap (λ (u : Verdict). heard u sum threshold) (sym is_told ∙ e)

  left_is : (v : Verdict) → r.verdict ≡ v → after ≡ left v made before
  left_is v e = call.cells ∙ ap (λ (u : Verdict). left u made before) (sym is_told ∙ e)

  -- ---- an accepted hearing

  module _ (e : r.verdict ≡ Accepted) where
    -- the band is bins of the spectrum, in order
    pub heard_band : (lo ≤ hi) × (hi ≤ p.half)
    heard_band = let t = hear_told p W stage end xs lo hi threshold before r.verdict is_told e in (t.1, t.2)

    -- what is left is what forward leaves
    pub heard_forward : Forwards p W stage end xs before Accepted after
    heard_forward = settles_accepted _ _ _ _ (sym (hear_told p W stage end xs lo hi threshold before r.verdict is_told e).0) (left_is Accepted e)

    -- the power is that of its bins
    pub heard_power : r.power ≡ power_from after.0 lo (hi + 1 - lo)
    heard_power = ap (λ (h : Heard). h.power) (answer_is Accepted e) ∙ ap (λ (s : Slices). power_from s.0 lo (hi + 1 - lo)) (sym (left_is Accepted e))

    decision : r.decision ≡ decided r.power threshold
    decision = ap (λ (h : Heard). h.decision) (answer_is Accepted e)
        ∙ ap (λ (x : Float). decided x threshold) (sym (ap (λ (h : Heard). h.power) (answer_is Accepted e)))

    -- fanning where the power is not below the threshold
    pub heard_fanning : lt r.power threshold ≡ false → r.decision ≡ Fanning
    unfolding decided
    heard_fanning b = decision ∙ ap (λ (u : Bool). cond u Quiet Fanning) b

    -- quiet where it is
    pub heard_quiet : lt r.power threshold ≡ true → r.decision ≡ Quiet
    unfolding decided
    heard_quiet b = decision ∙ ap (λ (u : Bool). cond u Quiet Fanning) b

  -- ---- a refused one

  module _ (why : Refusal) (e : r.verdict ≡ Refused why) where
    -- it leaves what was lent
    pub heard_kept : after ≡ before
    heard_kept = left_is (Refused why) e

    -- and brakes
    pub refused_brakes : r.decision ≡ Fanning
    refused_brakes = ap (λ (h : Heard). h.decision) (answer_is (Refused why) e)
