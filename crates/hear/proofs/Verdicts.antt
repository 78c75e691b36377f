-- Laws of the call: the band decides where forward accepts, what an accepted call tells, and what a call answers and leaves. Assumes nothing.
use Rattle.sequences.proofs.Basics.{◌≡◌, refl, sym, ap, ◌∙◌, ℕ, ◌+◌, ◌-◌, ◌*◌, ◌≤◌, arith, List, length}
use lib.Ieee.{Float}
use Rattle.refusal.specs.Refusal.{left}
use Rattle.refusal.specs.declared.Refusal.{Refusal}
use Rattle.refusal.specs.Refusal.{Verdict}
use Rattle.refusal.specs.Refusal.{Accepted, Refused}
use Rattle.refusal.proofs.Rows.{accepted}
use Rattle.plan.specs.declared.Record.{Record}
use Rattle.plan.proofs.Bounds.{plan_half}
use Rattle.turn.specs.Turns.{+0}
use Rattle.transform.specs.Parts.{Forwardable}
use Rattle.transform.specs.Transforms.{Slices, forward_of}
use Rattle.spectrum.specs.Calls.{forward_verdict}
use Rattle.spectrum.proofs.Verdicts.{forwardable}
use Rattle.power.specs.Power.{power_from}
use Rattle.hear.specs.Hear.{decided, with_band, hear_verdict, heard, Hears}
use Rattle.hear.specs.declared.Decision.{Decision}
use Rattle.hear.specs.declared.Decision.TheVariants.{Fanning}
use Rattle.hear.specs.declared.Heard.{Heard}

-- the verdict on the band after that of forward
pub band_after : (v u r : Verdict) (h lo hi : ℕ) → v ≡ u → r ≡ with_band v h lo hi → r ≡ with_band u h lo hi
band_after v u r h lo hi told d = d ∙ ap (λ (x : Verdict). with_band x h lo hi) told

-- where both accept, forward does, and the bins are in order and at hand
band_told : (u : Verdict) (h lo hi : ℕ) → with_band u h lo hi ≡ Accepted → (u ≡ Accepted) × (lo ≤ hi) × (hi ≤ h)
band_told Accepted h lo hi t =
    let order : lo ≤ hi = search accepted depth 6 in let inside : hi ≤ h = search accepted depth 6 in
    let same : ◌≡◌ {A = Verdict} Accepted Accepted = refl in
    (same, order, inside)
band_told (Refused why) h lo hi t = let z : ◌≡◌ {A = ℕ} 0 1 = cc in absurd (omega arith)

-- the verdict of an answer
answered : (v : Verdict) (power threshold : Float) → (heard v power threshold).verdict ≡ v
answered Accepted power threshold = refl
answered (Refused why) power threshold = refl

module _ (p : Record) (W : ℕ) (stage end xs : List Float) (lo hi : ℕ) (threshold : Float) (before : Slices) where
  abbrev told : Verdict
  told = hear_verdict p W xs (length before.0) (length before.1) stage end lo hi

  abbrev made : Slices
  made = forward_of p W stage end xs before.1

  -- the verdict that is answered is the one told
  pub verdict_told : (r : Heard) (after : Slices) → Hears p W stage end xs lo hi threshold before r after → r.verdict ≡ told
  verdict_told r after call = ap (λ (h : Heard). h.verdict) call.answer ∙ answered told (power_from made.0 lo (hi + 1 - lo)) threshold

  -- what an accepted call tells
  pub hear_told : (v : Verdict) → v ≡ told → v ≡ Accepted
      → (forward_verdict p W xs (length before.0) (length before.1) stage end ≡ Accepted) × (lo ≤ hi) × (hi ≤ p.half)
  unfolding hear_verdict
  hear_told v t e = band_told _ p.half lo hi (sym t ∙ e)

  -- what forward asks then holds, and the bins are words of the output
  pub hear_forward : (v : Verdict) → v ≡ told → v ≡ Accepted
      → Forwardable p W (length xs) (length before.0) (length before.1) (length stage) (length end)
  hear_forward v t e = forwardable p W xs (length before.0) (length before.1) stage end _ refl (hear_told v t e).0

  pub hear_room : (v : Verdict) → v ≡ told → v ≡ Accepted → (lo ≤ hi) × (2 * (hi + 1) ≤ length before.0) × (length before.0 ≤ 8194)
  hear_room v t e =
      let f = hear_forward v t e in let b = hear_told v t e in
      (b.1, omega (arith, f.bins, b.2), omega (arith, f.bins, plan_half p f.planned))

  -- an accepted call answers the power of what forward left, and its decision
  pub hears_accepted : (v : Verdict) (x : Float) (d : Decision) (out scratch : List Float) → v ≡ told → v ≡ Accepted → out ≡ made.0 → scratch ≡ made.1
      → x ≡ power_from out lo (hi + 1 - lo) → d ≡ decided x threshold
      → Hears p W stage end xs lo hi threshold before (record { verdict = Accepted; power = x; decision = d }) (out, scratch)
  hears_accepted v x d out scratch t e eo es ex ed =
      record {
        answer = ap (λ (u : Decision). record { verdict = Accepted; power = x; decision = u }) ed ∙ ap (λ (u : Float). heard Accepted u threshold)
            (ex ∙ ap (λ (ys : List Float). power_from ys lo (hi + 1 - lo)) eo)
            ∙ ap (λ (u : Verdict). heard u (power_from made.0 lo (hi + 1 - lo)) threshold) (sym e ∙ t);
        cells = (λ i. (eo i, es i)) ∙ ap (λ (u : Verdict). left u made before) (sym e ∙ t);
      }

  -- a refused one answers +0 and fanning, and leaves what was lent
  pub hears_refused : (v : Verdict) (why : Refusal) → v ≡ told → v ≡ Refused why
      → Hears p W stage end xs lo hi threshold before (record { verdict = Refused why; power = +0; decision = Fanning }) before
  hears_refused v why t e =
      record {
        answer = ap (λ (u : Verdict). heard u (power_from made.0 lo (hi + 1 - lo)) threshold) (sym e ∙ t);
        cells = ap (λ (u : Verdict). left u made before) (sym e ∙ t);
      }
