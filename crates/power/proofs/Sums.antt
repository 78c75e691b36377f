-- Laws of the power of bins: one bin more, which calls are accepted, and what they tell. Assumes nothing.
use Rattle.sequences.proofs.Basics.{◌≡◌, sym, ap, ap₂, ◌∙◌, ℕ, ◌+◌, ◌*◌, ◌/◌, ◌%◌, ◌≤◌, ◌<◌, add-one, arith, List, length}
use lib.Ieee.{Float, binary32, add}
use Rattle.refusal.specs.Refusal.{Verdict}
use Rattle.refusal.specs.Refusal.{Accepted}
use Rattle.refusal.proofs.Rows.{deciding, accepted}
use Rattle.floats.specs.Complexes.{cell}
use Rattle.scan.specs.Scan.{first_unfit}
use Rattle.floats.specs.declared.complex.Complex.{Complex}
use Rattle.power.specs.Power.{power_of, power_from, power_verdict}

pub power_next : (xs : List Float) (lo k : ℕ) (sum : Float) (z : Complex) → sum ≡ power_from xs lo k → z ≡ cell xs (lo + k)
    → add binary32 sum (power_of z) ≡ power_from xs lo (k + 1)
unfolding power_from
power_next xs lo k sum z e f = ap₂ (λ (u : Float) (v : Complex). add binary32 u (power_of v)) e f ∙ ap (power_from xs lo) (sym (add-one k))

-- ---- the verdict

pub bins_fit : (xs : List Float) (lo hi : ℕ) → length xs % 2 ≡ 0 → 4 ≤ length xs → length xs ≤ 8194 → lo ≤ hi → hi < length xs / 2
    → length xs ≤ first_unfit 48 xs
    → Accepted ≡ power_verdict xs lo hi
unfolding power_verdict
bins_fit xs lo hi even some few order inside fit = search deciding depth 8

pub bins_told : (xs : List Float) (lo hi : ℕ) (v : Verdict) → v ≡ power_verdict xs lo hi → v ≡ Accepted → (lo ≤ hi) × (2 * (hi + 1) ≤ length xs)
    × (length xs ≤ 8194)
unfolding power_verdict
bins_told xs lo hi v told e =
    let t = sym told ∙ e in let order : lo ≤ hi = search accepted depth 8 in
    let inside : hi < length xs / 2 = search accepted depth 8 in let few : length xs ≤ 8194 = search accepted depth 8 in
    (order, omega (arith, inside), few)
