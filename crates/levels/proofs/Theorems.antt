-- What the definitions promise: units rise with the step, the least step of a level is the least, a power is below the least power of a level exactly where
-- its own level is lower, and a level that is found is above. Assumes nothing.
use Rattle.sequences.proofs.Basics.{◌≡◌, refl, ap, ◌∙◌, subst, ℕ, zero, suc, ◌+◌, ◌-◌, ◌*◌, ◌/◌, ◌%◌, ◌<◌, ◌≤◌, min, arith, dec_le, dec_lt, dite}
use Rattle.sequences.proofs.Basics.{le_of_eq, le_of_lt, le_trans, lt_of_not-le, Bool, true, false, cond, not, T, ltb, get_or, ne_eqb}
use lib.Ieee.{Float, binary32, lt, fits, is_nan, of_bits}
use lib.Ieee.Bits.{of_bits-fits, to_bits-of_bits, nan_bits_is}
use Rattle.levels.specs.Parts.{parts}
use Rattle.levels.specs.Levels.{step_of, units_of, level_of, part_at_least, least_step, is_above, lowest_of, lowest}
use Rattle.levels.proofs.Least.{least_low, least_high}
use Rattle.levels.proofs.Parts.{part_between, part_later, part_most, part_before, part_at}
use Rattle.levels.proofs.Order.{ltb_same}
use Rattle.levels.proofs.Powers.{normal_step, below_bits}
use Rattle.levels.proofs.Steps.{finite_step}

-- a higher step has more units
pub units_rise : (step step' : ℕ) → step < step' → units_of step < units_of step'
unfolding units_of
units_rise step step' h =
    let b = part_between (step % 128) (omega arith) in
    let b' = part_between (step' % 128) (omega arith) in
    dite (dec_lt (step / 128) (step' / 128)) (λ (g : step / 128 < step' / 128). omega arith) (λ (g : step / 128 < step' / 128 → ⊥).
    let l = part_later (step % 128) (step' % 128) (omega (arith, g)) (omega arith) in
    omega (arith, g))

-- one that is not lower has no fewer
no_fewer : (step step' : ℕ) → step ≤ step' → units_of step ≤ units_of step'
no_fewer step step' h = dite (dec_lt step step') (λ (g : step < step'). le_of_lt (units_rise step step' g))
    (λ (g : step < step' → ⊥). le_of_eq (ap units_of (omega (arith, g))))

-- ---- the least step of a level

-- the units of a step, by its two parts
units_at : (q k : ℕ) → k < 128 → units_of (128 * q + k) ≡ 30103 * q + get_or parts k 0
unfolding units_of
units_at q k l =
    let e : (128 * q + k) / 128 ≡ q = omega arith in
    let f : (128 * q + k) % 128 ≡ k = omega arith in
    rw (e, f)

-- a step with enough units has the level
has_level : (full level step : ℕ) → 0 < step → 1000 * level + units_of full ≤ units_of step + 16000500 → level ≤ level_of full step
unfolding level_of
has_level full level step l h = rw (ne_eqb step 0 (λ e. omega arith)) (omega arith)

-- a step that has the level has enough units
enough_units : (full level step : ℕ) → full ≤ 65535 → 0 < step → level ≤ level_of full step → 1000 * level + units_of full ≤ units_of step + 16000500
unfolding level_of units_of
enough_units full level step f l h =
    let g = rw (ne_eqb step 0 (λ e. omega arith)) at h in
    omega (arith, g, (part_between (full % 128) (omega arith)).1)

-- the first step with so many units has them
has_units : (needed : ℕ) → needed ≤ units_of (128 * (needed / 30103) + part_at_least (needed % 30103))
has_units needed =
    let p = part_at_least (needed % 30103) in let q = needed / 30103 in
    dite (dec_lt p 128) (λ (g : p < 128). rw (units_at q p g) (omega (arith, part_at (needed % 30103) g))) (λ (g : p < 128 → ⊥).
    let e : 128 * q + p ≡ 128 * (q + 1) + 0 = omega (arith, g, part_most (needed % 30103)) in
    rw (e, units_at (q + 1) 0 (omega arith)) (omega arith))

-- no step before it has them
few_units : (needed step : ℕ) → step < 128 * (needed / 30103) + part_at_least (needed % 30103) → units_of step < needed
unfolding units_of
few_units needed step h =
    let m = part_most (needed % 30103) in
    dite (dec_lt (step / 128) (needed / 30103)) (λ (g : step / 128 < needed / 30103). omega (arith, (part_between (step % 128) (omega arith)).1))
    (λ (g : step / 128 < needed / 30103 → ⊥). omega (arith, g, part_before (needed % 30103) (step % 128) (omega (arith, g))))

-- the least step of a level has it, where the highest step does
pub least_step_reaches : (full level : ℕ) → level ≤ level_of full 32639 → level ≤ level_of full (least_step full level)
least_step_reaches full level h = dite (dec_le 16030603 (1000 * level + units_of full)) (λ (g : 16030603 ≤ 1000 * level + units_of full).
    let needed = 1000 * level + units_of full - 16000500 in
    let step = 128 * (needed / 30103) + part_at_least (needed % 30103) in
    rw (← least_high full level _ refl g) (dite (dec_le step 32639) (λ (l : step ≤ 32639).
    let e : min step 32639 ≡ step = omega arith in
    rw e (has_level full level step (omega arith) (omega (arith, has_units needed)))) (λ (l : step ≤ 32639 → ⊥).
    let e : min step 32639 ≡ 32639 = omega (arith, l) in
    rw e h))) (λ (g : 16030603 ≤ 1000 * level + units_of full → ⊥).
    rw (← least_low full level _ refl (lt_of_not-le g)) (has_level full level 128 (omega arith) (omega (arith, g, units_at 1 0 (omega arith)))))

-- a normal step that has a level is not below the least
pub least_step_least : (full level step : ℕ) → full ≤ 65535 → 128 ≤ step → level ≤ level_of full step → least_step full level ≤ step
least_step_least full level step f l h = dite (dec_le 16030603 (1000 * level + units_of full)) (λ (g : 16030603 ≤ 1000 * level + units_of full).
    let needed = 1000 * level + units_of full - 16000500 in
    let u = enough_units full level step f (omega arith) h in
    rw (← least_high full level _ refl g) (dite (dec_le (128 * (needed / 30103) + part_at_least (needed % 30103)) step)
    (λ (m : 128 * (needed / 30103) + part_at_least (needed % 30103) ≤ step). omega arith)
    (λ (m : 128 * (needed / 30103) + part_at_least (needed % 30103) ≤ step → ⊥). absurd (omega (arith, few_units needed step (lt_of_not-le m))))))
    (λ (g : 16030603 ≤ 1000 * level + units_of full → ⊥). rw (← least_low full level _ refl (lt_of_not-le g)) l)

-- it is the step of a normal number
pub least_step_normal : (full level : ℕ) → (128 ≤ least_step full level) × (least_step full level ≤ 32639)
least_step_normal full level = dite (dec_le 16030603 (1000 * level + units_of full))
    (λ (g : 16030603 ≤ 1000 * level + units_of full). rw (← least_high full level _ refl g) (omega arith, omega arith))
    (λ (g : 16030603 ≤ 1000 * level + units_of full → ⊥). rw (← least_low full level _ refl (lt_of_not-le g)) (omega arith, omega arith))

-- where full scale is a number's, the highest step has every level up to that of full scale
pub highest_reaches : (full level : ℕ) → full ≤ 32639 → level ≤ 16000 → level ≤ level_of full 32639
highest_reaches full level f l = has_level full level 32639 (omega arith) (omega (arith, no_fewer full 32639 f))

-- ---- the level of a power

-- a higher step has no lower level
levels_rise : (full step step' : ℕ) → full ≤ 65535 → 0 < step → step ≤ step' → level_of full step ≤ level_of full step'
levels_rise full step step' f l h = has_level full (level_of full step) step' (omega arith)
    (omega (arith, no_fewer step step' h, enough_units full (level_of full step) step f l (le_of_eq refl)))

-- step 0 has no level
has_power : (full step : ℕ) → 0 < level_of full step → 0 < step
unfolding level_of
has_power full zero l = absurd (omega arith)
has_power full (suc step) l = omega arith

module _ (p : Float) (held : T (fits binary32 p)) (told : T (not (is_nan p))) where
  -- a power is below the least power of a step exactly where its own step is lower
  pub step_order : (step : ℕ) → 128 ≤ step → step ≤ 32639 → lt p (of_bits binary32 (step * 65536)) ≡ ltb (step_of p) step
  step_order step low high =
      let n = step * 65536 in
      let finite = subst (λ (b : Bool). T (not b)) (nan_bits_is binary32 n) (finite_step step high) in
      below_bits step low high (of_bits binary32 n) (of_bits-fits binary32 n) (to_bits-of_bits binary32 n (omega arith) finite) p held told

  -- a power is below the least power of a level exactly where its own level is lower
  pub level_decides : (full level : ℕ) → full ≤ 65535 → 1 ≤ level → level ≤ level_of full 32639
      → lt p (of_bits binary32 (least_step full level * 65536)) ≡ ltb (level_of full (step_of p)) level
  level_decides full level f l h =
      let least = least_step full level in let b = least_step_normal full level in
      step_order least b.0 b.1 ∙ ltb_same (step_of p) least (level_of full (step_of p)) level
      (λ g. le_trans (least_step_reaches full level h) (levels_rise full least (step_of p) f (omega (arith, b.0)) g))
      (λ k. least_step_least full level (step_of p) f (normal_step p held (has_power full (step_of p) (omega (arith, k)))) k)

-- ---- the lowest level

-- a level that is found among k is above
found_above : (full parts k level : ℕ) → 16000 ≤ level + k → lowest_of full parts k level < 16000
    → is_above (least_step full (lowest_of full parts k level)) parts ≡ true
unfolding lowest_of
found_above full parts zero level l h = absurd (omega arith)
found_above full parts (suc k) level l h = go (is_above (least_step full level) parts) refl h (λ m. found_above full parts k (level + 1) (omega arith) m)
  where
    go : (b : Bool) → is_above (least_step full level) parts ≡ b → cond b level (lowest_of full parts k (level + 1)) < 16000
        → (lowest_of full parts k (level + 1) < 16000 → is_above (least_step full (lowest_of full parts k (level + 1))) parts ≡ true)
        → is_above (least_step full (cond b level (lowest_of full parts k (level + 1)))) parts ≡ true
    go true e h later = e
    go false e h later = later h

-- the least power of the lowest level is above, where that is below full scale
pub lowest_above : (full parts level : ℕ) → lowest full parts level < 16000 → is_above (least_step full (lowest full parts level)) parts ≡ true
unfolding lowest
lowest_above full parts level h = found_above full parts (16000 - level) level (omega arith) h
