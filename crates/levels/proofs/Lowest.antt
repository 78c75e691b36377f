-- The lowest level that is above something, level by level. Assumes nothing.
use Rattle.sequences.proofs.Basics.{◌≡◌, refl, sym, ap, ◌∙◌, ℕ, zero, suc, ◌+◌, ◌-◌, ◌<◌, ◌≤◌, add-zero, arith, true, false}
use Rattle.std.specs.Prelude.{Option}
use Rattle.std.specs.Prelude.{MatchOption, Some, None}
use Rattle.std.specs.Option.{unwrap_or}
use Rattle.levels.specs.Levels.{is_above, least_step, lowest_of, lowest}

module _ (full parts level : ℕ) (l : level < 16000) where
  -- one more is tried
  left : 16000 - level ≡ suc (16000 - (level + 1))
  left = omega arith

  -- it is this one
  pub lowest_here : is_above (least_step full level) parts ≡ true → lowest full parts level ≡ level
  unfolding lowest lowest_of
  lowest_here e = rw (left, e)

  -- it is a later one
  pub lowest_later : is_above (least_step full level) parts ≡ false → lowest full parts level ≡ lowest full parts (level + 1)
  unfolding lowest lowest_of
  lowest_later e = rw (left, e)

-- full scale is the last
pub lowest_last : (full parts : ℕ) → lowest full parts 16000 ≡ 16000
unfolding lowest lowest_of
lowest_last full parts = refl

module _ (full parts : ℕ) where
  -- the level is above
  abbrev pub Above : ℕ → Type 0
  Above k = is_above (least_step full k) parts ≡ true

  -- it is not
  abbrev pub Below : ℕ → Type 0
  Below k = is_above (least_step full k) parts ≡ false

  -- past n levels that are not above
  past : (n level : ℕ) → level + n ≤ 16000 → ((k : ℕ) → level ≤ k → k < level + n → Below k) → lowest full parts level ≡ lowest full parts (level + n)
  past zero level few none = rw add-zero
  past (suc n) level few none =
      lowest_later full parts level (omega arith) (none level (omega arith) (omega arith))
      ∙ past n (level + 1) (omega arith) (λ k l h. none k (omega arith) (omega arith)) ∙ ap (lowest full parts) (omega arith)

  -- the first that is above, or 16,000, is the lowest
  pub lowest_found : (level : ℕ) (r : Option ℕ) → level ≤ 16000
      → MatchOption r ((k : ℕ) → level ≤ k → k < 16000 → Below k) (λ i. (level ≤ i) × (i < 16000) × Above i × ((k : ℕ) → level ≤ k → k < i → Below k))
      → (unwrap_or r 16000 ≡ lowest full parts level) × (unwrap_or r 16000 ≤ 16000)
  lowest_found level None few none =
      let end : level + (16000 - level) ≡ 16000 = omega arith in (
        sym (past (16000 - level) level (omega arith) (λ k l h. none k l (omega arith)) ∙ ap (lowest full parts) end ∙ lowest_last full parts),
        omega arith,
      )
  lowest_found level (Some i) few found =
      let end : level + (i - level) ≡ i = omega (arith, found.0) in (
        sym (past (i - level) level (omega (arith, found.1)) (λ k l h. found.3 k l (omega arith)) ∙ ap (lowest full parts) end
            ∙ lowest_here full parts i found.1 found.2),
        omega (arith, found.1),
      )
