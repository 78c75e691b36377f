-- The test whether a step's least power is above so many parts of 2 ^ -57, as the code makes it. Assumes nothing.
use Rattle.sequences.proofs.Basics.{◌≡◌, ap, ◌∙◌, ℕ, ◌+◌, ◌*◌, ◌/◌, ◌%◌, ◌-◌, ◌^◌, ◌<◌, ◌≤◌, one-mul, mod-eq_of_lt, mul-le-mul, lt_of_le_of_lt}
use Rattle.sequences.proofs.Basics.{lt_of_lt_of_le, le_trans, arith, true, false, ltb, lit<, lit≤, pow-lt, pow_mono, lt-ltb, le-leb, lt-leb}
use Rattle.levels.specs.Levels.{is_above}

-- a shift that loses nothing
shifted : (k : ℕ) → k < 64 → 1 * 2 ^ k % 2 ^ 64 ≡ 2 ^ k
shifted k h = ap (λ (x : ℕ). x % 2 ^ 64) (one-mul (2 ^ k)) ∙ mod-eq_of_lt (pow-lt {j = 64} h)

module _ (step parts : ℕ) where
  -- below 2 ^ -50
  pub too_low : step / 128 < 77 → false ≡ is_above step parts
  unfolding is_above
  too_low h = rw (lt-leb 77 (step / 128) h)

  -- above every word
  pub high_enough : parts < 2 ^ 64 → 133 < step / 128 → true ≡ is_above step parts
  unfolding is_above
  high_enough f h =
      let p : 2 ^ 57 ≤ 2 ^ (step / 128 - 77) = pow_mono {i = 57} {j = step / 128 - 77} (omega arith) in
      let l : parts < (128 + step % 128) * 2 ^ (step / 128 - 77) =
      lt_of_lt_of_le f (le_trans (lit≤ tt) (mul-le-mul {n₁ = 128} {n₂ = 128 + step % 128} (omega arith) p)) in
      rw (le-leb 77 (step / 128) (omega arith), lt-ltb parts _ l)

  module _ (low : 77 ≤ step / 128) (high : step / 128 ≤ 133) where
    -- the least power in parts of 2 ^ -57 fits a word
    pub power_fits : (128 + step % 128) * (1 * 2 ^ (step / 128 - 77) % 2 ^ 64) < 2 ^ 64
    power_fits =
        let p : 2 ^ (step / 128 - 77) ≤ 2 ^ 56 = pow_mono {i = step / 128 - 77} {j = 56} (omega arith) in
        rw (shifted (step / 128 - 77) (omega arith)) (lt_of_le_of_lt (mul-le-mul {n₁ = 128 + step % 128} {n₂ = 255} (omega arith) p) (lit< tt))

    -- and is compared
    pub compared : ltb parts ((128 + step % 128) * (1 * 2 ^ (step / 128 - 77) % 2 ^ 64)) ≡ is_above step parts
    unfolding is_above
    compared = rw (shifted (step / 128 - 77) (omega arith), le-leb 77 (step / 128) low)
