-- Laws of the lengths: how the search for the nearest goes on. Assumes nothing.
use Rattle.sequences.proofs.Basics.{◌≡◌, refl, sym, ap, ◌∙◌, ℕ, zero, suc, ◌+◌, ◌-◌, ◌*◌, ◌/◌, ◌%◌, ◌<◌, ◌≤◌, min, arith, true, false, cond, dite, dec_le}
use Rattle.sequences.proofs.Basics.{ne_eqb, mod-lt, div-add-mod', digits_div}
use Rattle.std.specs.Prelude.{◌==◌, max}
use Rattle.std.specs.Int.{div_ceil}
use Rattle.listening.specs.Lengths.{served, served_from, nearest_served}

-- the search starts at n itself
pub served_first : (n : ℕ) → served_from (n - 0) 0 n ≡ nearest_served n
unfolding nearest_served
served_first n = ap (λ (k : ℕ). served_from k 0 n) (omega arith)

module _ (d n : ℕ) (l : d < n) where
  -- one pair of lengths
  pair : served_from (n - d) d n ≡ cond (served (n - d)) (n - d) (cond (served (n + d)) (n + d) (served_from (n - (d + 1)) (d + 1) n))
  unfolding served_from
  pair = let e : n - d ≡ suc (n - (d + 1)) = omega arith in ap (λ (k : ℕ). served_from k d n) e

  -- the smaller is served
  pub served_below : served (n - d) ≡ true → served_from (n - d) d n ≡ n - d
  served_below h = pair ∙ rw h

  -- the larger is
  pub served_above : served (n - d) ≡ false → served (n + d) ≡ true → served_from (n - d) d n ≡ n + d
  served_above h k = pair ∙ rw (h, k)

  -- neither is
  pub served_on : served (n - d) ≡ false → served (n + d) ≡ false → served_from (n - (d + 1)) (d + 1) n ≡ served_from (n - d) d n
  served_on h k = sym (pair ∙ rw (h, k))

-- a quotient rounded up
rounded_up : (a b : ℕ) → 0 < b → div_ceil a b ≡ (a + b - 1) / b
rounded_up a b some = dite (dec_le (a % b) 0) whole more
  where
    split : a / b * b + a % b ≡ a
    split = div-add-mod' a b

    whole : a % b ≤ 0 → div_ceil a b ≡ (a + b - 1) / b
    whole e =
        let rest : b - 1 < b = omega arith in
        let same : a / b * b + (b - 1) ≡ a + b - 1 = omega (arith, split) in
        let up : min 1 (a % b) ≡ 0 = omega arith in
        rw (up, ← same, digits_div (a / b) rest) (omega arith)

    more : (a % b ≤ 0 → ⊥) → div_ceil a b ≡ (a + b - 1) / b
    more n =
        let rest : a % b - 1 < b = omega (arith, mod-lt a some) in
        let same : (a / b + 1) * b + (a % b - 1) ≡ a + b - 1 = omega (arith, split) in
        let up : min 1 (a % b) ≡ 1 = omega arith in
        rw (up, ← same, digits_div (a / b + 1) rest)

-- the first bin of a band is a quotient rounded up, but not bin 0
pub first_bin : (a rate : ℕ) → 0 < rate → max (div_ceil a rate) 1 ≡ cond ((a + rate - 1) / rate == 0) 1 ((a + rate - 1) / rate)
first_bin a rate some = rw (rounded_up a rate some) (go ((a + rate - 1) / rate))
  where
    go : (q : ℕ) → max q 1 ≡ cond (q == 0) 1 q
    go zero = refl
    go (suc q) =
        let more : suc q ≡ 0 → ⊥ = omega arith in
        let largest : max (suc q) 1 ≡ suc q = omega arith in
        rw (largest, ne_eqb (suc q) 0 more)
