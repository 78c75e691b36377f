-- Two f32 numbers without a minus sign are in the order of their bits. Assumes nothing.
use Rattle.sequences.proofs.Basics.{◌≡◌, sym, ap, ap₂, ◌∙◌, subst, ℕ, ◌+◌, ◌-◌, ◌*◌, ◌/◌, ◌^◌, ◌<◌, ◌≤◌, mul_right_comm, mul-le-mul_right}
use Rattle.sequences.proofs.Basics.{le_trans, le_of_eq, le_of_lt, lt_of_le_of_lt, le_antisymm, lt_of_not-le, le-div_iff_mul-le, arith, dec_le, dec_lt, dite}
use Rattle.sequences.proofs.Basics.{false, T, ltb, lt-ltb, le-ltb, pow-add, pow_pos}
use lib.IntN.{ℤ}
use lib.Ieee.{Float, fin, binary32, up, down, size, lt, fits, of_bits, to_bits}
use lib.Ieee.Bits.{of_bits-to_bits}
use lib.Ieee.Digits.{size-lt, size-le, size_reaches}
use lib.Ieee.Fits.{kept-lt, down_pos}
use lib.Ieee.Nearest.{div_mono}
use lib.Ieee.Positive.{num, den}

-- two tests are one where each fails with the other
pub ltb_same : (a b c d : ℕ) → (b ≤ a → d ≤ c) → (d ≤ c → b ≤ a) → ltb a b ≡ ltb c d
ltb_same a b c d f g = dite (dec_le b a) (λ (l : b ≤ a). le-ltb a b l ∙ sym (le-ltb c d (f l)))
    (λ (l : b ≤ a → ⊥). lt-ltb a b (lt_of_not-le l) ∙ sym (lt-ltb c d (lt_of_not-le (λ h. l (g h)))))

-- the bits of a number of so many of the smallest
abbrev bits : ℕ → ℕ
bits n = (size n - 24) * 8388608 + n / 2 ^ (size n - 24)

-- more of them have no lower bits
bits_rise : (a b : ℕ) → a ≤ b → bits a ≤ bits b
bits_rise a b h =
    let j = size a - 24 in let k = size b - 24 in
    let s : size a ≤ size b = size-le a (size b) (lt_of_le_of_lt h (size-lt b)) in
    dite (dec_lt j k) (λ (l : j < k).
    let low : a / 2 ^ j < 16777216 = kept-lt 24 a in
    let high : 8388608 ≤ b / 2 ^ k = (le-div_iff_mul-le (pow_pos k)).1 (le_trans (le_of_eq (sym (pow-add 2 23 k))) (size_reaches b (23 + k) (omega arith))) in
    omega (arith, low, high)) (λ (l : j < k → ⊥).
    let e : j ≡ k = omega (arith, l) in
    let d : a / 2 ^ j ≤ b / 2 ^ j = div_mono a (2 ^ j) b (2 ^ j) (pow_pos j) (pow_pos j) (mul-le-mul_right (2 ^ j) h) in
    subst (λ (i : ℕ). j * 8388608 + a / 2 ^ j ≤ i * 8388608 + b / 2 ^ i) e (omega (arith, d)))

module _ (m : ℕ) (e : ℤ) (n : ℕ) (d : ℤ) where
  -- a number that is not smaller has no lower bits
  pub no_lower : m * up e * down d ≤ n * up d * down e → to_bits binary32 (fin false m e) ≤ to_bits binary32 (fin false n d)
  unfolding to_bits
  no_lower h =
      let a = m * up e * 2 ^ 149 in let b = n * up d * 2 ^ 149 in
      let over : a * down d ≤ b * down e =
      le_trans (le_of_eq (mul_right_comm (m * up e) (2 ^ 149) (down d)))
      (le_trans (mul-le-mul_right (2 ^ 149) h) (le_of_eq (mul_right_comm (n * up d) (down e) (2 ^ 149)))) in
      let r = bits_rise (a / down e) (b / down d) (div_mono a (down e) b (down d) (down_pos e) (down_pos d) over) in
      omega (arith, r)

  -- two with the same bits are of one size
  same_size : T (fits binary32 (fin false m e)) → T (fits binary32 (fin false n d)) → to_bits binary32 (fin false m e) ≡ to_bits binary32 (fin false n d)
      → m * up e * down d ≡ n * up d * down e
  same_size f g q =
      let s : fin false m e ≡ fin false n d = sym (of_bits-to_bits binary32 _ f) ∙ ap (of_bits binary32) q ∙ of_bits-to_bits binary32 _ g in
      ap₂ (λ (x y : Float). num x * den y) s (sym s)

-- one number is below another exactly where its bits are
pub lt_bits : (m : ℕ) (e : ℤ) (n : ℕ) (d : ℤ) → T (fits binary32 (fin false m e)) → T (fits binary32 (fin false n d))
    → lt (fin false m e) (fin false n d) ≡ ltb (to_bits binary32 (fin false m e)) (to_bits binary32 (fin false n d))
unfolding lt
lt_bits m e n d f g =
    let a = m * up e * down d in let b = n * up d * down e in
    ltb_same a b _ _ (no_lower n d m e) (λ h. dite (dec_le b a) (λ (l : b ≤ a). l) (λ (l : b ≤ a → ⊥).
    le_of_eq (sym (same_size m e n d f g (le_antisymm (no_lower m e n d (le_of_lt (lt_of_not-le l))) h)))))
