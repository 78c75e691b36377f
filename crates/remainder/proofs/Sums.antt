-- Sums of numbers, and their remainders. `a % m ≡ b % m` says that a and b are congruent modulo m; modulo 0 that is equality.
-- Assumes nothing.
use Rattle.sequences.proofs.Basics.{◌≡◌, refl, sym, ap, ◌∙◌, ℕ, zero, suc, ◌+◌, ◌*◌, ◌%◌, ◌^◌, ◌<◌, add-mod, add-zero, add-suc, zero-mul, add-mul, suc-mul}
use Rattle.sequences.proofs.Basics.{mul_comm, mul-one, mul-zero, le_refl, le_step, arith, pow-add}
use Rattle.powers.proofs.Powers.{mod-mul}
use Rattle.remainder.specs.Sums.{sum}

module _ (m : ℕ) where
  pub mul_congruent : (c a b : ℕ) → a % m ≡ b % m → c * a % m ≡ c * b % m
  mul_congruent c a b p = rw (mul_comm c a, mul_comm c b, ← mod-mul m a c, ← mod-mul m b c, p)

  -- whole circles do not count
  pub pow_circles : (w h : ℕ) → w ^ h % m ≡ 1 % m → (e t : ℕ) → w ^ (e + h * t) % m ≡ w ^ e % m
  pow_circles w h p e zero = simp (mul-zero, add-zero)
  pow_circles w h p e (suc t) = ap (λ (n : ℕ). w ^ n % m) (omega arith) ∙ ap (λ (n : ℕ). n % m) (pow-add w (e + h * t) h)
      ∙ mul_congruent (w ^ (e + h * t)) (w ^ h) 1 p ∙ rw mul-one (pow_circles w h p e t)

  pub sum_congruent : (n : ℕ) (f g : ℕ → ℕ) → ((u : ℕ) → u < n → f u % m ≡ g u % m) → sum n f % m ≡ sum n g % m
  unfolding sum
  sum_congruent zero f g h = refl
  sum_congruent (suc n) f g h = rw (add-mod (sum n f) (f n) m, add-mod (sum n g) (g n) m, sum_congruent n f g (λ u l. h u (le_step l)), h n (le_refl (suc n)))

pub sum_mul : (n : ℕ) (f : ℕ → ℕ) (c : ℕ) → sum n f * c ≡ sum n (λ u. f u * c)
unfolding sum
sum_mul zero f c = zero-mul c
sum_mul (suc n) f c = add-mul (sum n f) (f n) c ∙ ap (λ (x : ℕ). x + f n * c) (sum_mul n f c)

pub sum_zero : (n : ℕ) → sum n (λ u. 0) ≡ 0
sum_zero n = sym (sum_mul n (λ u. 0) 0) ∙ mul-zero (sum n (λ u. 0))

pub sum_plus : (n : ℕ) (f g : ℕ → ℕ) → sum n f + sum n g ≡ sum n (λ u. f u + g u)
unfolding sum
sum_plus zero f g = refl
sum_plus (suc n) f g = omega (arith, sum_plus n f g)

pub sum_append : (n k : ℕ) (f : ℕ → ℕ) → sum (n + k) f ≡ sum n f + sum k (λ i. f (n + i))
unfolding sum
sum_append n zero f = simp add-zero
sum_append n (suc k) f = rw add-suc (omega (arith, sum_append n k f))

-- the numbers below s * r, each by its two digits
pub sum_digits : (s r : ℕ) (f : ℕ → ℕ) → sum (s * r) f ≡ sum r (λ q. sum s (λ u. f (u * r + q)))
unfolding sum
sum_digits zero r f = rw (zero-mul, sum_zero r)
sum_digits (suc s) r f = rw (suc-mul, sum_append, sum_digits s r f, sum_plus)
