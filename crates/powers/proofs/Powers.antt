-- Products and powers in remainders: which fit 64 bits, by halving the exponent, and step by step. Assumes nothing.
use Rattle.sequences.proofs.Basics.{◌≡◌, sym, ap, ◌∙◌, ℕ, zero, suc, ◌+◌, ◌*◌, ◌/◌, ◌%◌, ◌^◌, ◌<◌, ◌≤◌, add-one, add-mul-mod_self_right, div-add-mod', mod-lt}
use Rattle.sequences.proofs.Basics.{mod-eq_of_lt, mul_comm, mul-zero, one-mul, mul-le-mul, pow-zero, pow-suc, pow-add, arith}

-- ---- what fits

-- a sum of a remainder and a product of two fits
pub sum_fits : (m s a b : ℕ) → s < m → a < m → b < m → m < 4294967296 → s + a * b < 2 ^ 64
sum_fits m s a b h p q r =
    let x : a * b ≤ 4294967294 * 4294967294 = mul-le-mul {n₂ = 4294967294} {m₂ = 4294967294} (omega arith) (omega arith) in
    omega arith

-- and the product
pub product_fits : (a b m : ℕ) → a < m → b < m → m < 4294967296 → a * b < 2 ^ 64
product_fits a b m p q r = omega (arith, sum_fits m 0 a b (omega arith) p q r)

-- a remainder is below m
pub below_mod : (h x m : ℕ) → h ≡ x % m → 0 < m → h < m
below_mod h x m e p = rw e (mod-lt x p)

-- ---- products

-- a factor may be reduced first
pub mod-mul : (m a c : ℕ) → a % m * c % m ≡ a * c % m
mod-mul m a c = sym (add-mul-mod_self_right (a % m * c) (a / m * c) m) ∙ ap (λ (n : ℕ). n % m) (omega (arith, ap (λ (n : ℕ). n * c) (div-add-mod' a m)))

-- or the other
pub mul_mod : (a b m : ℕ) → a * (b % m) % m ≡ a * b % m
mul_mod a b m = rw (mul_comm a (b % m), mod-mul, mul_comm)

-- ---- powers by halving, with h the power at half the exponent

squared : (m h x : ℕ) → h ≡ x % m → h * h % m ≡ x * x % m
squared m h x e = rw (e, mod-mul, mul_mod)

pub even_step : (w e m h : ℕ) → e % 2 ≡ 0 → h ≡ w ^ (e / 2) % m → h * h % m ≡ w ^ e % m
even_step w e m h p q = let twice : e / 2 + e / 2 ≡ e = omega arith in squared m h (w ^ (e / 2)) q ∙ rw (← pow-add, twice)

pub odd_step : (w e m h : ℕ) → (e % 2 ≡ 0 → ⊥) → h ≡ w ^ (e / 2) % m → h * h % m * w % m ≡ w ^ e % m
odd_step w e m h p q =
    let more : suc (e / 2 + e / 2) ≡ e = omega (arith, p) in
    rw (squared m h (w ^ (e / 2)) q, mod-mul, ← pow-add, ← pow-suc, more)

-- ---- powers step by step

pub power_none : (v m : ℕ) → 1 < m → 1 ≡ v ^ 0 % m
power_none v m h = rw pow-zero (sym (mod-eq_of_lt h))

pub power_one : (v m : ℕ) → v < m → v ≡ v ^ 1 % m
power_one v m h = rw (pow-suc v 0, pow-zero, one-mul) (sym (mod-eq_of_lt h))

pub next_power : (v m t x : ℕ) → x ≡ v ^ t % m → x * v % m ≡ v ^ (t + 1) % m
next_power v m t x e = rw (e, mod-mul, ← pow-suc, add-one)

-- ---- powers of powers

pow_reduced : (a m q : ℕ) → (a % m) ^ q % m ≡ a ^ q % m
pow_reduced a m zero = rw (pow-zero, pow-zero)
pow_reduced a m (suc q) = rw (pow-suc, pow-suc, mul_mod, ← mod-mul, pow_reduced a m q, mod-mul)

pow_times : (w a q : ℕ) → w ^ (a * q) ≡ (w ^ a) ^ q
pow_times w a zero = rw (mul-zero, pow-zero, pow-zero)
pow_times w a (suc q) = let e : a * suc q ≡ a * q + a = omega arith in rw (e, pow-add, pow-suc, pow_times w a q)

-- a power of a reduced power
pub power_power : (m w a v t : ℕ) → v ≡ w ^ a % m → v ^ t % m ≡ w ^ (a * t) % m
power_power m w a v t e = rw (e, pow_times) (pow_reduced (w ^ a) m t)

-- and a product with it
pub power_product : (m w a q x v : ℕ) → v ≡ w ^ a % m → x * v ^ q % m ≡ x * w ^ (a * q) % m
power_product m w a q x v e = rw (← mul_mod x (v ^ q), power_power m w a v q e, mul_mod)
