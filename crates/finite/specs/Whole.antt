-- A float that is a whole number, and the discrete Fourier transform of whole numbers by its definition. Assumes nothing.
use Rattle.std.specs.Prelude.{ℕ, zero, suc, ◌*◌, ◌/◌, ◌^◌, ◌≤◌, ◌<◌, ◌≡◌, Bool, true, false, ◌⊎◌, List, ℤ, pos, neg_ℤ, ◌+ℤ◌, nat_abs, Float, get_or}
use Rattle.std.specs.Float.{nan, inf, fin}
use Rattle.std.specs.Float.Ieee.{up, down}
use Rattle.floats.specs.Complexes.{cell}
use Rattle.floats.specs.declared.complex.Complex.{Complex}

-- ---- a float that is a whole number

-- n, or -n behind a minus sign
abbrev pub signed : (minus : Bool) → ℕ → ℤ
signed false n = pos n
signed true n = neg_ℤ (pos n)

-- finite and, as a number, z: m * 2 ^ e is the size of z, and its sign makes z of it, so that both zeros are 0
abbrev pub IsWhole : Float → ℤ → Type 0
IsWhole nan z = ⊥
IsWhole (inf s) z = ⊥
IsWhole (fin s m e) z = (m * up e ≡ nat_abs z * down e) × (signed s (nat_abs z) ≡ z)

-- ---- complex whole numbers

-- re + im * i
pub record Gauss : Type 0 where
  pub re : ℤ
  pub im : ℤ

-- their sum
abbrev pub together : Gauss → Gauss → Gauss
together y z = record { re = y.re +ℤ z.re; im = y.im +ℤ z.im }

-- z times -i, a quarter of a circle
abbrev pub quarter : Gauss → Gauss
quarter z = record { re = z.im; im = neg_ℤ z.re }

-- z times (-i) ^ m
abbrev pub turned : (m : ℕ) → Gauss → Gauss
turned zero z = z
turned (suc m) z = quarter (turned m z)

-- ---- the transform

-- the first j terms of bin k: sample i is turned by i * k of n parts of a circle, which is 4 * i * k / n quarters
abbrev pub terms : (n : ℕ) → (x : ℕ → ℤ) → (k j : ℕ) → Gauss
terms n x k zero = record { re = pos 0; im = pos 0 }
terms n x k (suc i) = together (terms n x k i) (turned (4 * i * k / n) (record { re = x i; im = pos 0 }))

-- bin k of n samples x, for an n that divides 4
abbrev pub bin : (n : ℕ) → (x : ℕ → ℤ) → (k : ℕ) → Gauss
bin n x k = terms n x k n

-- 2 or 4
abbrev pub Short : ℕ → Type 0
Short n = (n ≡ 2) ⊎ (n ≡ 4)

-- ---- words

-- the first n numbers are at most 2 ^ 20 in magnitude
abbrev pub Small : (n : ℕ) → (x : ℕ → ℤ) → Type 0
Small n x = (j : ℕ) → j < n → nat_abs (x j) ≤ 2 ^ 20

-- n words are such numbers
pub record Samples (n : ℕ) (x : ℕ → ℤ) (xs : List Float) : Type 0 where
  pub words : (j : ℕ) → j < n → IsWhole (get_or xs j nan) (x j)
  pub small : Small n x

-- both parts are
abbrev pub AreWhole : Complex → Gauss → Type 0
AreWhole c z = IsWhole c.re z.re × IsWhole c.im z.im

-- the cells are bins 0 to n / 2 of x
abbrev pub IsBins : (n : ℕ) → (x : ℕ → ℤ) → List Float → Type 0
IsBins n x ys = (k : ℕ) → k ≤ n / 2 → AreWhole (cell ys k) (bin n x k)
