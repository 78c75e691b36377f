-- What an iteration reads and the outputs of its kernel, as the code has them. Assumes nothing.
use Rattle.std.specs.Prelude.{◌≡◌, Bool, true, false, List, ℕ, zero, suc, ◌+◌, ◌*◌, ◌≤◌, Float}
use Rattle.radices.specs.Lists.{is_radix}
use Rattle.schedule.specs.Stage.{Arith, plain}
use Rattle.floats.specs.declared.complex.Complex.{Complex}
use Rattle.floats.specs.Complexes.{blank, times, cell}
use Rattle.kernel.specs.Floats.{floats}

-- the arithmetic of one stage, with `lent i q` for twiddle q of iteration i
abbrev pub lent_by : (ℕ → ℕ → Complex) → Arith Complex
lent_by lent = floats (λ j. lent)

-- that of a kernel alone, which asks for no twiddles
abbrev pub untwiddled : Arith Complex
untwiddled = lent_by (λ i q. blank)

-- output p of a kernel of radix r on the cells x
abbrev pub kernel_of : (r : ℕ) → (ℕ → Complex) → ℕ → Complex
kernel_of r x p = plain untwiddled r x p

-- a cell and its twiddle: the first stage has none
abbrev pub twiddled_by : (first : Bool) → (x t : Complex) → Complex
twiddled_by true x t = x
twiddled_by false x t = times x t

-- what iteration i of M reads as its cell q
unfoldable pub read_of : (first : Bool) → (M : ℕ) → (src : List Float) → (lent : ℕ → ℕ → Complex) → (i q : ℕ) → Complex
read_of first M src lent i zero = cell src i
read_of first M src lent i (suc q) = twiddled_by first (cell src (i + suc q * M)) (lent i (suc q))

-- output p of iteration i of M
abbrev pub output_of : (first : Bool) → (M r : ℕ) → (src : List Float) → (lent : ℕ → ℕ → Complex) → (i p : ℕ) → Complex
output_of first M r src lent i p = kernel_of r (read_of first M src lent i) p

-- M iterations of radix r read a list of so many words
pub record Sized (M r ns : ℕ) : Type 0 where
  pub radix : is_radix r ≡ true
  pub some : 2 ≤ r
  pub few : r ≤ 8
  pub source : 2 * (M * r) ≤ ns
