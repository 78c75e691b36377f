-- Sixteen iterations in lanes: the twiddles they are lent, and what the lanes hold. Assumes nothing.
use Rattle.std.specs.Prelude.{◌≡◌, List, ℕ, ◌+◌, ◌-◌, ◌*◌, ◌<◌, ◌≤◌, length, get_or, cond, eqb, Float}
use Rattle.std.specs.Float.{nan}
use Rattle.schedule.specs.Parts as Loop
use Rattle.floats.specs.declared.complex.Complex.{Complex}
use Rattle.floats.specs.Complexes.{cx, cell}

-- ---- twiddles

-- t has the twiddles of the n iterations from i on, one iteration after the other
abbrev pub Fetched : (i n r : ℕ) → (lent : ℕ → ℕ → Complex) → List Float → Type 0
Fetched i n r lent t = (j q : ℕ) → j < n → 0 < q → q < r → cell t (j * (r - 1) + (q - 1)) ≡ lent (i + j) q

-- .. as packed for width 4
abbrev pub Fetched4 : (i n r : ℕ) → (lent : ℕ → ℕ → Complex) → List Float → Type 0
Fetched4 i n r lent t = (j q : ℕ) → j < n → 0 < q → q < r → cell t (j * 1 + (q - 1) * 4) ≡ lent (i + j) q

-- where twiddle q of lane j stands: as packed for width 4 where at most 4 iterations are taken at a time, and else one iteration after the other
abbrev pub slot : (N r j q : ℕ) → ℕ
slot N r j q = cond (eqb N 4) (j * 1 + (q - 1) * 4) (j * (r - 1) + (q - 1))

-- of how many iterations the twiddles are there
abbrev pub rows_lent : (N len : ℕ) → ℕ
rows_lent N len = cond (eqb N 4) 4 len

-- t has the twiddles of the n iterations from i on, in either way
abbrev pub Lent : (N i n r : ℕ) → (lent : ℕ → ℕ → Complex) → List Float → Type 0
Lent N i n r lent t = (j q : ℕ) → j < n → 0 < q → q < r → cell t (slot N r j q) ≡ lent (i + j) q

-- ---- lanes: output p of lane j stands at 16 * p + j of two lists of 128

abbrev pub lane : List Float → List Float → ℕ → Complex
lane re im k = cx (get_or re k nan) (get_or im k nan)

-- the lanes below n hold the outputs of the iterations from i on
abbrev pub Held : (i n r : ℕ) → (ℕ → ℕ → Complex) → (re im : List Float) → Type 0
Held i n r v re im = (j p : ℕ) → j < n → p < r → lane re im (16 * p + j) ≡ v (i + j) p

-- lane j has taken the outputs g p that T tells, and the others are as they were
pub record Taken (T : ℕ → Type 0) (g : ℕ → Complex) (j : ℕ) (re im re' im' : List Float) : Type 0 where
  pub size_re : length re' ≡ length re
  pub size_im : length im' ≡ length im
  pub cells : Loop.Wrote T (λ p. 16 * p + j) g (lane re im) (lane re' im')

-- .. those below n
abbrev pub Saved : (g : ℕ → Complex) → (j n : ℕ) → (re im re' im' : List Float) → Type 0
Saved g j n = Taken (λ p. p < n) g j

-- two pairs of lists for lanes
pub record Pairs (ra ia rb ib : List Float) : Type 0 where
  pub size_ra : length ra ≡ 128
  pub size_ia : length ia ≡ 128
  pub size_rb : length rb ≡ 128
  pub size_ib : length ib ≡ 128

-- .. of which radices below 7 are held in the first
abbrev pub Paired : (i n r : ℕ) → (ℕ → ℕ → Complex) → (ra ia rb ib : List Float) → Type 0
Paired i n r v ra ia rb ib = (r < 7 → Held i n r v ra ia) × (7 ≤ r → Held i n r v rb ib)
