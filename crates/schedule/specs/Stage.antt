-- A stage of the transform and a run of stages, with the arithmetic put in: one definition serves floats and remainders.
-- h cells; r the stage's radix; s its stride, the product of the radices before it. A stage makes h / r iterations of r outputs each.
-- Assumes nothing.
use Rattle.std.specs.Prelude.{ℕ, zero, suc, ◌+◌, ◌-◌, ◌*◌, ◌/◌, ◌%◌, List, get_or}
use Rattle.sequences.specs.Lists.{tabulate}
use Rattle.counts.specs.Counts.{radix, stride}

-- ---- which turn stands where

-- t of L parts of a circle
pub record Part : Type 0 where
  pub t : ℕ
  pub L : ℕ

-- the turn of twiddle q of iteration i, in a stage of radix r at stride s: its column times q, of s * r parts
unfoldable pub twiddle_turn : (s r i q : ℕ) → Part
twiddle_turn s r i q = record { t = i % s * q; L = s * r }

-- the turn of cell q in output p of a kernel of radix r
unfoldable pub kernel_turn : (p q r : ℕ) → Part
kernel_turn p q r = record { t = p * q % r; L = r }

-- ---- which cell is written where

-- Output p of iteration i goes to cell `index s r i p`, so cell n is output `place s r n` of iteration `iteration s r n`.
unfoldable pub index : (s r i p : ℕ) → ℕ
index s r i p = i / s * (s * r) + i % s + p * s

unfoldable pub iteration : (s r n : ℕ) → ℕ
iteration s r n = n / (s * r) * s + n % s

unfoldable pub place : (s r n : ℕ) → ℕ
place s r n = n % (s * r) / s

-- ---- a stage, with the arithmetic put in

-- What a stage asks of the numbers in its cells.
pub record Arith (A : Type 0) : Type 0 where
  -- a cell past the end of the list, which no stage of a plan reads
  pub blank : A
  pub plus : A → A → A
  -- a cell turned by a part of a circle
  pub turned : Part → A → A
  -- a cell turned by twiddle q of iteration i of stage j, which is this part of a circle
  pub twiddled : (j i q : ℕ) → Part → A → A

-- From the cells that an iteration reads, numbered from 0, to its outputs: by an arithmetic, for each radix.
abbrev pub Kernel : Type 0 → Type 0
Kernel A = Arith A → (r : ℕ) → (ℕ → A) → ℕ → A

module _ {A : Type 0} where
  -- the first stage has no twiddles
  unfoldable pub twiddled_in : Arith A → (j i q : ℕ) → Part → A → A
  twiddled_in a zero i q t x = x
  twiddled_in a (suc j) i q t x = a.twiddled (suc j) i q t x

  -- what iteration i of stage j reads of the cells c: cell i, and for q from 1 cell i + q * M, twiddled
  unfoldable pub read : Arith A → (j M s r : ℕ) → (ℕ → A) → (i q : ℕ) → A
  read a j M s r c i zero = c i
  read a j M s r c i (suc q) = twiddled_in a j i (suc q) (twiddle_turn s r i (suc q)) (c (i + suc q * M))

  -- cell 0, then plus cell q turned, for q from 1 to the last argument
  unfoldable pub total : Arith A → (r : ℕ) → (ℕ → A) → (p q : ℕ) → A
  total a r x p zero = x 0
  total a r x p (suc q) = a.plus (total a r x p q) (a.turned (kernel_turn p (suc q) r) (x (suc q)))

  -- the plain sum is one kernel
  unfoldable pub plain : Kernel A
  plain a r x p = total a r x p (r - 1)

  -- output p of iteration i of stage j, from the cells c
  unfoldable pub output : Kernel A → Arith A → (j M s r : ℕ) → (ℕ → A) → (i p : ℕ) → A
  output kernel a j M s r c i p = kernel a r (read a j M s r c i) p

  -- the h cells that stage j makes of a list
  unfoldable pub stage_by : Kernel A → Arith A → (j h s r : ℕ) → List A → List A
  stage_by kernel a j h s r xs =
      tabulate h 0 (λ n. output kernel a j (h / r) s r (λ k. get_or xs k a.blank) (iteration s r n) (place s r n))

  -- stage j of the radices rs
  unfoldable pub stage : Kernel A → Arith A → (h : ℕ) → List ℕ → ℕ → List A → List A
  stage kernel a h rs j xs = stage_by kernel a j h (stride rs j) (radix rs j) xs

  -- after the first j stages
  unfoldable pub run : Kernel A → Arith A → (h : ℕ) → List ℕ → ℕ → List A → List A
  run kernel a h rs zero xs = xs
  run kernel a h rs (suc j) xs = stage kernel a h rs j (run kernel a h rs j xs)
