-- What the parts of a stage's code ask for and make. Assumes nothing.
use Rattle.std.specs.Prelude.{ℕ, ◌+◌, ◌*◌, ◌/◌, ◌%◌, ◌^◌, ◌<◌, ◌≤◌, ◌≡◌, true, List, length, get_or}
use Rattle.plan.specs.Record.{is_planned}
use Rattle.plan.specs.declared.Record.{Record}
use Rattle.schedule.specs.Parts.{Wrote, Done}
use Rattle.schedule.specs.Stage.{Arith, plain, output}
use Rattle.residues.specs.Residues.{cells, Under}

-- a modulus that fits 32 bits
pub record Modulus (m : ℕ) : Type 0 where
  pub two : 1 < m
  pub small : m < 4294967296

-- the arithmetic of a stage that is lent the turns of its kernel, and in `step` the turn from one column to the next
unfoldable pub lent_by : (m step : ℕ) → (turns : List ℕ) → Arith ℕ
lent_by m step turns =
    record {
      blank = 0;
      plus = λ x y. (x + y) % m;
      turned = λ a x. x * get_or turns a.t 0 % m;
      twiddled = λ j i q a x. x * step ^ a.t % m;
    }

-- output p of a kernel of radix r on the cells x, which asks for no twiddles
abbrev pub kernel_of : (m : ℕ) → (turns : List ℕ) → (r : ℕ) → (ℕ → ℕ) → ℕ → ℕ
kernel_of m turns r x p = plain (lent_by m 1 turns) r x p

-- what iteration i of M reads as its cell q, when its twiddles are the powers of v
abbrev pub read_of : (m v M : ℕ) → (src : List ℕ) → (i q : ℕ) → ℕ
read_of m v M src i q = cells src (i + q * M) * v ^ q % m

-- output p of iteration i of M, of a later stage
abbrev pub output_of : (m step M s r : ℕ) → (src turns : List ℕ) → (i p : ℕ) → ℕ
output_of m step M s r src turns = output plain (lent_by m step turns) 1 M s r (cells src)

-- ys' is ys with the outputs g p that T tells written from `to` on, s apart
abbrev pub Spread : (T : ℕ → Type 0) → (to s : ℕ) → (ℕ → ℕ) → (ys ys' : List ℕ) → Type 0
Spread T to s g ys ys' = Wrote T (λ p. to + p * s) g (cells ys) (cells ys')

-- the outputs v i p of the iterations below n are in their cells
abbrev pub Made : (s r : ℕ) → (ℕ → ℕ → ℕ) → List ℕ → (n : ℕ) → Type 0
Made s r v ys n = Done s r v (cells ys) (λ i p. i < n)

-- what a stage is lent: a modulus, a stride, the power from one column to the next, and the powers that its kernel turns by
pub record Lent (m s step : ℕ) (turns : List ℕ) : Type 0 where
  pub modulus : Modulus m
  pub stride : 0 < s
  pub base : step < m
  pub turning : Under m 8 turns

-- what reading the cells of iteration i of M asks for
pub record Reading (m v M i r : ℕ) (src : List ℕ) : Type 0 where
  pub some : 2 ≤ r
  pub few : r ≤ 8
  pub power : v < m
  pub cells : Under m (length src) src
  pub reads : (q : ℕ) → q < r → i + q * M < length src

-- what writing outputs asks for, in a list of `room` cells
pub record Writing (to s r room : ℕ) : Type 0 where
  pub some : 2 ≤ r
  pub few : r ≤ 8
  pub writes : (p : ℕ) → p < r → to + p * s < room

-- M iterations of radix r are whole blocks of s
pub record Blocks (M s r : ℕ) : Type 0 where
  pub some : 2 ≤ r
  pub few : r ≤ 8
  pub other : r ≡ 6 → ⊥
  pub whole : M ≡ M / s * s
  pub small : M ≤ 4096
  pub narrow : s ≤ 4096

-- what all iterations of a stage ask for
pub record Staged (m M s r : ℕ) (src : List ℕ) (room : ℕ) : Type 0 where
  pub blocks : Blocks M s r
  pub cells : Under m (length src) src
  pub long : length src ≡ M * r
  pub wide : room ≡ M * r

-- what a stage of a plan asks for, and a run: an accepted plan, a modulus and a base, h remainders and room for h
pub record Workable (p : Record) (m w : ℕ) (src : List ℕ) (room : ℕ) : Type 0 where
  pub planned : is_planned p ≡ true
  pub modulus : Modulus m
  pub base : w < m
  pub long : length src ≡ p.half
  pub wide : room ≡ p.half
  pub cells : Under m (length src) src
