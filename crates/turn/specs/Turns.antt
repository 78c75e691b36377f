-- turn(t, L), which is (cos, -sin) of t/L of a circle, from the house table: index, quarter and rest, mirror, whole quarters, rounding.
-- Assumes nothing.
use Rattle.std.specs.Prelude.{ℕ, zero, suc, ◌*◌, ◌/◌, ◌%◌, ◌^◌, Bool, true, false, cond, eqb, Float}
use Rattle.std.specs.Float.{binary32}
use Rattle.std.specs.Float.Ieee.{round, of_bits, neg}
use Rattle.schedule.specs.Stage.{Part}
use Rattle.house.specs.Entries.{entry_of}
use Rattle.turn.specs.declared.Turn.{Turn}
use Rattle.turn.specs.declared.Turn.TheVariants.{Zero, Quarter, Half, ThreeQuarter, General}

-- L divides 6,720; 0 does not
unfoldable pub housed : ℕ → Bool
housed L = eqb (6720 % L) 0

-- t * 6,720 / L modulo 6,720
unfoldable pub index_of : Part → ℕ
index_of a = a.t * 6720 / a.L % 6720

-- ---- rounded

-- zero with a plus sign
abbrev pub +0 : Float
+0 = of_bits binary32 0

-- one
abbrev pub +1 : Float
+1 = of_bits binary32 1065353216

-- one half
abbrev pub one_half : Float
one_half = of_bits binary32 1056964608

-- a number of a turn, plus or minus a / 2 ^ 60: the nearest f32, ties to even; zero is +0
unfoldable pub rounded : (minus : Bool) → ℕ → Float
rounded minus zero = +0
rounded minus (suc a) = round binary32 minus (suc a) (2 ^ 60)

-- (cos, -sin) when so many whole quarters are applied to a cosine c and a sine s of the rest
abbrev pub quarters_on {ℓ} : {A : Type ℓ} → (Bool → ℕ → A) → (q c s : ℕ) → A × A
quarters_on f zero c s = (f false c, f true s)
quarters_on f (suc zero) c s = (f true s, f true c)
quarters_on f (suc (suc zero)) c s = (f true c, f false s)
quarters_on f (suc (suc (suc q))) c s = (f false s, f false c)

-- the two numbers at an index
unfoldable pub numbers_at : ℕ → Float × Float
numbers_at index = quarters_on rounded (entry_of index).quarter (entry_of index).cosine (entry_of index).sine

-- ---- the turn

-- so many whole quarters
abbrev pub quarters : ℕ → Turn
quarters zero = Zero
quarters (suc zero) = Quarter
quarters (suc (suc zero)) = Half
quarters (suc (suc (suc q))) = ThreeQuarter

-- a turn of whole quarters carries no numbers, any other its two
unfoldable pub turn_at : ℕ → Turn
turn_at index = cond (eqb (index % 1680) 0) (quarters (index / 1680)) (General (numbers_at index).0 (numbers_at index).1)

-- the turn by t of L parts of a circle
unfoldable pub turn_of : Part → Turn
turn_of a = turn_at (index_of a)

-- a turn carries no numbers
abbrev pub bare : Turn → Bool
bare Zero = true
bare Quarter = true
bare Half = true
bare ThreeQuarter = true
bare (General re im) = false

-- ---- its words

-- the two words of a turn: filled as a twiddle, whole quarters are 1, -1 and +0
unfoldable pub words_of : Turn → Float × Float
words_of Zero = (+1, +0)
words_of Quarter = (+0, neg +1)
words_of Half = (neg +1, +0)
words_of ThreeQuarter = (+0, +1)
words_of (General re im) = (re, im)
