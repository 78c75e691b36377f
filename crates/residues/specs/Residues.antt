-- The arithmetic of remainders modulo m, where w turns by one of h parts of a circle, and the schedule's stages and runs in it.
-- Assumes nothing.
use Rattle.std.specs.Prelude.{ℕ, ◌+◌, ◌*◌, ◌/◌, ◌%◌, ◌^◌, ◌<◌, List, get_or}
use Rattle.plan.specs.declared.Record.{Record}
use Rattle.schedule.specs.Buffers.{Two, driven}
use Rattle.schedule.specs.Plans.{in_use}
use Rattle.schedule.specs.Stage.{Part, Arith, stage, plain}

-- x turned by t of L parts of a circle: times w to the power t * h / L
unfoldable pub turn : (m w h : ℕ) → Part → ℕ → ℕ
turn m w h a x = x * w ^ (a.t * (h / a.L)) % m

-- remainders: a cell and a twiddle are turned alike
unfoldable pub residues : (m w h : ℕ) → Arith ℕ
residues m w h =
    record {
      blank = 0;
      plus = λ x y. (x + y) % m;
      turned = turn m w h;
      twiddled = λ j i q. turn m w h;
    }

-- the cells of a list
abbrev pub cells : List ℕ → ℕ → ℕ
cells xs n = get_or xs n 0

-- the first n cells of a list are remainders
abbrev pub Under : (m n : ℕ) → List ℕ → Type 0
Under m n xs = (k : ℕ) → k < n → cells xs k < m

-- the schedule's stage j of a plan in remainders
abbrev pub stage_of : Record → (j m w : ℕ) → List ℕ → List ℕ
stage_of p j m w xs = stage plain (residues m w p.half) p.half (in_use p) j xs

-- what a run leaves in its two buffers: what the stage calls, written alternately, leave there, a single radix copied back
abbrev pub run_of : Record → (m w : ℕ) → Two ℕ → Two ℕ
run_of p m w b = driven (λ j. stage_of p j m w) p.count b
