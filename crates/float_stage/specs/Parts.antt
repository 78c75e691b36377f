-- What the work of a stage asks for, and what a later stage is lent. Assumes nothing.
use Rattle.std.specs.Prelude.{◌≡◌, true, ℕ, ◌-◌, ◌*◌, ◌<◌, ◌≤◌}
use Rattle.plan.specs.Record.{is_planned}
use Rattle.plan.specs.declared.Record.{Record}
use Rattle.counts.specs.Counts.{twiddle_count}
use Rattle.packing.specs.Places.{is_width}

-- M iterations of radix r, of a later stage, are lent twiddles in nt words, sixteen iterations of which fit nl words
pub record Lending (M r nt nl : ℕ) : Type 0 where
  pub later : 3 ≤ r
  pub few : r ≤ 8
  pub small : M ≤ 4096
  pub lent : 2 * (M * (r - 1)) ≤ nt
  pub local : nl ≡ 224

-- what the work of a stage asks for: an accepted plan with that stage, a width, words for h cells to read and to write, and its own twiddles
pub record Workable (p : Record) (j W ns nt nd : ℕ) : Type 0 where
  pub planned : is_planned p ≡ true
  pub known : j < p.count
  pub width : is_width W ≡ true
  pub source : ns ≡ 2 * p.half
  pub target : nd ≡ 2 * p.half
  pub lent : nt ≡ 2 * twiddle_count p.half p.radices j
