-- `storing::inner::storing::rows` meets its contract. Assumes nothing.
use Rattle.sequences.proofs.Basics.{◌≡◌, ℕ, ◌+◌, ◌*◌, ◌<◌, length}
use Rattle.schedule.proofs.Fill.{Rowed}
use Rattle.floats.specs.Complexes.{cell}
use Rattle.floats.specs.declared.complex.Complex.{Complex}
use Rattle.lanes.specs.Parts.{lane}
use Rattle.storing.specs.Parts.{Done}
use Rattle.storing.proofs.inner.storing.rows.Given as goal

abbrev pub invariant-loop-p : goal.invariant-loop-p
invariant-loop-p l = (length l.dst ≡ length l.initial.dst)
    × ((v : ℕ → ℕ → Complex) → ((t q : ℕ) → t < l.n → q < l.r → lane l.from.re l.from.im (16 * q + l.j + t) ≡ v (l.i + t) q)
    → Done l.s l.r v l.initial.dst l.i →
    Rowed l.s l.r v (cell l.dst) l.i l.n l.p)
