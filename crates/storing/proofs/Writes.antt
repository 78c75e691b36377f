-- One more cell written in a flat list. Assumes nothing.
use Rattle.sequences.proofs.Basics.{◌≡◌, refl, ◌∙◌, ℕ, ◌+◌, ◌*◌, ◌<◌, not-suc-le-zero, arith, List, length}
use lib.Ieee.{Float}
use Rattle.schedule.proofs.Fill as Fill
use Rattle.floats.specs.declared.complex.Complex.{Complex}
use Rattle.floats.specs.Complexes.{put_cell}
use Rattle.floats.proofs.Flat.{length_put, get_put, get_other}
use Rattle.storing.specs.Parts.{Wrote}

module _ (g : ℕ → Complex) (at : ℕ) (ys : List Float) where
  pub wrote_none : Wrote g at 0 ys ys
  wrote_none = record { size = refl; cells = Fill.wrote_none (λ t l. not-suc-le-zero l) }

  pub wrote_step : (n : ℕ) (ys' ys'' : List Float) (z : Complex) → 2 * (at + n) + 1 < length ys → Wrote g at n ys ys' → z ≡ g n → ys'' ≡ put_cell ys' (at + n) z
      → Wrote g at (n + 1) ys ys''
  wrote_step n ys' ys'' z l w e f = rw (f, e)
      (record {
        size = length_put ys' (at + n) (g n) ∙ w.size;
        cells = Fill.wrote_next n (omega arith) (λ t lt. omega arith) (λ t lt ne. (omega (arith, ne), λ x. ne (omega arith)))
            (get_put ys' (at + n) (g n) (rw w.size l)) (get_other ys' (at + n) (g n)) w.cells;
      })

  pub wrote_as : (h : ℕ → Complex) {n : ℕ} {ys' : List Float} → ((t : ℕ) → t < n → g t ≡ h t) → Wrote g at n ys ys' → Wrote h at n ys ys'
  wrote_as h e w = record { size = w.size; cells = Fill.wrote_as (λ t l. (refl, e t l)) w.cells }

  pub wrote_from : {at' n : ℕ} {ys' : List Float} → at ≡ at' → Wrote g at n ys ys' → Wrote g at' n ys ys'
  wrote_from e w = rw e at w

  pub wrote_all : {n m : ℕ} {ys' : List Float} → n ≡ m → Wrote g at n ys ys' → Wrote g at m ys ys'
  wrote_all e w = rw e at w
