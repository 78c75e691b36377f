-- One more output in a lane, and one more lane. Assumes nothing.
use Rattle.sequences.proofs.Basics.{◌≡◌, refl, ap₂, ◌∙◌, ℕ, ◌+◌, ◌*◌, ◌%◌, ◌≤◌, ◌<◌, arith, ℕ_discrete, List, length, set, length-set, get_or-set_same}
use Rattle.sequences.proofs.Basics.{get_or-set_other}
use lib.Ieee.{Float, nan}
use Rattle.schedule.specs.Parts.{Every}
use Rattle.schedule.proofs.Fill as Fill
use Rattle.floats.specs.declared.complex.Complex.{Complex}
use Rattle.floats.specs.Complexes.{cx}
use Rattle.lanes.specs.Parts.{lane, Held, Taken, Saved}

-- every second output to lane j
module _ (g : ℕ → Complex) (b j : ℕ) (re im : List Float) where
  pub every_none : b < 2 → Taken (Every b b) g j re im re im
  every_none l = record { size_re = refl; size_im = refl; cells = Fill.every_none b l }

  pub every_step : (n : ℕ) (re' im' : List Float) (z : Complex) → n % 2 ≡ b → 16 * n + j < length re' → 16 * n + j < length im'
      → Taken (Every b n) g j re im re' im' → z ≡ g n → Taken (Every b (n + 2)) g j re im (set re' (16 * n + j) z.re) (set im' (16 * n + j) z.im)
  every_step n re' im' z even lr li w e =
      let at = 16 * n + j in
      record {
        size_re = length-set re' _ _ ∙ w.size_re;
        size_im = length-set im' _ _ ∙ w.size_im;
        cells = Fill.every_next (λ t u x. omega arith) b n even (ap₂ cx (get_or-set_same re' at z.re nan lr) (get_or-set_same im' at z.im nan li) ∙ e)
            (λ k ne. ap₂ cx (get_or-set_other re' at k z.re nan ne) (get_or-set_other im' at k z.im nan ne)) w.cells;
      }

  -- past the last of them
  pub every_end : (n r : ℕ) {re' im' : List Float} → n % 2 ≡ b → r ≤ n → n ≤ r + 1 → Taken (Every b n) g j re im re' im' → Taken (Every b r) g j re im re' im'
  every_end n r even l m w = record { size_re = w.size_re; size_im = w.size_im; cells = Fill.every_end b n r even l m w.cells }

module _ (g : ℕ → Complex) (j : ℕ) (re im : List Float) where
  -- the even ones and the odd ones are all
  pub saved_both : (r : ℕ) {re' im' re'' im'' : List Float} → Taken (Every 0 r) g j re im re' im' → Taken (Every 1 r) g j re' im' re'' im''
      → Saved g j r re im re'' im''
  saved_both r w v =
      record { size_re = v.size_re ∙ w.size_re; size_im = v.size_im ∙ w.size_im; cells = Fill.every_both (λ t u x. omega arith) r w.cells v.cells }

  pub saved_as : (h : ℕ → Complex) {n : ℕ} {re' im' : List Float} → ((p : ℕ) → p < n → g p ≡ h p) → Saved g j n re im re' im' → Saved h j n re im re' im'
  saved_as h e w = record { size_re = w.size_re; size_im = w.size_im; cells = Fill.wrote_as (λ p l. (refl, e p l)) w.cells }

-- one more lane
pub held_step : (i j r : ℕ) (v : ℕ → ℕ → Complex) (re im re' im' : List Float) → j < 16 → Saved (v (i + j)) j r re im re' im' → Held i j r v re im
    → Held i (j + 1) r v re' im'
held_step i j r v re im re' im' lj w before j' p lj' lp = pick (ℕ_discrete j' j)
  where
    pick : Dec (j' ≡ j) → lane re' im' (16 * p + j') ≡ v (i + j') p
    pick (yes e) = rw e (w.cells.inside p lp)
    pick (no f) = w.cells.outside (16 * p + j') (λ q lq e. f (omega arith)) ∙ before j' p (omega (arith, f)) lp
