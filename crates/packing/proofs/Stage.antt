-- Laws of filling a stage: what its iterations ask for, and that each puts its twiddles in place. Assumes nothing.
use Rattle.sequences.proofs.Basics.{◌∙◌, ◌≡◌, sym, ◌%◌, ◌*◌, ◌+◌, ◌-◌, ◌/◌, ◌<◌, suc, ℕ, eq_of_mul-eq-mul_right, arith, List, length}
use Rattle.sequences.specs.Pairs.{put_pair}
use Rattle.sequences.proofs.Pairs.{length_put, put_here, put_still}
use lib.Ieee.{Float, nan}
use Rattle.schedule.proofs.Fill.{wrote_next, wrote_as}
use Rattle.turn.specs.Turns.{turn_at, words_of}
use Rattle.packing.specs.Packs.{Packs}
use Rattle.packing.specs.Parts.{Fillable, Lanes, Turnable, Turned}
use Rattle.packing.specs.Twiddles.{twiddle}
use Rattle.packing.specs.declared.inner.packing.Lane.{Lane}
use Rattle.packing.proofs.Circle.{column_small, twiddle_steps}
use Rattle.packing.proofs.Fill.{Placed, placed_next}
use Rattle.packing.proofs.Places.{stands}

-- ---- an iteration, twiddle by twiddle

-- one twiddle more
pub turned_next : (turn first apart k : ℕ) (before ys out : List Float) (p : ℕ) (w : Float × Float) → 0 < apart → 2 * p + 1 < length ys
    → p ≡ first + k * apart → w ≡ words_of (turn_at (suc k * turn)) → out ≡ put_pair ys p w → Turned turn first apart k before ys
    → Turned turn first apart (k + 1) before out
turned_next turn first apart k before ys out p w some room ep ew e t = rw (e, ep)
    (record {
      size = length_put ys (first + k * apart) w ∙ t.size;
      pairs = wrote_next k (omega arith) (λ n l. omega arith) (λ n l f. (omega (arith, f), λ g. f (eq_of_mul-eq-mul_right apart some n k (omega arith))))
          (put_here nan ys (first + k * apart) w (omega arith) ∙ ew) (put_still nan ys (first + k * apart) w) t.pairs;
    })

-- ---- an iteration in its stage

module _ (M s r W words : ℕ) (packs : Packs M r W) (fillable : Fillable M s r words) (i : ℕ) (li : i < M) (l : Lane) (lane : Lanes M r W i l) where
  -- its twiddles stand within the stage
  pub lane_turnable : Turnable (i % s * (6720 / (s * r))) (r - 1) l.first l.apart words
  lane_turnable =
      record {
        small = column_small s r i fillable.columns fillable.circle (r - 1) (omega (arith, fillable.two));
        some = lane.some;
        near = lane.near;
        within = λ k lk.
            let here = (stands M r W packs.lane i (suc k) (omega arith) (omega arith) li).inside in
            omega (arith, here, lane.stands k, fillable.long);
      }

  -- one iteration more: the twiddles that the code finds are those of the iteration
  pub stage_next : (ys out : List Float) → length ys ≡ words → Placed nan M r W (twiddle s r) ys i
      → Turned (i % s * (6720 / (s * r))) l.first l.apart (r - 1) ys out → (length out ≡ words) × Placed nan M r W (twiddle s r) out (i + 1)
  stage_next ys out e placed t = (
    t.size ∙ e,
    placed_next nan M r W packs.lane (twiddle s r) i li ys out (wrote_as (λ k lk. (
      sym (lane.stands k),
      twiddle_steps s r i fillable.columns fillable.circle (suc k) (omega arith),
    )) t.pairs) placed,
  )
