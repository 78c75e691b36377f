-- The first stage: a kernel with its radix ρ written out does what a stage of radix r does, where r is ρ, and its outputs stand side by side.
-- Assumes nothing.
use Rattle.sequences.proofs.Basics.{◌≡◌, refl, sym, ℕ, ◌+◌, ◌*◌, ◌≤◌, ◌<◌, div-one, mod-one, mul-le-mul_right, suc-mul, arith, true}
use Rattle.sequences.proofs.Basics.{List, get_or}
use lib.Ieee.{Float}
use Rattle.schedule.specs.Stage.{index}
use Rattle.sequences.specs.Lists.{tabulate}
use Rattle.schedule.proofs.Fill as Fill
use Rattle.floats.specs.declared.complex.Complex.{Complex}
use Rattle.floats.specs.Complexes.{blank}
use Rattle.kernel.specs.Parts.{kernel_of, read_of, output_of, Sized}
use Rattle.kernel.proofs.Kernel.{outputs_of, eight}
use Rattle.storing.specs.Parts.{Wrote, Done}
use Rattle.storing.proofs.Writes.{wrote_as}

-- the radix that is left, as a match leaves it
pub other : {M r ns : ℕ} {u : Type 0} → Sized M r ns → ((((u × (r ≡ 2 → ⊥)) × (r ≡ 3 → ⊥)) × (r ≡ 4 → ⊥)) × (r ≡ 5 → ⊥)) × (r ≡ 7 → ⊥) → r ≡ 8
other h k = eight h.radix k.0.0.0.0.1 k.0.0.0.1 k.0.0.1 k.0.1 k.1

pub room_at : (M r k n : ℕ) → k < M → 2 * (M * r) ≤ n → (ρ : ℕ) → r ≡ ρ → 2 * (k * ρ + ρ) ≤ n
room_at M r k n l room ρ e = rw (sym e) (omega (arith, mul-le-mul_right r l, suc-mul k r))

-- the arm of radix ρ, on the cells c with the outputs o
pub first_arm : {M r ns : ℕ} → Sized M r ns → (src : List Float) (k : ℕ) (ys ys'' : List Float) (ρ : ℕ) → r ≡ ρ → (c o : List Complex)
    → ((lent : ℕ → ℕ → Complex) (q : ℕ) → q < ρ → get_or c q blank ≡ read_of true M src lent k q)
    → o ≡ tabulate 8 0 (kernel_of ρ (λ q. get_or c q blank)) → (ys' : List Float) → Wrote (λ p. get_or o p blank) (k * ρ) ρ ys ys' → ys'' ≡ ys'
    → (lent : ℕ → ℕ → Complex) → Wrote (output_of true M r src lent k) (k * r) r ys ys''
first_arm {M} h src k ys ys'' ρ e c o reads outs ys' w same lent =
    let all = outputs_of true M src lent k ρ c o (omega (arith, h.some, e)) (omega (arith, h.few, e)) (reads lent) outs in
    rw (same, e) (wrote_as _ _ _ (output_of true M ρ src lent k) all w)

index_one : (r i p : ℕ) → index 1 r i p ≡ i * r + p
unfolding index
index_one r i p = rw (div-one i, mod-one i) (omega arith)

-- the first stage: iteration i fills r cells from i * r on
pub first_step : (r i : ℕ) (v : ℕ → ℕ → Complex) (ys ys' : List Float) → Wrote (v i) (i * r) r ys ys' → Done 1 r v ys i → Done 1 r v ys' (i + 1)
first_step r i v ys ys' w = Fill.done_iteration 1 r v (omega arith) i (λ i' p l f. omega (arith, f)) (Fill.wrote_as
    (λ p l. (sym (index_one r i p), refl)) w.cells)
