-- The outputs of a later stage reach their cells, a row of a block at a time. Assumes nothing.
use Rattle.sequences.proofs.Basics.{◌≡◌, ap, ◌∙◌, ℕ, suc, ◌+◌, ◌*◌, ◌/◌, ◌%◌, ◌≤◌, ◌<◌, add_assoc, div-lt_iff_lt-mul, mul-le-mul_right, suc-mul, mul_comm}
use Rattle.sequences.proofs.Basics.{arith, dec_le, List}
use lib.Ieee.{Float}
use Rattle.floats.specs.declared.complex.Complex.{Complex}
use Rattle.lanes.specs.Parts.{lane, Held, Paired}
use Rattle.lanes.specs.declared.inner.lanes.Outputs.{Outputs}
use Rattle.storing.specs.Parts.{InBlock, Blocks}

-- row p of a block has room
pub row_room : (i n s r nd p : ℕ) → InBlock i n s r nd → p < r → 2 * (i / s * (s * r) + i % s + p * s + n) ≤ nd
row_room i n s r nd p b l =
    let m : suc p * s ≤ r * s = mul-le-mul_right s l in
    omega (arith, m, suc-mul p s, mul_comm r s, b.one, b.room)

-- the block of iteration i has room
pub block_room : (i M s r nd : ℕ) → Blocks M s r nd → i < M → 2 * (i / s * (s * r) + s * r) ≤ nd
block_room i M s r nd b l =
    let c : i / s < M / s = (div-lt_iff_lt-mul b.stride).1 (rw b.whole at l) in
    let d : (i / s + 1) * (s * r) ≤ M / s * (s * r) = mul-le-mul_right (s * r) (omega arith) in
    let e : M * r ≡ M / s * (s * r) = ap (λ (n : ℕ). n * r) b.whole ∙ omega arith in
    omega (arith, d, e, b.room)

-- the lanes from j on
pub held_from : (i len r : ℕ) (v : ℕ → ℕ → Complex) (re im : List Float) (j n : ℕ) → j + n ≤ len → Held i len r v re im
    → (t p : ℕ) → t < n → p < r → lane re im (16 * p + j + t) ≡ v (i + j + t) p
held_from i len r v re im j n l held t p lt lp = rw (add_assoc (16 * p) j t, add_assoc i j t) (held (j + t) p (omega arith) lp)

-- the outputs of two, picked by the radix
pub picked : (i n r : ℕ) (v : ℕ → ℕ → Complex) (a b o : Outputs) → (r < 7 → o ≡ a)
    × (7 ≤ r → o ≡ b) → Paired i n r v a.re a.im b.re b.im → Held i n r v o.re o.im
picked i n r v a b o is held = pick (dec_le 7 r)
  where
    pick : Dec (7 ≤ r) → Held i n r v o.re o.im
    pick (yes x) = rw (is.1 x) (held.1 x)
    pick (no x) =
        let l : r < 7 = omega (arith, x) in
        rw (is.0 l) (held.0 l)
