-- A lane with its radix ρ written out does what a stage of radix r does, where r is ρ.
-- Assumes nothing.
use Rattle.sequences.proofs.Basics.{◌≡◌, ap, ◌∙◌, length, ℕ, ◌+◌, ◌-◌, ◌*◌, ◌≤◌}
use Rattle.sequences.proofs.Basics.{◌<◌, mul-le-mul_right, suc-mul, arith, false, List, ℕ_discrete, eq-eqb, ne_eqb, get_or}
use lib.Ieee.{Float}
use Rattle.floats.specs.declared.complex.Complex.{Complex}
use Rattle.floats.specs.Complexes.{blank, cell}
use Rattle.kernel.specs.Parts.{kernel_of, read_of, output_of, Sized}
use Rattle.lanes.specs.Parts.{slot, rows_lent, Lent, Held, Saved, Pairs, Paired}
use Rattle.lanes.proofs.Writes.{saved_as, held_step}
use Rattle.kernel.proofs.Kernel.{output_of_lem, eight}

-- what is left of the radices of a later stage, as a match leaves it
pub later_other : {M r ns : ℕ} {u : Type 0} → Sized M r ns → 3 ≤ r → (((u × (r ≡ 3 → ⊥)) × (r ≡ 4 → ⊥)) × (r ≡ 5 → ⊥)) × (r ≡ 7 → ⊥) → r ≡ 8
later_other h l k = eight h.radix (λ e. omega arith) k.0.0.0.1 k.0.0.1 k.0.1 k.1

-- the twiddles of lane j have room
pub slot_room : (N r j len n : ℕ) → j < len → len ≤ N → 2 * (rows_lent N len * (r - 1)) ≤ n → (q : ℕ) → 0 < q → q < r → 2 * slot N r j q + 1 < n
slot_room N r j len n l few room q lq lq' = pick (ℕ_discrete N 4)
  where
    pick : Dec (N ≡ 4) → 2 * slot N r j q + 1 < n
    pick (yes e) =
        let here : 2 * (4 * (r - 1)) ≤ n = rw (eq-eqb N 4 e) at room in
        rw (eq-eqb N 4 e) (omega (arith, e))
    pick (no d) =
        let here : 2 * (len * (r - 1)) ≤ n = rw (ne_eqb N 4 d) at room in
        rw (ne_eqb N 4 d) (omega (arith, mul-le-mul_right (r - 1) l, suc-mul j (r - 1)))

-- the lanes below j hold the outputs of the iterations from i on, wherever their twiddles are lent
abbrev pub Kept : (N i len j M r : ℕ) → (src tw ra ia rb ib : List Float) → Type 0
Kept N i len j M r src tw ra ia rb ib = (lent : ℕ → ℕ → Complex) → Lent N i len r lent tw → Paired i j r (output_of false M r src lent) ra ia rb ib

pub kept_none : (N i len M r : ℕ) (src tw ra ia rb ib : List Float) → Kept N i len 0 M r src tw ra ia rb ib
kept_none N i len M r src tw ra ia rb ib lent f = (λ x j p lj lp. absurd (omega arith), λ x j p lj lp. absurd (omega arith))

module _ (N i len j M r : ℕ) (src tw ra ia rb ib : List Float) (pairs : Pairs ra ia rb ib) (before : Kept N i len j M r src tw ra ia rb ib)
    (lj : j < len) (few : j < 16)
    (ρ : ℕ) (e : r ≡ ρ) where
  -- what iteration i + j reads with radix ρ written out
  abbrev Reads : List Complex → Type 0
  Reads c =
      (lent : ℕ → ℕ → Complex) → ((q : ℕ) → 0 < q → q < ρ → cell tw (slot N ρ j q) ≡ lent (i + j) q)
      → (q : ℕ) → q < ρ → get_or c q blank ≡ read_of false M src lent (i + j) q

  -- .. and its outputs in lane j
  abbrev Does : List Complex → (re₀ im₀ re im : List Float) → Type 0
  Does c re₀ im₀ re im = Reads c × Saved (kernel_of ρ (λ q. get_or c q blank)) j ρ re₀ im₀ re im

  mine : (lent : ℕ → ℕ → Complex) → Lent N i len r lent tw → (q : ℕ) → 0 < q → q < r → cell tw (slot N r j q) ≡ lent (i + j) q
  mine lent f q l lq = f j q lj l lq

  step : (lent : ℕ → ℕ → Complex) → Lent N i len r lent tw → (c : List Complex) → 0 < ρ → {re₀ im₀ re im re' im' : List Float} → Does c re₀ im₀ re im
      → re' ≡ re → im' ≡ im
      → Held i j r (output_of false M r src lent) re₀ im₀ → Held i (j + 1) r (output_of false M r src lent) re' im'
  step lent f c some {re₀} {im₀} {re' = re'} {im'} w er ei = held_step i j r (output_of false M r src lent) re₀ im₀ re' im' few
      (rw (er, ei, e) (saved_as _ _ _ _ (output_of false M ρ src lent (i + j))
      (λ p l. output_of_lem false M src lent (i + j) ρ c some (w.0 lent (rw e at (mine lent f))) p) w.1))

  pub low_arm : (c : List Complex) (re im ra' ia' rb' ib' : List Float) → 0 < ρ → ρ < 7 → Does c ra ia re im → ra' ≡ re → ia' ≡ im → rb' ≡ rb → ib' ≡ ib
      → Pairs ra' ia' rb' ib' × Kept N i len (j + 1) M r src tw ra' ia' rb' ib'
  low_arm c re im ra' ia' rb' ib' some low w er ei sr si = (
    record {
      size_ra = ap length er ∙ w.1.size_re ∙ pairs.size_ra;
      size_ia = ap length ei ∙ w.1.size_im ∙ pairs.size_ia;
      size_rb = ap length sr ∙ pairs.size_rb;
      size_ib = ap length si ∙ pairs.size_ib;
    },
    λ lent f. (λ x. step lent f c some w er ei ((before lent f).0 x), λ x. absurd (omega (arith, e))),
  )

  pub high_arm : (c : List Complex) (re im ra' ia' rb' ib' : List Float) → 0 < ρ → 7 ≤ ρ → Does c rb ib re im → ra' ≡ ra → ia' ≡ ia → rb' ≡ re → ib' ≡ im
      → Pairs ra' ia' rb' ib' × Kept N i len (j + 1) M r src tw ra' ia' rb' ib'
  high_arm c re im ra' ia' rb' ib' some high w sr si er ei = (
    record {
      size_ra = ap length sr ∙ pairs.size_ra;
      size_ia = ap length si ∙ pairs.size_ia;
      size_rb = ap length er ∙ w.1.size_re ∙ pairs.size_rb;
      size_ib = ap length ei ∙ w.1.size_im ∙ pairs.size_ib;
    },
    λ lent f. (λ x. absurd (omega (arith, e)), λ x. step lent f c some w er ei ((before lent f).1 x)),
  )
