-- A later stage in rounds: four or sixteen iterations at a time, or what is left of whole blocks. Assumes nothing.
use Rattle.sequences.proofs.Basics.{◌≡◌, refl, sym, ap, ◌∙◌, ℕ, ◌+◌, ◌-◌, ◌*◌, ◌/◌, ◌%◌, ◌≤◌, ◌<◌, arith, ℕ_discrete, dec_le, false, List, length, digits_div}
use Rattle.sequences.proofs.Basics.{digits_mod}
use lib.Ieee.{Float}
use Rattle.schedule.specs.Stage.{index}
use Rattle.floats.specs.Complexes.{cell}
use Rattle.floats.specs.declared.complex.Complex.{Complex}
use Rattle.kernel.specs.Floats.{lent_at}
use Rattle.kernel.specs.Parts.{output_of}
use Rattle.lanes.specs.Parts.{Pairs, Paired}
use Rattle.storing.specs.Parts.{Done, Blocks, Stored, Even, Placed}
use Rattle.storing.proofs.Batches.{even_none, even_add, even_sub, even_mul}

pub even_batch : (e i M s r nd : ℕ) {n : ℕ} → Even e s → Blocks M s r nd → Even e i → (M - i < 16 → n ≡ M - i) → (16 ≤ M - i → n ≡ 16) → Even e n
even_batch e i M s r nd {n} v b w less more = pick (dec_le 16 (M - i))
  where
    pick : Dec (16 ≤ M - i) → Even e n
    pick (yes x) = rw (more x) (v.0, λ y. refl, λ y. refl)
    pick (no x) = rw (less (omega (arith, x))) (even_sub e M i (rw b.whole (even_mul e (M / s) s v)) w)

-- the first iteration goes to column 0
pub placed_first : (e s r n : ℕ) → Even e n → 0 < s → Placed e 0 s r 0 0
placed_first e s r n v ps =
    let z : 0 ≡ 0 * s + 0 = omega arith in let d : 0 / s ≡ 0 = ap (λ (k : ℕ). k / s) z ∙ digits_div 0 ps in
    record { starts = rw d (omega arith); column = sym (ap (λ (k : ℕ). k % s) z ∙ digits_mod 0 ps); even = even_none e n v }

-- the rounds so far: the iterations from `start` to i are done, of those below `end`
pub record Round (e end s r : ℕ) (v : ℕ → ℕ → Complex) (start : ℕ) (ra ia rb ib ys₀ ys : List Float) (block col i : ℕ) : Type 0 where
  pub fits : i ≤ end
  pub size : length ys ≡ length ys₀
  pub pairs : Pairs ra ia rb ib
  pub even : Even e i
  pub placed : Placed e i s r block col
  pub done : Done s r v ys₀ start → Done s r v ys i

-- one more, of n iterations, in the lanes ra' .. ib'
module _ {e end s r start block col i : ℕ} {v : ℕ → ℕ → Complex} {ra ia rb ib ra' ia' rb' ib' ys₀ ys : List Float} (n : ℕ)
    (w : Round e end s r v start ra ia rb ib ys₀ ys block col i) (few : Even e n) (pairs : Pairs ra' ia' rb' ib') where
  pub round_asks : {M N : ℕ} → Blocks M s r (length ys₀) → i + n ≤ M → n ≤ N → N ≤ 16
      → Stored i M n s r (length ys) × (n ≤ N) × Placed e i s r block col
  round_asks b within lanes most =
      (record { blocks = rw w.size b; within = within; lanes = omega arith }, lanes, w.placed)

  pub round_next : {block' col' : ℕ} {ys' : List Float} → i + n ≤ end → length ys' ≡ length ys
      → Placed e (i + n) s r block' col' × ((u : ℕ → ℕ → Complex) → Paired i n r u ra' ia' rb' ib' → Done s r u ys i → Done s r u ys' (i + n))
      → Paired i n r v ra' ia' rb' ib' → Round e end s r v start ra' ia' rb' ib' ys₀ ys' block' col' (i + n)
  round_next fits size stored held =
      record {
        fits = fits;
        size = size ∙ w.size;
        pairs = pairs;
        even = even_add e i n w.even few;
        placed = stored.0;
        done = λ done. stored.1 v held (w.done done);
      }

-- the iterations in whole lanes of 4
pub whole_fours : (W M : ℕ) {e : ℕ} → (W ≡ 4 → e ≡ M / 4 * 4) → ((W ≡ 4 → ⊥) → e ≡ 0) → (e ≤ M / 4 * 4) × (e % 4 ≡ 0)
whole_fours W M {e} all none = pick (ℕ_discrete W 4)
  where
    pick : Dec (W ≡ 4) → (e ≤ M / 4 * 4) × (e % 4 ≡ 0)
    pick (yes x) = (omega (arith, all x), omega (arith, all x))
    pick (no x) = (omega (arith, none x), omega (arith, none x))

pub from_fours : (W M s r : ℕ) {e : ℕ} (src tw dst : List Float) → ((W ≡ 4 → ⊥) → e ≡ 0) → Done s r (output_of false M r src (lent_at M r 4 tw)) dst e
    → Done s r (output_of false M r src (lent_at M r W tw)) dst e
from_fours W M s r src tw dst none done i p li lp = pick (ℕ_discrete W 4)
  where
    pick : Dec (W ≡ 4) → cell dst (index s r i p) ≡ output_of false M r src (lent_at M r W tw) i p
    pick (yes x) = rw x (done i p li lp)
    pick (no x) = absurd (omega (arith, none x))
