-- The kernels' turns: each that carries numbers, and those of whole quarters. Assumes nothing.
use Rattle.sequences.proofs.Basics.{◌≡◌, refl, sym, ap₂, ◌∙◌, ℕ, ◌*◌, ◌/◌, ◌%◌, ◌<◌, ◌≤◌}
use Rattle.sequences.proofs.Basics.{div-add-mod', arith, true, inl, inr}
use lib.Ieee.{round, of_bits, neg}
use Rattle.radices.proofs.Products.{Radix, radix_is, radix_least}
use Rattle.house.specs.House.{cosines, sines}
use Rattle.house.specs.Entries.{entry_of, mirrored, plain, exchanged}
use Rattle.turn.specs.declared.Turn.{Turn}
use Rattle.turn.specs.Calls.{part, KernelPart}
use Rattle.turn.specs.Turns.{housed, index_of, rounded, numbers_at, quarters, turn_at, turn_of}
use Rattle.turn.proofs.Index.{whole_quarters}

pub small : {t r : ℕ} → KernelPart t r → (t < r) × (2 ≤ r) × (r ≤ 8)
small {t} {r} a = (a.below, (radix_least r a.radix).0, (radix_least r a.radix).1)

-- the turn by t of r parts, opened down to the table and its rounded numbers
unfoldable pub opened : (t r : ℕ) → Turn
unfolding turn_of turn_at index_of entry_of mirrored plain exchanged numbers_at rounded cosines sines round of_bits neg
opened t r = turn_of (part t r)

-- that of a t and an r that are told
pub told : (t r t' r' : ℕ) (turn : Turn) → turn ≡ opened t' r' → r ≡ r' → t ≡ t' → turn ≡ turn_of (part t r)
unfolding opened
told t r t' r' turn v d e = v ∙ ap₂ (λ (t r : ℕ). turn_of (part t r)) (sym e) (sym d)

-- ---- whole quarters

-- each radix divides 6,720
divides : (r : ℕ) → Radix r → housed r ≡ true
unfolding housed
divides r (inl e) = rw e refl
divides r (inr (inl e)) = rw e refl
divides r (inr (inr (inl e))) = rw e refl
divides r (inr (inr (inr (inl e)))) = rw e refl
divides r (inr (inr (inr (inr (inl e))))) = rw e refl
divides r (inr (inr (inr (inr (inr e))))) = rw e refl

pub whole : (t r : ℕ) → KernelPart t r → 4 * t % r ≡ 0 → quarters (4 * t / r) ≡ turn_of (part t r)
whole t r a e = sym (whole_quarters t r (4 * t / r) (divides r (radix_is r a.radix)) a.below (omega (arith, div-add-mod' (4 * t) r)))

-- radices 2 and 4 have no others
pub evenly : (t r : ℕ) → KernelPart t r → (r ≡ 3 → ⊥) → (r ≡ 5 → ⊥) → (r ≡ 7 → ⊥) → (r ≡ 8 → ⊥) → 4 * t % r ≡ 0
evenly t r a three five seven eight = by_radix (radix_is r a.radix)
  where
    by_radix : Radix r → 4 * t % r ≡ 0
    by_radix (inl e) = rw e (omega arith)
    by_radix (inr (inl e)) = absurd (three e)
    by_radix (inr (inr (inl e))) = rw e (omega arith)
    by_radix (inr (inr (inr (inl e)))) = absurd (five e)
    by_radix (inr (inr (inr (inr (inl e))))) = absurd (seven e)
    by_radix (inr (inr (inr (inr (inr e))))) = absurd (eight e)
