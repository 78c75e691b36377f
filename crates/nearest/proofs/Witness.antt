-- The finer table keeps the rule at 2 ^ 96, and each of its entries is within 2 ^ 35 - 2 ^ 24 units of the house table's: by two tests, computed over
-- the whole table. Assumes nothing.
use Rattle.sequences.proofs.Basics.{◌≡◌, refl, subst, sym, ℕ, zero, suc, ◌+◌, ◌-◌, ◌*◌, ◌^◌, ◌<◌, ◌≤◌, eq-or-lt_of_le, arith, inl, inr, List, [], ◌∷◌, T, lit≤}
use Rattle.sequences.proofs.Basics.{length, get_or}
use Rattle.house.specs.House.{cosines, sines}
use Rattle.house.specs.Rule.{Within}
use Rattle.house.proofs.Table.{Ordered, Neighbours, everywhere, everywhere_at}
use Rattle.nearest.specs.Scale.{RuleAt}
use Rattle.nearest.specs.Table.{house_cosines, house_sines, house_cosine, house_sine}
use Rattle.nearest.proofs.Fine.{fine_cosines, fine_sines}

abbrev pub fine_cosine : ℕ → ℕ
fine_cosine b = get_or fine_cosines b 0

abbrev pub fine_sine : ℕ → ℕ
fine_sine b = get_or fine_sines b 0

-- x and y are within d of each other
abbrev within : (d x y : ℕ) → List (ℕ × ℕ) → List (ℕ × ℕ)
within d x y ps = (x, y + d) ∷ (y, x + d) ∷ ps

-- ---- the rule
-- what is asked of an entry and the next, when entry 1 is (p, q)
unfoldable asked : (p q : ℕ) → Neighbours
asked p q c s c' s' = (suc c', c) ∷ (suc s, s') ∷ within (2 * 2 ^ 96) (c * c + s * s) (2 ^ 96 * 2 ^ 96) (within (2 * 2 ^ 96) (c * p) (2 ^ 96 * c' + s * q)
    (within (2 * 2 ^ 96) (s * p + c * q) (2 ^ 96 * s')
    []))

holds : T (everywhere (asked (fine_cosine 1) (fine_sine 1)) fine_cosines fine_sines)
unfolding fine_cosines fine_sines asked
holds = tt

fine_counts : (length fine_cosines ≡ 841) × (length fine_sines ≡ 841)
unfolding fine_cosines fine_sines
fine_counts = (refl, refl)

ends : ((fine_cosine 0 ≡ 2 ^ 96) × (fine_sine 0 ≡ 0)) × (fine_cosine 840 ≡ fine_sine 840)
unfolding fine_cosines fine_sines
ends = ((refl, refl), refl)

last_norm : Within (2 * 2 ^ 96) (fine_cosine 840 * fine_cosine 840 + fine_sine 840 * fine_sine 840) (2 ^ 96 * 2 ^ 96)
unfolding fine_cosines fine_sines
last_norm = (lit≤ tt, lit≤ tt)

pub small : 1060 * fine_sine 1 ≤ 2 ^ 96
unfolding fine_sines
small = lit≤ tt

at : (b : ℕ) → b < 840 → Ordered (asked (fine_cosine 1) (fine_sine 1) (fine_cosine b) (fine_sine b) (fine_cosine (suc b)) (fine_sine (suc b)))
at b h = everywhere_at (asked (fine_cosine 1) (fine_sine 1)) fine_cosines fine_sines holds b (omega (arith, fine_counts.0))

norms : (b : ℕ) → b ≤ 840 → Within (2 * 2 ^ 96) (fine_cosine b * fine_cosine b + fine_sine b * fine_sine b) (2 ^ 96 * 2 ^ 96)
unfolding asked
norms b h = elim (eq-or-lt_of_le h) [
  | inl e ↦ subst (λ (b : ℕ). Within (2 * 2 ^ 96) (fine_cosine b * fine_cosine b + fine_sine b * fine_sine b) (2 ^ 96 * 2 ^ 96)) (sym e) last_norm
  | inr l ↦ let a = (at b l).1.1 in (a.0, a.1.0)
]

pub fine_rule : RuleAt (2 ^ 96) fine_cosine fine_sine 840
unfolding asked
fine_rule = record {
  first = ends.0;
  last = ends.1;
  falls = λ b h. (at b h).0;
  rises = λ b h. (at b h).1.0;
  norm = norms;
  next_cosine = λ b h. let a = (at b h).1.1.1.1 in (a.0, a.1.0);
  next_sine = λ b h. let a = (at b h).1.1.1.1.1.1 in (a.0, a.1.0);
}

-- ---- the house table is its rounding
-- a fine entry x and the house table's h
abbrev pub Rounds : (x h : ℕ) → Type 0
Rounds x h = Within (2 ^ 35 - 2 ^ 24) x (2 ^ 36 * h)

-- asked of the second of two neighbours in a fine list and a house list
unfoldable rounds : Neighbours
rounds x h x' h' = within (2 ^ 35 - 2 ^ 24) x' (2 ^ 36 * h') []

cosines_hold : T (everywhere rounds fine_cosines house_cosines)
unfolding fine_cosines cosines rounds
cosines_hold = tt

sines_hold : T (everywhere rounds fine_sines house_sines)
unfolding fine_sines sines rounds
sines_hold = tt

first_rounds : Rounds (fine_cosine 0) (house_cosine 0) × Rounds (fine_sine 0) (house_sine 0)
unfolding fine_cosines fine_sines cosines sines
first_rounds = ((lit≤ tt, lit≤ tt), (lit≤ tt, lit≤ tt))

pub cosine_rounds : (b : ℕ) → b ≤ 840 → Rounds (fine_cosine b) (house_cosine b)
unfolding rounds
cosine_rounds zero h = first_rounds.0
cosine_rounds (suc b) h = let a = everywhere_at rounds fine_cosines house_cosines cosines_hold b (omega (arith, fine_counts.0)) in (a.0, a.1.0)

pub sine_rounds : (b : ℕ) → b ≤ 840 → Rounds (fine_sine b) (house_sine b)
unfolding rounds
sine_rounds zero h = first_rounds.1
sine_rounds (suc b) h = let a = everywhere_at rounds fine_sines house_sines sines_hold b (omega (arith, fine_counts.1)) in (a.0, a.1.0)
