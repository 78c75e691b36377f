-- The house table keeps its rule, and its entries but s(0) are above 0 and at most 2 ^ 60: one test, computed over the whole table.
-- Assumes nothing.
use Rattle.sequences.proofs.Basics.{◌≡◌, refl, subst, sym, ℕ, zero, suc, ◌+◌, ◌*◌, ◌^◌, ◌<◌, ◌≤◌, eq-or-lt_of_le, not-suc-le-zero, arith, inl, inr, List, []}
use Rattle.sequences.proofs.Basics.{◌∷◌, T, lit≤, length}
use Rattle.house.specs.House.{cosines, sines}
use Rattle.house.specs.Rule.{cosine, sine, Within, Rule}
use Rattle.house.proofs.Table.{Ordered, Neighbours, everywhere, everywhere_at}

-- x and y are within d of each other
abbrev within : (d x y : ℕ) → List (ℕ × ℕ) → List (ℕ × ℕ)
within d x y ps = (x, y + d) ∷ (y, x + d) ∷ ps

-- what is asked of an entry and the next, when entry 1 is (p, q): the rule, and that the next is above 0 and at most 2 ^ 60
unfoldable asked : (p q : ℕ) → Neighbours
asked p q c s c' s' = (suc c', c) ∷ (suc s, s') ∷ within (2 ^ 61) (c * c + s * s) (2 ^ 120) (within (2 ^ 61) (c * p) (2 ^ 60 * c' + s * q)
    (within (2 ^ 61) (s * p + c * q) (2 ^ 60 * s') ((1, c') ∷ (c', 2 ^ 60) ∷ (1, s') ∷ (s', 2 ^ 60) ∷ [])))

holds : T (everywhere (asked (cosine 1) (sine 1)) cosines sines)
unfolding cosines sines asked
holds = tt

pub counts : (length cosines ≡ 841) × (length sines ≡ 841)
unfolding cosines sines
counts = (refl, refl)

ends : ((cosine 0 ≡ 2 ^ 60) × (sine 0 ≡ 0)) × (cosine 840 ≡ sine 840)
unfolding cosines sines
ends = ((refl, refl), refl)

last_norm : Within (2 ^ 61) (cosine 840 * cosine 840 + sine 840 * sine 840) (2 ^ 120)
unfolding cosines sines
last_norm = (lit≤ tt, lit≤ tt)

at : (b : ℕ) → b < 840 → Ordered (asked (cosine 1) (sine 1) (cosine b) (sine b) (cosine (suc b)) (sine (suc b)))
at b h = everywhere_at (asked (cosine 1) (sine 1)) cosines sines holds b (omega (arith, counts.0))

norms : (b : ℕ) → b ≤ 840 → Within (2 ^ 61) (cosine b * cosine b + sine b * sine b) (2 ^ 120)
unfolding asked
norms b h = elim (eq-or-lt_of_le h) [
  | inl e ↦ subst (λ (b : ℕ). Within (2 ^ 61) (cosine b * cosine b + sine b * sine b) (2 ^ 120)) (sym e) last_norm
  | inr l ↦ let a = (at b l).1.1 in (a.0, a.1.0)
]

pub house_rule : Rule cosine sine 840
unfolding asked
house_rule = record {
  first = ends.0;
  last = ends.1;
  falls = λ b h. (at b h).0;
  rises = λ b h. (at b h).1.0;
  norm = norms;
  next_cosine = λ b h. let a = (at b h).1.1.1.1 in (a.0, a.1.0);
  next_sine = λ b h. let a = (at b h).1.1.1.1.1.1 in (a.0, a.1.0);
}

-- above 0 and at most 2 ^ 60
abbrev pub Some : ℕ → Type 0
Some x = (0 < x) × (x ≤ 2 ^ 60)

-- so is each entry but the first
pub entries : (b : ℕ) → 0 < b → b ≤ 840 → Some (cosine b) × Some (sine b)
unfolding asked
entries zero p h = absurd (not-suc-le-zero p)
entries (suc b) p h = let a = (at b h).1.1.1.1.1.1.1.1 in ((a.0, a.1.0), (a.1.1.0, a.1.1.1.0))
