-- The house table holds cosine and sine of b/6,720 of a circle times 2 ^ 60, rounded to nearest: said twice, each time without real numbers.
-- By the rule (`house_nearest`, `house_rounded`): every table that keeps the rule at a scale of 2 ^ 96 or more rounds to it; there is
-- such a table (`kept`).
-- By the power series (`house_series`, `cosine_between`, `sine_between`): all sums from the 16th on, at b/840 of an arc that `eighth` shows to be an
-- eighth of a circle, round to it.
-- Assumes nothing.
use Rattle.sequences.proofs.Basics.{◌≡◌, refl, ℕ, suc, ◌+◌, ◌-◌, ◌*◌, ◌/◌, ◌^◌, ◌<◌, ◌≤◌, le_trans, mul-le-mul, mul-le-mul_left, mul-le-mul_right}
use Rattle.sequences.proofs.Basics.{div-eq_of_lt-le, arith, lit≤}
use Rattle.house.specs.Rule.{Within, Rule}
use Rattle.house.proofs.Rule.{house_rule}
use Rattle.nearest.specs.Scale.{RuleAt, Nearest}
use Rattle.nearest.specs.Series.{Less, AtMost, over, under, cosine_sum, sine_sum, least, most, below, above, Encloses}
use Rattle.nearest.specs.Table.{house_cosine, house_sine}
use Rattle.nearest.proofs.Apart.{apart}
use Rattle.nearest.proofs.Witness.{fine_cosine, fine_sine, fine_rule, small, Rounds, cosine_rounds, sine_rounds}
use Rattle.nearest.proofs.Series.{whole_difference, cosine_series, sine_series, arc_between}
use Rattle.nearest.proofs.Nested.{cosines_nested, sines_nested}

-- ---- the rule at 2 ^ 60 is the turns' own
pub rule_at_60 : (c s : ℕ → ℕ) (n : ℕ) → Rule c s n → RuleAt (2 ^ 60) c s n
rule_at_60 c s n r = record {
  first = r.first;
  last = r.last;
  falls = r.falls;
  rises = r.rises;
  norm = r.norm;
  next_cosine = r.next_cosine;
  next_sine = r.next_sine;
}

pub at_60_rule : (c s : ℕ → ℕ) (n : ℕ) → RuleAt (2 ^ 60) c s n → Rule c s n
at_60_rule c s n r = record {
  first = r.first;
  last = r.last;
  falls = r.falls;
  rises = r.rises;
  norm = r.norm;
  next_cosine = r.next_cosine;
  next_sine = r.next_sine;
}

pub house_kept : RuleAt (2 ^ 60) house_cosine house_sine 840
house_kept = rule_at_60 house_cosine house_sine 840 house_rule

-- ---- a table keeps it at 2 ^ 96, so what follows is of something
pub kept : (c : ℕ → ℕ) × (s : ℕ → ℕ) × RuleAt (2 ^ 96) c s 840
kept = (fine_cosine, fine_sine, fine_rule)

-- ---- from the finer table to any
-- x of scale G and y of scale 2 ^ 36 K are e apart, and h is the rounding of y; K stands for 2 ^ 60
near : (G K x y h e b : ℕ) → 2 ^ 36 * K ≤ G → b ≤ 840 → e ≡ 463 * b * (G + 2 ^ 36 * K) → Within e (2 ^ 36 * K * x) (G * y) → Rounds y h
    → Within (4095 * G) (8192 * (K * x)) (8192 * (G * h))
near G K x y h e b g l k (p, q) (v, w) =
    let m : e ≤ 777840 * G = close in let n : G * y ≤ G * (2 ^ 36 * h + (2 ^ 35 - 2 ^ 24)) = mul-le-mul_left G v in
    let o : G * (2 ^ 36 * h) ≤ G * (y + (2 ^ 35 - 2 ^ 24)) = mul-le-mul_left G w in
    (omega arith, omega arith)
  where
    plain : (b t : ℕ) → b ≤ 840 → t ≤ 2 * G → 463 * b * t ≤ 777840 * G
    plain b t l k = le_trans (mul-le-mul_right t (mul-le-mul_left 463 l)) (omega arith)

    close : e ≤ 777840 * G
    close = rw k (plain b (G + 2 ^ 36 * K) l (omega arith))

pub house_nearest : (G : ℕ) (c s : ℕ → ℕ) → 2 ^ 96 ≤ G → RuleAt G c s 840 → (b : ℕ) → b ≤ 840 → Nearest G (c b) (house_cosine b) × Nearest G (s b)
    (house_sine b)
house_nearest G c s g r b l =
    let a = apart G (2 ^ 96) c s fine_cosine fine_sine (le_trans (lit≤ tt) g) (lit≤ tt) r fine_rule small b l in (
      near G (2 ^ 60) (c b) (fine_cosine b) (house_cosine b) (463 * b * (G + 2 ^ 96)) b g l refl a.0 (cosine_rounds b l),
      near G (2 ^ 60) (s b) (fine_sine b) (house_sine b) (463 * b * (G + 2 ^ 96)) b g l refl a.1 (sine_rounds b l),
    )

-- ---- the same as an equation: 2 ^ 60 c(b) / G plus a half, cut down, is the house table's entry
rounding : (G K x h : ℕ) → 0 < G → Within (4095 * G) (8192 * (K * x)) (8192 * (G * h)) → (2 * (K * x) + G) / (2 * G) ≡ h
rounding G K x h g (p, q) = div-eq_of_lt-le (2 * G) (omega arith) (omega arith)

pub house_rounded : (G : ℕ) (c s : ℕ → ℕ) → 2 ^ 96 ≤ G → RuleAt G c s 840 → (b : ℕ) → b ≤ 840
    → ((2 * (2 ^ 60 * c b) + G) / (2 * G) ≡ house_cosine b) × ((2 * (2 ^ 60 * s b) + G) / (2 * G) ≡ house_sine b)
house_rounded G c s g r b l =
    let a = house_nearest G c s g r b l in
    (rounding G (2 ^ 60) (c b) (house_cosine b) (le_trans (lit≤ tt) g) a.0, rounding G (2 ^ 60) (s b) (house_sine b) (le_trans (lit≤ tt) g) a.1)

-- ---- by the power series
-- the difference in `over` is a true one, for an arc of at most 1
pub uncut : (p q k n : ℕ) → p ≤ q → over p q k (suc n) + p * p * over p q (suc (suc k)) n ≡ under q k (suc n)
uncut = whole_difference

-- every later sum, hence what they tend to, is from `below` to `above`: e is the arc over 10 ^ 30, at most 1
parts : (e b : ℕ) → e ≤ 10 ^ 30 → b ≤ 840 → e * b ≤ 840 * 10 ^ 30
parts e b h l = le_trans (mul-le-mul h l) (lit≤ tt)

pub cosine_between : (e b N : ℕ) → e ≤ 10 ^ 30 → b ≤ 840 → 16 ≤ N
    → AtMost (below cosine_sum e b) (cosine_sum N (e * b) (840 * 10 ^ 30)) × AtMost (cosine_sum N (e * b) (840 * 10 ^ 30)) (above cosine_sum e b)
cosine_between e b N h l k = cosines_nested (e * b) (840 * 10 ^ 30) (parts e b h l) N k

pub sine_between : (e b N : ℕ) → e ≤ 10 ^ 30 → b ≤ 840 → 16 ≤ N
    → AtMost (below sine_sum e b) (sine_sum N (e * b) (840 * 10 ^ 30)) × AtMost (sine_sum N (e * b) (840 * 10 ^ 30)) (above sine_sum e b)
sine_between e b N h l k = sines_nested (e * b) (840 * 10 ^ 30) (parts e b h l) N k

-- at the lesser arc the sine is still below the cosine, at the greater it is above: an eighth of a circle is between
pub eighth : Less (above sine_sum least 840) (below cosine_sum least 840) × Less (above cosine_sum most 840) (below sine_sum most 840)
eighth = arc_between

-- cosines fall, so theirs are enclosed by the greater arc below and the lesser above; sines the other way
pub house_series : (b : ℕ) → b ≤ 840
    → Encloses (below cosine_sum most b) (above cosine_sum least b) (house_cosine b) × Encloses (below sine_sum least b) (above sine_sum most b) (house_sine b)
house_series b l = (cosine_series b l, sine_series b l)
