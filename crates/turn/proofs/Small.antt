-- No number of a turn is above 1 in magnitude. Assumes nothing.
use Rattle.sequences.proofs.Basics.{◌≡◌, refl, sym, subst, ℕ, zero, suc, ◌*◌, ◌^◌, ◌<◌, ◌≤◌, zero-le, zero-lt-suc, le_of_eq, mul-le-mul_right, arith, Bool}
use Rattle.sequences.proofs.Basics.{true, false, T, lit≤, pow_pos}
use lib.IntN.{pos}
use lib.Ieee.{Float, nan, inf, fin, binary32, round, of_bits, neg, up, down, le}
use lib.Ieee.Order.{round_mono}
use lib.Ieee.Positive.{positive, num, den, between, le→cross}
use Rattle.schedule.specs.Stage.{Part}
use Rattle.house.specs.Rule.{cosine, sine}
use Rattle.house.specs.Entries.{entry_of}
use Rattle.house.proofs.Rule.{house_rule, entries}
use Rattle.house.proofs.Entries.{entry_has}
use Rattle.house.proofs.Nearest.{neg_round}
use Rattle.turn.specs.Turns.{index_of, rounded, quarters_on, numbers_at, turn_of, words_of}
use Rattle.turn.proofs.Theorems.{words_are}

-- finite, and at most 1 in magnitude
abbrev pub Small : Float → Type 0
Small nan = ⊥
Small (inf s) = ⊥
Small (fin s m e) = m * up e ≤ down e

small_neg : (x : Float) → Small x → Small (neg x)
unfolding neg
small_neg nan h = h
small_neg (inf s) h = h
small_neg (fin s m e) h = h

-- at most 1, by order
small_positive : (x : Float) → T (positive x) → T (le x (fin false 1 (pos 0))) → Small x
small_positive x p h = go x p (le→cross x (fin false 1 (pos 0)) p tt h)
  where
    go : (x : Float) → T (positive x) → num x * 1 ≤ 1 * den x → Small x
    go nan p h = absurd p
    go (inf s) p h = absurd p
    go (fin s m e) p h = omega arith

one_rounded : round binary32 false (2 ^ 60) (2 ^ 60) ≡ fin false 1 (pos 0)
unfolding round
one_rounded = refl

least_positive : T (positive (round binary32 false 1 (2 ^ 60)))
unfolding round
least_positive = tt

small_round : (a : ℕ) → 0 < a → a ≤ 2 ^ 60 → Small (round binary32 false a (2 ^ 60))
small_round a p h =
    let z = round binary32 false a (2 ^ 60) in
    let l = round_mono binary32 1 (2 ^ 60) a (2 ^ 60) (pow_pos 60) (pow_pos 60) (mul-le-mul_right (2 ^ 60) p) in
    let m = round_mono binary32 a (2 ^ 60) (2 ^ 60) (2 ^ 60) (pow_pos 60) (pow_pos 60) (mul-le-mul_right (2 ^ 60) h) in
    let u : T (le z (fin false 1 (pos 0))) = subst (λ (x : Float). T (le z x)) one_rounded m in
    small_positive z (between (round binary32 false 1 (2 ^ 60)) z (fin false 1 (pos 0)) least_positive tt l u) u

small_rounded : (minus : Bool) (a : ℕ) → a ≤ 2 ^ 60 → Small (rounded minus a)
unfolding rounded of_bits
small_rounded minus zero h = lit≤ tt
small_rounded false (suc a) h = small_round (suc a) (zero-lt-suc a) h
small_rounded true (suc a) h =
    subst Small (neg_round binary32 (suc a) (2 ^ 60)) (small_neg (round binary32 false (suc a) (2 ^ 60)) (small_round (suc a) (zero-lt-suc a) h))

-- ---- every entry, and so every turn

bounded : (b : ℕ) → b ≤ 840 → (cosine b ≤ 2 ^ 60) × (sine b ≤ 2 ^ 60)
bounded zero h = (le_of_eq house_rule.first.0, subst (λ (x : ℕ). x ≤ 2 ^ 60) (sym house_rule.first.1) zero-le)
bounded (suc b) h = let e = entries (suc b) (zero-lt-suc b) h in (e.0.1, e.1.1)

numbers_small : (index : ℕ) → Small (numbers_at index).0 × Small (numbers_at index).1
unfolding numbers_at
numbers_small index = go (entry_of index).quarter (entry_of index).cosine (entry_of index).sine (entry_has (λ x. x ≤ 2 ^ 60) index (λ b h z. bounded b h))
  where
    go : (q c s : ℕ) → (c ≤ 2 ^ 60) × (s ≤ 2 ^ 60) → Small (quarters_on rounded q c s).0 × Small (quarters_on rounded q c s).1
    go zero c s h = (small_rounded false c h.0, small_rounded true s h.1)
    go (suc zero) c s h = (small_rounded true s h.1, small_rounded true c h.0)
    go (suc (suc zero)) c s h = (small_rounded true c h.0, small_rounded false s h.1)
    go (suc (suc (suc q))) c s h = (small_rounded false s h.1, small_rounded false c h.0)

pub words_small : (a : Part) → Small (words_of (turn_of a)).0 × Small (words_of (turn_of a)).1
words_small a = subst (λ (w : Float × Float). Small w.0 × Small w.1) (sym (words_are a)) (numbers_small (index_of a))
