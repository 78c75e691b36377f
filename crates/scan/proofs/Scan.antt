-- The first number at which a test fails, step by step; where there is none; and that the test at a bound 2 ^ k is the definition's. Assumes nothing.
use Rattle.sequences.proofs.Basics.{◌≡◌, refl, sym, ap, subst, ◌∙◌, ℕ, zero, suc, ◌+◌, ◌-◌, ◌*◌, ◌^◌, ◌<◌, ◌≤◌, mul-one, one-mul, mul-pos}
use Rattle.sequences.proofs.Basics.{eq-or-lt_of_le, lt_of_not-le, add-zero, arith, dec_le, ℕ_discrete, Bool, true, false, not, ◌&&◌, ◌||◌, inl, inr, dite, List}
use Rattle.sequences.proofs.Basics.{ltb, leb, eqb, length, get_or, drop, pow_pos, pow-lt, not-false, leb-true, lt-ltb, le-ltb, le-leb, lt-leb, eq-eqb, ne_eqb}
use lib.Ieee.{Float, nan, inf, fin, le, lt, eq, neg, up, down, binary32, of_bits}
use lib.Ieee.Fits.{down_pos}
use Rattle.sequences.proofs.First.{first_skip, first_same, none_passes, each_fails}
use Rattle.scan.specs.Scan.{fits, first_not, first_unfit, bound, within, Passed, AllWithin}

-- where the first i pass, the answer is i and the answer for the rest
pub first_pass : (p : Float → Bool) (xs : List Float) (i : ℕ) → i < length xs → p (get_or xs i nan) ≡ true
    → first_not p xs ≡ i + first_not p (drop i xs) → first_not p xs ≡ i + 1 + first_not p (drop (i + 1) xs)
first_pass p xs i h t e = first_skip nan (λ (x : Float). not (p x)) xs i h (ap not t) e

-- the same of the k-th number from i on
pub pass_on : (b : Float) (xs : List Float) (i k : ℕ) → i + k < length xs → within b (get_or xs (i + k) nan) ≡ true → Passed b xs (i + k)
    → Passed b xs (i + (k + 1))
pass_on b xs i k h t p = subst (Passed b xs) {x = i + k + 1} {y = i + (k + 1)} (omega arith) (first_pass (within b) xs (i + k) h t p)

-- and of so many
pub pass_all : (b : Float) (xs : List Float) (i n : ℕ) → i + n ≤ length xs → AllWithin b xs i n → Passed b xs i → Passed b xs (i + n)
pass_all b xs i zero l w p = subst (Passed b xs) (sym (add-zero i)) p
pass_all b xs i (suc n) l w p = subst (λ (m : ℕ). Passed b xs (i + m)) {x = n + 1} {y = suc n} (omega arith)
    (pass_on b xs i n (omega arith) (w n (omega arith)) (pass_all b xs i n (omega arith) (λ k lk. w k (omega arith)) p))

-- one number more
pub within_next : (b : Float) (xs : List Float) (i k : ℕ) → within b (get_or xs (i + k) nan) ≡ true → AllWithin b xs i k → AllWithin b xs i (k + 1)
within_next b xs i k t w j lj = pick (ℕ_discrete j k)
  where
    pick : Dec (j ≡ k) → within b (get_or xs (i + j) nan) ≡ true
    pick (yes e) = rw e t
    pick (no e) = w j (omega (arith, e))

-- and to the end, where the last n numbers are, of which the first are looked at once more
pub pass_end : (b : Float) (xs : List Float) (i n : ℕ) → i ≤ length xs → n ≤ length xs → length xs - n ≤ i → AllWithin b xs (length xs - n) n → Passed b xs i
    → Passed b xs (length xs)
pass_end b xs i n li ln lt w p = subst (Passed b xs) {x = i + (length xs - i)} {y = length xs} (omega arith)
    (pass_all b xs i (length xs - i) (omega arith) (λ k lk.
    subst (λ (j : ℕ). within b (get_or xs j nan) ≡ true) {x = length xs - n + (i + k - (length xs - n))} {y = i + k} (omega arith)
    (w (i + k - (length xs - n)) (omega arith))) p)

-- ---- where there is none

-- every number passes
pub all_pass : (f : Float → Bool) (xs : List Float) → length xs ≤ first_not f xs → (i : ℕ) → i < length xs → f (get_or xs i nan) ≡ true
all_pass f xs l i li = not-false _ (none_passes nan (λ (x : Float). not (f x)) xs l i li)

-- and where every number passes there is none
pub none_fails : (f : Float → Bool) (xs : List Float) → ((i : ℕ) → i < length xs → f (get_or xs i nan) ≡ true) → length xs ≤ first_not f xs
none_fails f xs each = each_fails nan (λ (x : Float). not (f x)) xs (λ i li. ap not (each i li))

-- ---- the code's test
and_true : (b : Bool) → (b && true) ≡ b
and_true true = refl
and_true false = refl

-- a < b or a = b, however the equality is written
or_eq : (a b : ℕ) (q : Bool) → (a ≡ b → q ≡ true) → ((a ≡ b → ⊥) → q ≡ false) → (ltb a b || (q && true)) ≡ leb a b
or_eq a b q y n = dite (dec_le a b) (λ (h : a ≤ b). elim (eq-or-lt_of_le h) [
  | inl e ↦ simp (le-ltb a b (omega arith), y e, le-leb a b h)
  | inr l ↦ simp (lt-ltb a b l, le-leb a b h)
]) (λ (h : a ≤ b → ⊥).
    let g : b < a = lt_of_not-le h in
    simp (le-ltb a b (omega arith), n (λ (e : a ≡ b). omega arith), lt-leb a b g))

-- above: the bound holds on one side, and the other side's test passes since b is above 0
above : (a b : ℕ) (u : Bool) → 0 < b → ((ltb a b || (eqb a b && true)) && (ltb 0 (b + a) || u)) ≡ leb a b
above a b u h = rw (or_eq a b (eqb a b) (eq-eqb a b) (ne_eqb a b), lt-ltb 0 (b + a) (omega arith)) (and_true (leb a b))

below : (a b : ℕ) (u : Bool) → 0 < b → ((ltb 0 (a + b) || u) && (ltb a b || (eqb b a && true))) ≡ leb a b
below a b u h = rw (lt-ltb 0 (a + b) (omega arith))
    (or_eq a b (eqb b a) (λ (e : a ≡ b). eq-eqb b a (sym e)) (λ (n : a ≡ b → ⊥). ne_eqb b a (λ (e : b ≡ a). n (sym e))))

pub within_fits : (k : ℕ) (x : Float) → within (bound k) x ≡ fits k x
unfolding fits le lt eq neg
within_fits k nan = refl
within_fits k (inf true) = refl
within_fits k (inf false) = refl
within_fits k (fin false m e) = simp (mul-one, one-mul) (above (m * up e) (2 ^ k * down e) _ (mul-pos (pow_pos k) (down_pos e)))
within_fits k (fin true m e) = simp (mul-one, one-mul) (below (m * up e) (2 ^ k * down e) _ (mul-pos (pow_pos k) (down_pos e)))

-- 2 ^ 48 as a program writes it
limit : of_bits binary32 1468006400 ≡ bound 48
unfolding of_bits
limit = refl

-- no other power of two up to it is larger
powers : (k : ℕ) → le (bound k) (bound 48) ≡ true → k ≤ 48
unfolding le
powers k e = dite (dec_le k 48) (λ (h : k ≤ 48). h) (λ (h : k ≤ 48 → ⊥).
    let a = 1 * 2 ^ k * 1 in let b = 1 * 2 ^ 48 * 1 in
    let l : a ≤ b = leb-true a b (sym (or_eq a b (eqb a b) (eq-eqb a b) (ne_eqb a b)) ∙ e) in
    let g : 2 ^ 48 < 2 ^ k = pow-lt (lt_of_not-le h) in
    absurd (omega arith))

pub power_below : (b : Float) (k : ℕ) → b ≡ bound k → le b (of_bits binary32 1468006400) ≡ true → k ≤ 48
power_below b k e t = powers k (ap (λ (x : Float). le x (bound 48)) (sym e) ∙ ap (le b) (sym limit) ∙ t)

-- so a scan at 2 ^ k finds the first number that does not fit
pub first_unfit_lem : (b : Float) (xs : List Float) (n : ℕ) → n ≡ first_not (within b) xs → (k : ℕ) → b ≡ bound k → n ≡ first_unfit k xs
unfolding first_unfit
first_unfit_lem b xs n e k f = e ∙ ap (λ (c : Float). first_not (within c) xs) f
    ∙ first_same (λ (x : Float). not (within (bound k) x)) (λ (x : Float). not (fits k x)) xs (λ x. ap not (within_fits k x))

-- of two tests the second decides where the first passes, and else the first
pub second_decides : (p q : Bool) → p ≡ true → q ≡ (p && q)
second_decides p q e = rw e

pub first_decides : (p q : Bool) → p ≡ false → p ≡ (p && q)
first_decides p q e = rw e
