-- Sums and differences of floats that are whole numbers: exact up to 2 ^ 24, and equal by equations of naturals.
-- Assumes nothing.
use Rattle.sequences.proofs.Basics.{◌≡◌, refl, sym, ap, ap₂, ◌∙◌, subst, ℕ, zero, suc, ◌+◌, ◌-◌, ◌*◌, ◌^◌, ◌≤◌, mul-one, lt_of_not-le, zero-lt-suc, arith}
use Rattle.sequences.proofs.Basics.{dec_le, Bool, true, false, not, cond, ◌&&◌, dite, T, ltb, leb, ltb→lt, leb→le, lt-ltb, le-ltb}
use lib.IntN.{ℤ, pos, negsuc, neg_ℤ, ◌+ℤ◌, ◌-ℤ◌, nat_abs, sub_ℕ, +ℤ_assoc, +ℤ_comm, +ℤ_idl, +ℤ_idr, +ℤ-neg_ℤ_cancel, neg_ℤ-+ℤ, neg_ℤ-neg_ℤ, ◌*ℤ◌}
use lib.IntN.{zero-*ℤ, suc_ℤ-*ℤ}
use lib.Ieee.{Float, nan, inf, fin, binary32, up, round, sum, add, sub, neg, of_bits}
use lib.Ieee.Fits.{and_l, and_r}
use lib.Ieee.Exact.{HasValue}
use lib.Ieee.Back.{round_whole}
use Rattle.turn.specs.Turns.{+0}
use Rattle.fractions.proofs.Fractions.{add_at}
use Rattle.finite.specs.Whole.{signed, IsWhole, Small}

-- ---- signs and sizes

size_signed : (s : Bool) (n : ℕ) → nat_abs (signed s n) ≡ n
size_signed false n = refl
size_signed true zero = refl
size_signed true (suc n) = refl

size_neg : (z : ℤ) → nat_abs (neg_ℤ z) ≡ nat_abs z
size_neg (pos zero) = refl
size_neg (pos (suc n)) = refl
size_neg (negsuc n) = refl

neg_signed : (s : Bool) (n : ℕ) → signed (not s) n ≡ neg_ℤ (signed s n)
neg_signed false n = refl
neg_signed true n = sym (neg_ℤ-neg_ℤ (pos n))

-- a whole number is rounded to itself
round_sized : (s : Bool) (n : ℕ) → n ≤ 2 ^ 24 → IsWhole (round binary32 s n 1) (signed s n)
round_sized s n l = go (round binary32 s n 1) (round_whole binary32 s n l)
  where
    go : (x : Float) → HasValue x s n 1 → IsWhole x (signed s n)
    go nan v = v
    go (inf t) v = v
    go (fin t m e) v = rw (size_signed s n) (sym (mul-one (m * up e)) ∙ v.1, ap (λ (u : Bool). signed u n) v.0)

-- a difference of naturals, by which is larger
pos_less : (m n : ℕ) → n ≤ m → pos m +ℤ neg_ℤ (pos n) ≡ pos (m - n)
pos_less m n l =
    let e : m ≡ m - n + n = omega arith in
    ap (λ (k : ℕ). pos k +ℤ neg_ℤ (pos n)) e ∙ +ℤ-neg_ℤ_cancel (pos (m - n)) (pos n)

pos_more : (m n : ℕ) → m ≤ n → pos m +ℤ neg_ℤ (pos n) ≡ neg_ℤ (pos (n - m))
pos_more m n l = sym (neg_ℤ-neg_ℤ (pos m +ℤ neg_ℤ (pos n)))
    ∙ ap neg_ℤ (neg_ℤ-+ℤ (pos m) (neg_ℤ (pos n)) ∙ ap (λ (z : ℤ). neg_ℤ (pos m) +ℤ z) (neg_ℤ-neg_ℤ (pos n)) ∙ +ℤ_comm (neg_ℤ (pos m)) (pos n) ∙ pos_less n m l)

-- zero has either sign
no_sign : (s : Bool) (m n : ℕ) → signed s (m - n) ≡ signed (s && ltb n m) (m - n)
no_sign false m n = refl
no_sign true m n = dite (dec_le m n) (λ (g : m ≤ n).
    let e : m - n ≡ 0 = omega arith in
    rw (le-ltb n m g, e)) (λ (g : m ≤ n → ⊥). rw (lt-ltb n m (lt_of_not-le g)))

module _ (z : ℤ) (room : nat_abs z ≤ 2 ^ 24) where
  -- z by its sign and size, rounded
  round_to : (s : Bool) (n : ℕ) → z ≡ signed s n → IsWhole (round binary32 s n 1) z
  round_to s n e =
      let l : n ≤ 2 ^ 24 = rw (e, size_signed s n) at room in
      subst (IsWhole (round binary32 s n 1)) (sym e) (round_sized s n l)

  -- and as a sum of unlike signs
  unlike_to : (s t : Bool) (m n : ℕ) → (m ≤ n → z ≡ signed t (n - m)) → (n ≤ m → z ≡ signed s (m - n))
      → IsWhole (cond (ltb m n) (round binary32 t (n - m) 1) (round binary32 (s && ltb n m) (m - n) 1)) z
  unlike_to s t m n more less = dite (dec_le n m) (λ (g : n ≤ m). rw (le-ltb m n g) (round_to (s && ltb n m) (m - n) (less g ∙ no_sign s m n)))
      (λ (g : n ≤ m → ⊥). rw (lt-ltb m n (lt_of_not-le g)) (round_to t (n - m) (more (omega (arith, g)))))

sum_to : (s t : Bool) (m n : ℕ) → nat_abs (signed s m +ℤ signed t n) ≤ 2 ^ 24 → IsWhole (sum binary32 s m t n 1) (signed s m +ℤ signed t n)
unfolding sum
sum_to false false m n l = round_to (pos (m + n)) l false (m + n) refl
sum_to true true m n l = round_to (neg_ℤ (pos m) +ℤ neg_ℤ (pos n)) l true (m + n) (sym (neg_ℤ-+ℤ (pos m) (pos n)))
sum_to false true m n l = unlike_to (pos m +ℤ neg_ℤ (pos n)) l false true m n (pos_more m n) (pos_less m n)
sum_to true false m n l = unlike_to (neg_ℤ (pos m) +ℤ pos n) l true false m n (λ g. +ℤ_comm (neg_ℤ (pos m)) (pos n) ∙ pos_less n m g)
    (λ g. +ℤ_comm (neg_ℤ (pos m)) (pos n) ∙ pos_more n m g)

-- ---- the laws

pub add_whole : (x y : Float) (a b : ℤ) → IsWhole x a → IsWhole y b → nat_abs (a +ℤ b) ≤ 2 ^ 24 → IsWhole (add binary32 x y) (a +ℤ b)
add_whole nan y a b v w l = absurd v
add_whole (inf s) y a b v w l = absurd v
add_whole (fin s m e) nan a b v w l = absurd w
add_whole (fin s m e) (inf t) a b v w l = absurd w
add_whole (fin s m e) (fin t n d) a b v w l =
    let same : signed s (nat_abs a) +ℤ signed t (nat_abs b) ≡ a +ℤ b = ap₂ ◌+ℤ◌ v.1 w.1 in
    rw (add_at binary32 (fin s m e) (fin t n d) s t (nat_abs a) (nat_abs b) 1 (zero-lt-suc 0) (refl, mul-one (m * up e) ∙ v.0)
    (refl, mul-one (n * up d) ∙ w.0))
    (subst (IsWhole (sum binary32 s (nat_abs a) t (nat_abs b) 1)) same (sum_to s t (nat_abs a) (nat_abs b) (rw same l)))

pub neg_whole : (x : Float) (a : ℤ) → IsWhole x a → IsWhole (neg x) (neg_ℤ a)
unfolding neg
neg_whole nan a v = v
neg_whole (inf s) a v = v
neg_whole (fin s m e) a v = rw (size_neg a) (v.0, neg_signed s (nat_abs a) ∙ ap neg_ℤ v.1)

pub sub_whole : (x y : Float) (a b : ℤ) → IsWhole x a → IsWhole y b → nat_abs (a -ℤ b) ≤ 2 ^ 24 → IsWhole (sub binary32 x y) (a -ℤ b)
unfolding sub
sub_whole x y a b v w l = add_whole x (neg y) a (neg_ℤ b) v (neg_whole y b w) l

-- ---- sums of integers x(0), x(1), .. as differences of naturals

-- nothing, x(i), -a, a + b
pub data Sum : Type 0 where
  none : Sum
  at : ℕ → Sum
  minus : Sum → Sum
  ◌⊕◌ : Sum → Sum → Sum

infixl 6 ◌⊕◌
-- so many times x(i)
abbrev pub copies : (n i : ℕ) → Sum
copies zero i = none
copies (suc n) i = copies n i ⊕ at i

-- z is above z - below z
abbrev above : ℤ → ℕ
above (pos n) = n
above (negsuc n) = 0

abbrev below : ℤ → ℕ
below (pos n) = 0
below (negsuc n) = suc n

exchanged : (a b c d : ℤ) → a +ℤ b +ℤ (c +ℤ d) ≡ a +ℤ c +ℤ (b +ℤ d)
exchanged a b c d = +ℤ_assoc a b (c +ℤ d) ∙ ap (λ (z : ℤ). a +ℤ z) (sym (+ℤ_assoc b c d) ∙ ap (λ (z : ℤ). z +ℤ d) (+ℤ_comm b c) ∙ +ℤ_assoc c b d)
    ∙ sym (+ℤ_assoc a c (b +ℤ d))

-- equal differences of naturals
level : (p q r s : ℕ) → p + s ≡ r + q → pos p -ℤ pos q ≡ pos r -ℤ pos s
level p q r s e = dite (dec_le q p) (λ (g : q ≤ p).
    let same : p - q ≡ r - s = omega arith in
    pos_less p q g ∙ ap pos same ∙ sym (pos_less r s (omega arith))) (λ (g : q ≤ p → ⊥).
    let same : q - p ≡ s - r = omega (arith, g) in
    pos_more p q (omega (arith, g)) ∙ ap (λ (k : ℕ). neg_ℤ (pos k)) same ∙ sym (pos_more r s (omega (arith, g))))

cut_size : (m n : ℕ) → nat_abs (sub_ℕ m (suc n)) ≤ m + suc n
cut_size m n = go (ltb m (suc n))
  where
    go : (c : Bool) → nat_abs (cond c (negsuc (suc n - suc m)) (pos (m - suc n))) ≤ m + suc n
    go true = omega arith
    go false = omega arith

sum_size : (a b : ℤ) → nat_abs (a +ℤ b) ≤ nat_abs a + nat_abs b
sum_size (pos m) (pos n) = omega arith
sum_size (pos m) (negsuc n) = cut_size m n
sum_size (negsuc m) (pos n) = omega (arith, cut_size n m)
sum_size (negsuc m) (negsuc n) = omega arith

module _ (x : ℕ → ℤ) where
  -- what a sum comes to
  abbrev value : Sum → ℤ
  value none = pos 0
  value (at i) = x i
  value (minus a) = neg_ℤ (value a)
  value (a ⊕ b) = value a +ℤ value b

  -- what is added and what is taken away
  abbrev pub part : (away : Bool) → Sum → ℕ
  part s none = 0
  part false (at i) = above (x i)
  part true (at i) = below (x i)
  part s (minus a) = part (not s) a
  part s (a ⊕ b) = part s a + part s b

  difference : (a : Sum) → value a ≡ pos (part false a) -ℤ pos (part true a)
  difference none = refl
  difference (at i) = go (x i)
    where
      go : (z : ℤ) → z ≡ pos (above z) -ℤ pos (below z)
      go (pos n) = sym (+ℤ_idr (pos n))
      go (negsuc n) = sym (+ℤ_idl (negsuc n))
  difference (minus a) = ap neg_ℤ (difference a) ∙ neg_ℤ-+ℤ (pos (part false a)) (neg_ℤ (pos (part true a)))
      ∙ ap (λ (z : ℤ). neg_ℤ (pos (part false a)) +ℤ z) (neg_ℤ-neg_ℤ (pos (part true a))) ∙ +ℤ_comm (neg_ℤ (pos (part false a))) (pos (part true a))
  difference (a ⊕ b) = ap₂ ◌+ℤ◌ (difference a) (difference b)
      ∙ exchanged (pos (part false a)) (neg_ℤ (pos (part true a))) (pos (part false b)) (neg_ℤ (pos (part true b)))
      ∙ ap (λ (z : ℤ). pos (part false a + part false b) +ℤ z) (sym (neg_ℤ-+ℤ (pos (part true a)) (pos (part true b))))

  -- two sums are one number where their parts are
  same : (a b : Sum) → part false a + part true b ≡ part false b + part true a → value a ≡ value b
  same a b e = difference a ∙ level (part false a) (part true a) (part false b) (part true b) e ∙ sym (difference b)

  pub times_copies : (n i : ℕ) → value (copies n i) ≡ pos n *ℤ x i
  times_copies zero i = sym (zero-*ℤ (x i))
  times_copies (suc n) i = ap (λ (z : ℤ). z +ℤ x i) (times_copies n i) ∙ sym (suc_ℤ-*ℤ (pos n) (x i))

-- ---- floats that are sums of n integers up to 2 ^ 20

-- how many are summed
abbrev weight : Sum → ℕ
weight none = 0
weight (at i) = 1
weight (minus a) = weight a
weight (a ⊕ b) = weight a + weight b

-- all are among the first n
abbrev within : (n : ℕ) → Sum → Bool
within n none = true
within n (at i) = ltb i n
within n (minus a) = within n a
within n (a ⊕ b) = within n a && within n b

-- and no more than 16
abbrev few : (n : ℕ) → Sum → Bool
few n a = within n a && leb (weight a) 16

module _ (n : ℕ) (x : ℕ → ℤ) (small : Small n x) where
  sized : (a : Sum) → T (within n a) → nat_abs (value x a) ≤ weight a * 2 ^ 20
  sized none t = omega arith
  sized (at i) t = omega (arith, small i (ltb→lt i n t))
  sized (minus a) t = rw (size_neg (value x a)) (sized a t)
  sized (a ⊕ b) t = omega (arith, sum_size (value x a) (value x b), sized a (and_l (within n a) (within n b) t), sized b (and_r (within n a) (within n b) t))

  room : (a : Sum) → T (few n a) → nat_abs (value x a) ≤ 2 ^ 24
  room a t = omega (arith, sized a (and_l (within n a) (leb (weight a) 16) t), leb→le (weight a) 16 (and_r (within n a) (leb (weight a) 16) t))

-- y is the sum a
pub record Held (x : ℕ → ℤ) (y : Float) (a : Sum) : Type 0 where
  pub whole : IsWhole y (value x a)

module _ {n : ℕ} {x : ℕ → ℤ} (small : Small n x) {y z : Float} {a b : Sum} (v : Held x y a) (w : Held x z b) where
  pub held_add : T (few n (a ⊕ b)) → Held x (add binary32 y z) (a ⊕ b)
  held_add t = record { whole = add_whole y z (value x a) (value x b) v.whole w.whole (room n x small (a ⊕ b) t) }

  pub held_sub : T (few n (a ⊕ minus b)) → Held x (sub binary32 y z) (a ⊕ minus b)
  held_sub t = record { whole = sub_whole y z (value x a) (value x b) v.whole w.whole (room n x small (a ⊕ minus b) t) }

pub held_neg : {x : ℕ → ℤ} {y : Float} {a : Sum} → Held x y a → Held x (neg y) (minus a)
held_neg {x} {y} {a} v = record { whole = neg_whole y (value x a) v.whole }

pub held_zero : (x : ℕ → ℤ) → Held x +0 none
unfolding of_bits
held_zero x = record { whole = (refl, refl) }

-- and any other sum that comes to the same
pub held_as : {x : ℕ → ℤ} {y : Float} {a : Sum} (b : Sum) → Held x y a → part x false a + part x true b ≡ part x false b + part x true a → IsWhole y (value x b)
held_as {x} {y} {a} b v e = subst (IsWhole y) (same x a b e) v.whole
