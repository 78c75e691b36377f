-- Laws of the product by exponents: the radices counted, how many there are, and that the product tells the exponents. Assumes nothing.
use Rattle.sequences.proofs.Basics.{◌≡◌, refl, sym, ap, ◌∙◌, ℕ, zero, suc, ◌+◌, ◌*◌, ◌/◌, ◌%◌, ◌^◌, ◌≤◌, one-mul, mul-one, mul_assoc, pow-zero, pow-suc}
use Rattle.sequences.proofs.Basics.{pow-succ', zero-add, add-mul-mod_self_right, mul-mod_left, div-add-mod', arith, Bool, true, false, cond, inl, inr, List, []}
use Rattle.sequences.proofs.Basics.{◌∷◌, ◌++◌, eqb, length, replicate, pow-add, eqb-true}
use Rattle.radices.specs.Lists.{is_radix, product, count_of}
use Rattle.merging.specs.Merging.{tally, total, sorted}
use Rattle.merging.specs.declared.inner.merging.Tally.{Tally}
use Rattle.radices.proofs.Lists.{product_append}
use Rattle.merging.proofs.Merging.{exponent}
use Rattle.radices.proofs.Products.{Radical, Radix, pow_eight, product_replicate, radical_append, radical_replicate, radix_is, pow_four}

pub radical_sorted : (t : Tally) → Radical (sorted t)
unfolding sorted is_radix
radical_sorted t = radical_append _ _ (radical_replicate t.twos 2 refl) (radical_append _ _ (radical_replicate t.threes 3 refl)
    (radical_append _ _ (radical_replicate t.fours 4 refl) (radical_append _ _ (radical_replicate t.fives 5 refl)
    (radical_append _ _ (radical_replicate t.sevens 7 refl) (radical_replicate t.eights 8 refl)))))

-- ---- the product by exponents

unfoldable pub weight : Tally → ℕ
weight t = 2 ^ exponent t * (3 ^ t.threes * (5 ^ t.fives * 7 ^ t.sevens))

regroup : (a b c d e f : ℕ) → a * (b * (c * (d * (e * f)))) ≡ a * (c * f) * (b * (d * e))
regroup a b c d e f = omega arith

pub product_sorted : (t : Tally) → product (sorted t) ≡ weight t
unfolding sorted weight
product_sorted t = simp (product_append, product_replicate) (rw (pow_four t.fours, pow_eight t.eights)
    (regroup (2 ^ t.twos) (3 ^ t.threes) (2 ^ (2 * t.fours)) (5 ^ t.fives) (7 ^ t.sevens) (2 ^ (3 * t.eights))
    ∙ ap (λ (n : ℕ). n * (3 ^ t.threes * (5 ^ t.fives * 7 ^ t.sevens)))
    (ap (λ (n : ℕ). 2 ^ t.twos * n) (sym (pow-add 2 (2 * t.fours) (3 * t.eights))) ∙ sym (pow-add 2 t.twos (2 * t.fours + 3 * t.eights)))))

-- ---- counting

pub count_append : (v : ℕ) (xs ys : List ℕ) → count_of v (xs ++ ys) ≡ count_of v xs + count_of v ys
unfolding count_of
count_append v [] ys = sym (zero-add (count_of v ys))
count_append v (b ∷ bs) ys = go (eqb b v) (count_append v bs ys)
  where
    go : (t : Bool) → count_of v (bs ++ ys) ≡ count_of v bs + count_of v ys
        → cond t (suc (count_of v (bs ++ ys))) (count_of v (bs ++ ys)) ≡ cond t (suc (count_of v bs)) (count_of v bs) + count_of v ys
    go true e = omega arith
    go false e = e

-- a run of one radix
pub count_run : (v k w : ℕ) → count_of v (replicate k w) ≡ cond (eqb w v) k 0
unfolding count_of
count_run v zero w = go (eqb w v)
  where
    go : (t : Bool) → ◌≡◌ {A = ℕ} 0 (cond t 0 0)
    go true = refl
    go false = refl
count_run v (suc k) w = go (eqb w v) (count_run v k w)
  where
    go : (t : Bool) → count_of v (replicate k w) ≡ cond t k 0 → cond t (suc (count_of v (replicate k w))) (count_of v (replicate k w)) ≡ cond t (suc k) 0
    go true e = ap suc e
    go false e = e

-- counting a sorted list gives the counts back
pub tally_sorted : (t : Tally) → tally (sorted t) ≡ t
unfolding tally sorted
tally_sorted t = λ i. record { twos = two i; threes = three i; fours = four i; fives = five i; sevens = seven i; eights = eight i }
  where
    two : count_of 2 (sorted t) ≡ t.twos
    two = simp (count_append, count_run) (omega arith)

    three : count_of 3 (sorted t) ≡ t.threes
    three = simp (count_append, count_run) (omega arith)

    four : count_of 4 (sorted t) ≡ t.fours
    four = simp (count_append, count_run) (omega arith)

    five : count_of 5 (sorted t) ≡ t.fives
    five = simp (count_append, count_run) (omega arith)

    seven : count_of 7 (sorted t) ≡ t.sevens
    seven = simp (count_append, count_run) (omega arith)

    eight : count_of 8 (sorted t) ≡ t.eights
    eight = simp (count_append, count_run) (omega arith)

-- ---- one more entry

-- 1 if b is v
abbrev hit : ℕ → ℕ → ℕ
hit b v = cond (eqb b v) 1 0

count_cons : (v b : ℕ) (bs : List ℕ) → count_of v (b ∷ bs) ≡ hit b v + count_of v bs
unfolding count_of
count_cons v b bs = go (eqb b v)
  where
    go : (t : Bool) → cond t (suc (count_of v bs)) (count_of v bs) ≡ cond t 1 0 + count_of v bs
    go true = omega arith
    go false = omega arith

-- where b is not v, it is at most one of the others; where it is, it is none of them
hit_or : (b v n : ℕ) → (b ≡ v → n ≡ 0) → n ≤ 1 → hit b v + n ≤ 1
hit_or b v n f h = go (eqb b v) refl
  where
    go : (t : Bool) → eqb b v ≡ t → cond t 1 0 + n ≤ 1
    go true e = omega (arith, f (eqb-true b v e))
    go false e = omega arith

hits : (b : ℕ) → hit b 2 + (hit b 3 + (hit b 4 + (hit b 5 + (hit b 7 + (hit b 8 + 0))))) ≤ 1
hits b = hit_or b 2 _ (λ e. rw e)
    (hit_or b 3 _ (λ e. rw e) (hit_or b 4 _ (λ e. rw e) (hit_or b 5 _ (λ e. rw e) (hit_or b 7 _ (λ e. rw e) (hit_or b 8 0 (λ e. refl) (omega arith))))))

-- there are no more radices than entries
pub total_few : (xs : List ℕ) → total (tally xs) ≤ length xs
unfolding tally count_of
total_few [] = omega arith
total_few (b ∷ bs) =
    omega (arith, hits b, total_few bs, count_cons 2 b bs, count_cons 3 b bs, count_cons 4 b bs, count_cons 5 b bs, count_cons 7 b bs, count_cons 8 b bs)

-- k more twos in the product
weight_twos : (t u : Tally) (k : ℕ) → exponent u ≡ exponent t + k → u.threes ≡ t.threes → u.fives ≡ t.fives → u.sevens ≡ t.sevens
    → weight u ≡ 2 ^ k * weight t
unfolding weight
weight_twos t u k e p q r = rw (e, p, q, r, pow-add 2 (exponent t) k) (turn (2 ^ exponent t) (2 ^ k) (3 ^ t.threes * (5 ^ t.fives * 7 ^ t.sevens)))
  where
    turn : (a b c : ℕ) → a * b * c ≡ b * (a * c)
    turn a b c = omega arith

-- the product of a list of radices is that of its counts
pub product_tally : (xs : List ℕ) → Radical xs → product xs ≡ weight (tally xs)
unfolding product tally weight Radical count_of
product_tally [] r = refl
product_tally (b ∷ bs) r = ap (λ (n : ℕ). b * n) (product_tally bs r.1) ∙ more b (radix_is b r.0)
  where
    three : (a b c d : ℕ) → 3 * (a * (b * (c * d))) ≡ a * (b * 3 * (c * d))
    three a b c d = omega arith

    five : (a b c d : ℕ) → 5 * (a * (b * (c * d))) ≡ a * (b * (c * 5 * d))
    five a b c d = omega arith

    seven : (a b c d : ℕ) → 7 * (a * (b * (c * d))) ≡ a * (b * (c * (d * 7)))
    seven a b c d = omega arith

    more : (b : ℕ) → Radix b → b * weight (tally bs) ≡ weight (tally (b ∷ bs))
    more b (inl e) = rw e (sym (weight_twos (tally bs) (tally (2 ∷ bs)) 1 (omega arith) refl refl refl))
    more b (inr (inl e)) = rw (e, pow-suc 3 (count_of 3 bs)) (three (2 ^ exponent (tally bs)) (3 ^ count_of 3 bs) (5 ^ count_of 5 bs) (7 ^ count_of 7 bs))
    more b (inr (inr (inl e))) = rw e (sym (weight_twos (tally bs) (tally (4 ∷ bs)) 2 (omega arith) refl refl refl))
    more b (inr (inr (inr (inl e)))) = rw (e, pow-suc 5 (count_of 5 bs))
        (five (2 ^ exponent (tally bs)) (3 ^ count_of 3 bs) (5 ^ count_of 5 bs) (7 ^ count_of 7 bs))
    more b (inr (inr (inr (inr (inl e))))) = rw (e, pow-suc 7 (count_of 7 bs))
        (seven (2 ^ exponent (tally bs)) (3 ^ count_of 3 bs) (5 ^ count_of 5 bs) (7 ^ count_of 7 bs))
    more b (inr (inr (inr (inr (inr e))))) = rw e (sym (weight_twos (tally bs) (tally (8 ∷ bs)) 3 (omega arith) refl refl refl))

-- ---- the product tells the exponents

-- p does not divide u
abbrev Free : ℕ → ℕ → Type 0
Free p u = u % p ≡ 0 → ⊥

-- c times q is 1 more than d times p, so p divides q times x only where it divides x
divides_other : (p q c d : ℕ) → c * q ≡ 1 + d * p → (x : ℕ) → (q * x) % p ≡ 0 → x % p ≡ 0
divides_other p q c d e x h =
    let k = q * x / p in let whole : k * p ≡ q * x = omega (arith, div-add-mod' (q * x) p, h) in
    sym (add-mul-mod_self_right x (d * x) p) ∙ ap (λ (n : ℕ). n % p) (ring whole e) ∙ mul-mod_left (c * k) p
  where
    spread : (d p x : ℕ) → (1 + d * p) * x ≡ x + d * x * p
    spread d p x = omega arith

    ring : q * x / p * p ≡ q * x → c * q ≡ 1 + d * p → x + d * x * p ≡ c * (q * x / p) * p
    ring whole e = sym (ap (λ (n : ℕ). n * x) e ∙ spread d p x) ∙ mul_assoc c q x ∙ ap (λ (n : ℕ). c * n) (sym whole) ∙ sym (mul_assoc c (q * x / p) p)

-- so such a factor may be taken off, as often as it stands there
free_pow : (p q c d : ℕ) → c * q ≡ 1 + d * p → (k u : ℕ) → Free p u → Free p (q ^ k * u)
free_pow p q c d f zero u h e = h (rw (pow-zero q, one-mul) at e)
free_pow p q c d f (suc k) u h e = free_pow p q c d f k u h (divides_other p q c d f (q ^ k * u) (rw (pow-succ' q k, mul_assoc) at e))

pow_out : (p a u : ℕ) → p ^ suc a * u ≡ p * (p ^ a * u)
pow_out p a u = ap (λ (n : ℕ). n * u) (pow-succ' p a) ∙ mul_assoc p (p ^ a) u

pow_none : (p u : ℕ) → p ^ zero * u ≡ u
pow_none p u = ap (λ (n : ℕ). n * u) (pow-zero p) ∙ one-mul u

-- the exponent of p and what is left are the same, where p does not divide what is left
same_exponent : (p : ℕ) → ((x : ℕ) → (p * x) % p ≡ 0) → ((x y : ℕ) → p * x ≡ p * y → x ≡ y)
    → (a b u v : ℕ) → Free p u → Free p v → p ^ a * u ≡ p ^ b * v → (a ≡ b) × (u ≡ v)
same_exponent p d c zero zero u v f g e = (refl, sym (pow_none p u) ∙ e ∙ pow_none p v)
same_exponent p d c zero (suc b) u v f g e = absurd (f (ap (λ (n : ℕ). n % p) (sym (pow_none p u) ∙ e ∙ pow_out p b v) ∙ d (p ^ b * v)))
same_exponent p d c (suc a) zero u v f g e = absurd (g (ap (λ (n : ℕ). n % p) (sym (pow_none p v) ∙ sym e ∙ pow_out p a u) ∙ d (p ^ a * u)))
same_exponent p d c (suc a) (suc b) u v f g e =
    let s = same_exponent p d c a b u v f g (c (p ^ a * u) (p ^ b * v) (sym (pow_out p a u) ∙ e ∙ pow_out p b v)) in
    (ap suc s.0, s.1)

-- what is left of the product without its 2s, without its 3s too, and without its 5s too
past_five : Tally → ℕ
past_five t = 7 ^ t.sevens

past_three : Tally → ℕ
unfolding past_five
past_three t = 5 ^ t.fives * past_five t

past_two : Tally → ℕ
unfolding past_three
past_two t = 3 ^ t.threes * past_three t

free_five : (p c d : ℕ) (t : Tally) → c * 7 ≡ 1 + d * p → Free p 1 → Free p (past_five t)
unfolding past_five
free_five p c d t f h z = free_pow p 7 c d f t.sevens 1 h (rw mul-one z)

free_three : (p c d a b : ℕ) (t : Tally) → c * 5 ≡ 1 + d * p → a * 7 ≡ 1 + b * p → Free p 1 → Free p (past_three t)
unfolding past_three
free_three p c d a b t f g h = free_pow p 5 c d f t.fives (past_five t) (free_five p a b t g h)

free_two : (t : Tally) → Free 2 (past_two t)
unfolding past_two
free_two t = free_pow 2 3 1 1 refl t.threes (past_three t) (free_three 2 1 2 1 3 t refl refl (λ h. omega arith))

-- the exponent of 2
pub exponent_is : (t : Tally) (e u : ℕ) → weight t ≡ 2 ^ e * u → u % 2 ≡ 1 → exponent t ≡ e
unfolding weight past_two
exponent_is t e u w o = (same_exponent 2 (λ x. omega arith) (λ x y h. omega arith) (exponent t) e (past_two t) u (free_two t) (λ h. omega arith) w).0

-- the same product, the same exponents of 2, 3, 5 and 7
pub weight_tells : (t u : Tally) → weight t ≡ weight u
    → (exponent t ≡ exponent u) × ((t.threes ≡ u.threes) × ((t.fives ≡ u.fives) × (t.sevens ≡ u.sevens)))
unfolding weight past_two
weight_tells t u e =
    let two = same_exponent 2 (λ x. omega arith) (λ x y h. omega arith) (exponent t) (exponent u) (past_two t) (past_two u) (free_two t) (free_two u) e in
    let three =
    same_exponent 3 (λ x. omega arith) (λ x y h. omega arith) t.threes u.threes (past_three t) (past_three u)
    (free_three 3 2 3 1 2 t refl refl (λ h. omega arith)) (free_three 3 2 3 1 2 u refl refl (λ h. omega arith)) two.1 in
    let five =
    same_exponent 5 (λ x. omega arith) (λ x y h. omega arith) t.fives u.fives (past_five t) (past_five u)
    (free_five 5 3 4 t refl (λ h. omega arith)) (free_five 5 3 4 u refl (λ h. omega arith)) three.1 in
    let seven = same_exponent 7 (λ x. omega arith) (λ x y h. omega arith) t.sevens u.sevens 1 1 (λ h. omega arith) (λ h. omega arith)
    (mul-one _ ∙ five.1 ∙ sym (mul-one _)) in
    (two.0, (three.0, (five.0, seven.0)))
