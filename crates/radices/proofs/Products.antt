-- Laws of products of radices: lists of radices only, their least and largest products, and the product by exponents. Assumes nothing.
use Rattle.sequences.proofs.Basics.{◌≡◌, refl, sym, ap, ◌∙◌, ℕ, zero, suc, ◌+◌, ◌*◌, ◌^◌, ◌<◌, ◌≤◌, one-mul, mul-one, mul_assoc, mul-le-mul}
use Rattle.sequences.proofs.Basics.{mul-le-mul_left, mul-pos, pow-zero, pow-suc, pow-succ', lt_of_not-le, le_antisymm, arith, dec_le, Bool, true, false, cond}
use Rattle.sequences.proofs.Basics.{not, ◌||◌, false≢true, ◌⊎◌, inl, inr, dite, List, [], ◌∷◌, ◌++◌, eqb, ltb, length, replicate, pow-add, pow-lt, eqb-true}
use Rattle.sequences.proofs.Basics.{le-ltb, ltb-false}
use Rattle.sequences.proofs.First.{first_most}
use Rattle.radices.specs.Lists.{is_radix, product, first_bad, first_over, largest}
use Rattle.sequences.specs.Lists.{first_that}

-- ---- lists of radices

-- b is one of the six radices
abbrev pub Radix : ℕ → Type 0
Radix b = (b ≡ 2) ⊎ ((b ≡ 3) ⊎ ((b ≡ 4) ⊎ ((b ≡ 5) ⊎ ((b ≡ 7) ⊎ (b ≡ 8)))))

pub radix_is : (b : ℕ) → is_radix b ≡ true → Radix b
unfolding is_radix
radix_is b e = go (eqb b 2) (eqb b 3) (eqb b 4) (eqb b 5) (eqb b 7) (eqb b 8) refl refl refl refl refl refl e
  where
    go : (p q r s t u : Bool) → eqb b 2 ≡ p → eqb b 3 ≡ q → eqb b 4 ≡ r → eqb b 5 ≡ s → eqb b 7 ≡ t → eqb b 8 ≡ u
        → (p || q || r || s || t || u) ≡ true → Radix b
    go true q r s t u a b' c d f g e = inl (eqb-true b 2 a)
    go false true r s t u a b' c d f g e = inr (inl (eqb-true b 3 b'))
    go false false true s t u a b' c d f g e = inr (inr (inl (eqb-true b 4 c)))
    go false false false true t u a b' c d f g e = inr (inr (inr (inl (eqb-true b 5 d))))
    go false false false false true u a b' c d f g e = inr (inr (inr (inr (inl (eqb-true b 7 f)))))
    go false false false false false true a b' c d f g e = inr (inr (inr (inr (inr (eqb-true b 8 g)))))
    go false false false false false false a b' c d f g e = absurd (false≢true e)

-- every entry is a radix
unfoldable pub Radical : List ℕ → Type 0
Radical [] = Unit {0}
Radical (b ∷ bs) = (is_radix b ≡ true) × Radical bs

pub radical : (xs : List ℕ) → first_bad xs ≡ length xs → Radical xs
unfolding first_bad first_that Radical
radical [] e = tt
radical (b ∷ bs) e = go (is_radix b) refl e (λ (f : first_bad bs ≡ length bs). radical bs f)
  where
    go : (t : Bool) → is_radix b ≡ t → cond (not t) 0 (suc (first_bad bs)) ≡ suc (length bs) → (first_bad bs ≡ length bs → Radical bs) → (is_radix b ≡ true)
        × Radical bs
    go true p e f = (p, f (omega arith))
    go false p e f = absurd (omega arith)

pub radical_none_bad : (xs : List ℕ) → Radical xs → first_bad xs ≡ length xs
unfolding first_bad first_that Radical
radical_none_bad [] r = refl
radical_none_bad (b ∷ bs) r = simp r.0 (ap suc (radical_none_bad bs r.1))

pub radical_append : (xs ys : List ℕ) → Radical xs → Radical ys → Radical (xs ++ ys)
unfolding Radical
radical_append [] ys p q = q
radical_append (b ∷ bs) ys p q = (p.0, radical_append bs ys p.1 q)

pub radical_parts : (xs ys : List ℕ) → Radical (xs ++ ys) → Radical xs × Radical ys
unfolding Radical
radical_parts [] ys r = (tt, r)
radical_parts (b ∷ bs) ys r = let p = radical_parts bs ys r.1 in ((r.0, p.0), p.1)

pub radical_replicate : (k v : ℕ) → is_radix v ≡ true → Radical (replicate k v)
unfolding Radical
radical_replicate zero v e = tt
radical_replicate (suc k) v e = (e, radical_replicate k v e)

-- ---- how small and how large a product is

radix_bounds : (b : ℕ) → Radix b → (2 ≤ b) × (b ≤ 8)
radix_bounds b (inl e) = omega arith
radix_bounds b (inr (inl e)) = omega arith
radix_bounds b (inr (inr (inl e))) = omega arith
radix_bounds b (inr (inr (inr (inl e)))) = omega arith
radix_bounds b (inr (inr (inr (inr (inl e))))) = omega arith
radix_bounds b (inr (inr (inr (inr (inr e))))) = omega arith

pub radix_least : (b : ℕ) → is_radix b ≡ true → (2 ≤ b) × (b ≤ 8)
radix_least b e = radix_bounds b (radix_is b e)

-- at least 2 for each entry
pub product_least : (xs : List ℕ) → Radical xs → 2 ^ length xs ≤ product xs
unfolding Radical product
product_least [] r = omega arith
product_least (b ∷ bs) r = rw (pow-succ' 2 (length bs)) (mul-le-mul (radix_least b r.0).0 (product_least bs r.1))

pub product_positive : (xs : List ℕ) → Radical xs → 0 < product xs
unfolding Radical product
product_positive [] r = omega arith
product_positive (b ∷ bs) r = mul-pos (omega (arith, radix_least b r.0)) (product_positive bs r.1)

-- so 13 entries at most within the largest length
pub entries_few : (xs : List ℕ) → Radical xs → product xs ≤ largest → length xs ≤ 13
entries_few xs r h = dite (dec_le (length xs) 13) (λ (p : length xs ≤ 13). p) (λ (n : length xs ≤ 13 → ⊥).
    let more : 13 < length xs = lt_of_not-le n in
    absurd (let a = pow-lt more in let b = product_least xs r in omega arith))

-- the running product goes to the end exactly when the whole product is within the largest length
pub over_none_small : (p : ℕ) (xs : List ℕ) → p ≤ largest → first_over p xs ≡ length xs → p * product xs ≤ largest
unfolding first_over product
over_none_small p [] h e = rw mul-one h
over_none_small p (b ∷ bs) h e = go (ltb largest (p * b)) refl e (λ q f. over_none_small (p * b) bs q f)
  where
    go : (t : Bool) → ltb largest (p * b) ≡ t → cond t 0 (suc (first_over (p * b) bs)) ≡ suc (length bs)
        → (p * b ≤ largest → first_over (p * b) bs ≡ length bs → p * b * product bs ≤ largest) → p * (b * product bs) ≤ largest
    go true q e f = absurd (omega arith)
    go false q e f = rw (← mul_assoc p b (product bs)) (f (ltb-false largest (p * b) q) (omega arith))

pub small_over_none : (p : ℕ) (xs : List ℕ) → Radical xs → p * product xs ≤ largest → first_over p xs ≡ length xs
unfolding first_over product Radical
small_over_none p [] r h = refl
small_over_none p (b ∷ bs) r h =
    let q : p * b * product bs ≤ largest = rw (mul_assoc p b (product bs)) h in
    let one : p * b * 1 ≤ p * b * product bs = mul-le-mul_left (p * b) (product_positive bs r.1) in
    let k : p * b ≤ largest = omega (arith, mul-one (p * b)) in
    simp (le-ltb largest (p * b) k) (ap suc (small_over_none (p * b) bs r.1 q))

pub product_replicate : (k v : ℕ) → product (replicate k v) ≡ v ^ k
unfolding product
product_replicate zero v = sym (pow-zero v)
product_replicate (suc k) v = ap (λ (n : ℕ). v * n) (product_replicate k v) ∙ sym (pow-succ' v k)

-- c times two, or three, twos
pub pow_four : (c : ℕ) → 4 ^ c ≡ 2 ^ (2 * c)
pow_four zero = refl
pow_four (suc c) =
    pow-suc 4 c ∙ ap (λ (n : ℕ). n * 4) (pow_four c) ∙ sym (pow-add 2 (2 * c) 2) ∙ ap (λ (n : ℕ). 2 ^ n) {x = 2 * c + 2} {y = 2 * suc c} (omega arith)

pub pow_eight : (c : ℕ) → 8 ^ c ≡ 2 ^ (3 * c)
pow_eight zero = refl
pow_eight (suc c) =
    pow-suc 8 c ∙ ap (λ (n : ℕ). n * 8) (pow_eight c) ∙ sym (pow-add 2 (3 * c) 3) ∙ ap (λ (n : ℕ). 2 ^ n) {x = 3 * c + 3} {y = 3 * suc c} (omega arith)

-- ---- what an accepted list is

over_most : (p : ℕ) (xs : List ℕ) → first_over p xs ≤ length xs
unfolding first_over
over_most p [] = omega arith
over_most p (b ∷ bs) = go (ltb largest (p * b)) (over_most (p * b) bs)
  where
    go : (t : Bool) → first_over (p * b) bs ≤ length bs → cond t 0 (suc (first_over (p * b) bs)) ≤ suc (length bs)
    go true h = omega arith
    go false h = omega arith

pub bad_none : (xs : List ℕ) → length xs ≤ first_bad xs → first_bad xs ≡ length xs
unfolding first_bad
bad_none xs h = le_antisymm (first_most (λ (b : ℕ). not (is_radix b)) xs) h

pub over_none_at : (xs : List ℕ) → length xs ≤ first_over 1 xs → first_over 1 xs ≡ length xs
over_none_at xs h = le_antisymm (over_most 1 xs) h

-- a running product that ends early is too large
pub over_large : (xs : List ℕ) → Radical xs → first_over 1 xs < length xs → largest < product xs
over_large xs r h = dite (dec_le (product xs) largest) (λ (p : product xs ≤ largest). absurd (omega (arith, small_over_none 1 xs r (rw one-mul p))))
    (λ (n : product xs ≤ largest → ⊥). lt_of_not-le n)
