-- Laws of lists of radices: first places step by step, running products, counts, arrays. Assumes nothing.
use Rattle.sequences.proofs.Basics.{◌≡◌, refl, sym, ap, ◌∙◌, ℕ, zero, suc, ◌+◌, ◌-◌, ◌*◌, ◌^◌, ◌<◌, ◌≤◌, add-zero, mul-one, one-mul, mul_assoc, mul-le-mul}
use Rattle.sequences.proofs.Basics.{add-one, arith, List, [], ◌∷◌, ◌++◌, append_assoc, length, length-set, get_or, set, take, drop, replicate, length-append}
use Rattle.sequences.proofs.Basics.{drop_of_length-le, eq-eqb, ne_eqb, length-replicate, drop-cons, take-suc, take-append_seam, set-append_left}
use Rattle.sequences.proofs.Basics.{dite, dec_le, lt_of_not-le, ap₂, drop_at, cond, eqb, set_at, lt-ltb, le-ltb}
use borrow.Rule.Slice.PartMut.{put_mid}
use Rattle.std.specs.List as std
use Rattle.std.proofs.lemmas.List.{drop-replicate}
use Rattle.std.proofs.lemmas.List.Recursion.{is_count_by}
use Rattle.radices.specs.declared.Radices.{Radices}
use Rattle.radices.specs.Lists.{product, first_over, largest, count_of, padded, listed}

-- a count, as std has it
pub count_by : (v : ℕ) (xs : List ℕ) → count_of v xs ≡ std.count_by (λ (b : ℕ). eqb b v) xs
unfolding count_of
count_by v xs = is_count_by (count_of v) (λ (b : ℕ). eqb b v) refl (λ b bs. ap (λ (n : ℕ). cond (eqb b v) n (count_of v bs)) (omega arith)) xs

-- an element counts, or does not
pub count_hit : (v : ℕ) (xs : List ℕ) (n i : ℕ) → i < length xs → get_or xs i 0 ≡ v
    → n + count_of v (drop i xs) ≡ count_of v xs → n + 1 + count_of v (drop (i + 1) xs) ≡ count_of v xs
unfolding count_of
count_hit v xs n i h t e =
    let one : count_of v (drop i xs) ≡ suc (count_of v (drop (i + 1) xs)) =
    rw (drop-cons xs i 0 h, add-one) (simp (eq-eqb (get_or xs i 0) v t)) in
    omega arith

pub count_miss : (v : ℕ) (xs : List ℕ) (n i : ℕ) → i < length xs → (get_or xs i 0 ≡ v → ⊥)
    → n + count_of v (drop i xs) ≡ count_of v xs → n + count_of v (drop (i + 1) xs) ≡ count_of v xs
unfolding count_of
count_miss v xs n i h t e =
    let none : count_of v (drop i xs) ≡ count_of v (drop (i + 1) xs) =
    rw (drop-cons xs i 0 h, add-one) (simp (ne_eqb (get_or xs i 0) v t)) in
    omega arith

pub count_end : (v : ℕ) (xs : List ℕ) (n i : ℕ) → length xs ≤ i → n + count_of v (drop i xs) ≡ count_of v xs → n ≡ count_of v xs
unfolding count_of
count_end v xs n i h e = omega (arith, e, ap (count_of v) (drop_of_length-le xs h))

pub product_append : (xs ys : List ℕ) → product (xs ++ ys) ≡ product xs * product ys
unfolding product
product_append [] ys = sym (one-mul (product ys))
product_append (x ∷ xs) ys = ap (λ (n : ℕ). x * n) (product_append xs ys) ∙ sym (mul_assoc x (product xs) (product ys))

-- one more element
pub product_next : (xs : List ℕ) (i : ℕ) → i < length xs → product (take (i + 1) xs) ≡ product (take i xs) * get_or xs i 0
unfolding product
product_next xs i h = ap product (ap (λ (k : ℕ). take k xs) (add-one i) ∙ take-suc xs i 0 h) ∙ product_append (take i xs) (get_or xs i 0 ∷ [])
    ∙ ap (λ (n : ℕ). product (take i xs) * n) (mul-one (get_or xs i 0))

-- the running product p stays within the largest length over the next element, or does not
pub over_skip : (xs : List ℕ) (p i : ℕ) → i < length xs → p * get_or xs i 0 ≤ largest
    → first_over 1 xs ≡ i + first_over p (drop i xs) → first_over 1 xs ≡ i + 1 + first_over (p * get_or xs i 0) (drop (i + 1) xs)
unfolding first_over
over_skip xs p i h t e = e ∙ ap (λ (l : List ℕ). i + first_over p l) (drop-cons xs i 0 h) ∙ simp (le-ltb largest (p * get_or xs i 0) t, add-one) (omega arith)

pub over_here : (xs : List ℕ) (p i : ℕ) → i < length xs → largest < p * get_or xs i 0 → first_over 1 xs ≡ i + first_over p (drop i xs) → first_over 1 xs ≡ i
unfolding first_over
over_here xs p i h t e = e ∙ ap (λ (l : List ℕ). i + first_over p l) (drop-cons xs i 0 h) ∙ simp (lt-ltb largest (p * get_or xs i 0) t, add-zero)

-- it stays, where it does to the end of the list
pub within_next : (xs : List ℕ) (p i : ℕ) → i < length xs → length xs ≤ first_over 1 xs → first_over 1 xs ≡ i + first_over p (drop i xs)
    → p * get_or xs i 0 ≤ largest
within_next xs p i h w e = dite (dec_le (p * get_or xs i 0) largest) (λ (l : p * get_or xs i 0 ≤ largest). l)
    (λ (n : p * get_or xs i 0 ≤ largest → ⊥). absurd (omega (arith, over_here xs p i h (lt_of_not-le n) e)))

pub length_padded : (xs : List ℕ) → length xs ≤ 13 → length (padded xs) ≡ 13
unfolding padded
length_padded xs h = simp (length-append, length-replicate) (omega arith)

-- a product of a number within the largest length and a byte fits
pub byte_fits : (p b : ℕ) → p ≤ largest → b < 256 → p * b < 2 ^ 64
byte_fits p b h g = let x : p * b ≤ 8192 * 255 = mul-le-mul {n₂ = 8192} {m₂ = 255} h (omega arith) in omega arith

-- the count and the array of a list
pub listed_count : (xs : List ℕ) (r : Radices) → r ≡ listed xs → r.count ≡ length xs
unfolding listed
listed_count xs r e = ap (λ (x : Radices). x.count) e

pub listed_entries : (xs : List ℕ) (r : Radices) → r ≡ listed xs → r.entries ≡ padded xs
unfolding listed
listed_entries xs r e = ap (λ (x : Radices). x.entries) e

-- a count and an array that hold a list
pub listed_is : (xs : List ℕ) (n : ℕ) (es : List ℕ) → n ≡ length xs → es ≡ padded xs → ◌≡◌ {A = Radices} (record { count = n; entries = es }) (listed xs)
unfolding listed
listed_is xs n es p q = rw (p, q)

pub set_padded : (xs : List ℕ) (at v : ℕ) → at < length xs → set (padded xs) at v ≡ padded (set xs at v)
unfolding padded
set_padded xs at v h = rw (length-set xs at v) (set-append_left xs (replicate (13 - length xs) 0) at v h)

-- one element laid behind the list that an array holds
pub push_padded : (xs : List ℕ) (at v : ℕ) → length xs ≡ at → at < 13 → set (padded xs) at v ≡ padded (xs ++ (v ∷ []))
unfolding padded
push_padded xs at v p h = ap (λ (m : ℕ). set (xs ++ replicate m 0) at v) {x = 13 - length xs} {y = suc (12 - at)} (omega arith)
    ∙ set_at xs 0 (replicate (12 - at) 0) v at p ∙ sym (append_assoc xs (v ∷ []) (replicate (12 - at) 0))
    ∙ ap (λ (m : ℕ). xs ++ (v ∷ []) ++ replicate m 0) {x = 12 - at} {y = 13 - length (xs ++ (v ∷ []))} (omega (arith, length-append xs (v ∷ [])))

-- a list laid behind it
put_padded : (xs ys : List ℕ) → length xs + length ys ≤ 13 → put_mid (length xs) (length ys) (padded xs) ys ≡ padded (xs ++ ys)
unfolding padded
put_padded xs ys h =
    let zeros : List ℕ = replicate (13 - length xs) 0 in
    ap₂ (λ (front rest : List ℕ). front ++ (ys ++ drop (length ys) rest)) (take-append_seam xs zeros) (drop_at xs zeros (length xs) refl)
    ∙ ap (λ (rest : List ℕ). xs ++ (ys ++ rest)) (drop-replicate (length ys) (13 - length xs) 0)
    ∙ sym (append_assoc xs ys (replicate (13 - length xs - length ys) 0))
    ∙ ap (λ (m : ℕ). xs ++ ys ++ replicate m 0) {x = 13 - length xs - length ys} {y = 13 - length (xs ++ ys)} (omega (arith, length-append xs ys))

module _ (xs ys : List ℕ) (r : Radices) (e : r ≡ listed xs) where
  pub pushed_listed : (v : ℕ) → r.count < 13 → ◌≡◌ {A = Radices} (record { count = r.count + 1; entries = set r.entries r.count v }) (listed (xs ++ (v ∷ [])))
  pushed_listed v h =
      let n = listed_count xs r e in
      listed_is (xs ++ (v ∷ [])) _ _ (omega (arith, n, length-append xs (v ∷ []))) (rw (listed_entries xs r e) (push_padded xs r.count v (sym n) h))

  pub behind_listed : (n : ℕ) → n ≡ length ys → r.count + n ≤ 13
      → ◌≡◌ {A = Radices} (record { count = r.count + n; entries = put_mid r.count (r.count + n - r.count) r.entries ys }) (listed (xs ++ ys))
  behind_listed n l h =
      let c = listed_count xs r e in let k : r.count + n - r.count ≡ length ys = omega arith in
      listed_is (xs ++ ys) _ _ (omega (arith, c, length-append xs ys)) (rw (listed_entries xs r e, k, c) (put_padded xs ys (omega arith)))

pub get_d_any : (xs : List ℕ) (j a b : ℕ) → j < length xs → get_or xs j a ≡ get_or xs j b
get_d_any [] j a b h = absurd (omega arith)
get_d_any (x ∷ xs) zero a b h = refl
get_d_any (x ∷ xs) (suc j) a b h = get_d_any xs j a b (omega arith)
