-- Laws of the half list. Assumes nothing.
use Rattle.sequences.proofs.Basics.{◌≡◌, refl, sym, ap, ◌∙◌, ℕ, suc, ◌+◌, ◌*◌, ◌%◌, ◌<◌, ◌≤◌, add-mul-mod_self_right, add-one, arith, Bool, true, false}
use Rattle.sequences.proofs.Basics.{cond, inl, inr, List, [], ◌∷◌, ◌++◌, eqb, length, get_or, take, drop, set, length-append, length-take}
use Rattle.sequences.proofs.Basics.{length-drop, split_at}
use Rattle.sequences.proofs.Basics.{set_split, ltb-true, ltb-false, eqb-true, eqb-false}
use Rattle.radices.specs.Lists.{is_radix, product, index_of}
use Rattle.sequences.specs.Lists.{first_that}
use Rattle.radices.proofs.Lists.{product_append}
use Rattle.radices.proofs.Products.{Radix, radix_is, Radical, radical_append, radical_parts}
use Rattle.halving.specs.Half.{has, halving, halved, half}
use Rattle.halving.specs.declared.inner.halving.Halving.{Halving}
use Rattle.halving.specs.declared.inner.halving.Halving.TheVariants.{Goes, Becomes, Stays}

-- what stands at the first v
index_at : (v : ℕ) (xs : List ℕ) → index_of v xs < length xs → get_or xs (index_of v xs) 0 ≡ v
unfolding index_of first_that
index_at v [] h = absurd (omega arith)
index_at v (b ∷ bs) h = go (eqb b v) refl h (λ (k : index_of v bs < length bs). index_at v bs k)
  where
    go : (t : Bool) → eqb b v ≡ t → cond t 0 (suc (index_of v bs)) < suc (length bs) → (index_of v bs < length bs → get_or bs (index_of v bs) 0 ≡ v)
        → get_or (b ∷ bs) (cond t 0 (suc (index_of v bs))) 0 ≡ v
    go true e h f = eqb-true b v e
    go false e h f = f (omega arith)

-- What halving tells of the list: a 2 goes; a radix becomes its half; or there is no 2, no 8 and no 4.
unfoldable pub Tells : Halving → List ℕ → Type 0
Tells (Goes at) xs = (at < length xs) × (get_or xs at 0 ≡ 2)
Tells (Becomes at v) xs = (at < length xs) × ((get_or xs at 0 ≡ 2 * v) × (is_radix v ≡ true))
Tells Stays xs = (length xs ≤ index_of 2 xs) × ((length xs ≤ index_of 8 xs) × (length xs ≤ index_of 4 xs))

pub tells : (xs : List ℕ) → Tells (halving xs) xs
unfolding halving Tells is_radix
tells xs = go (has 2 xs) (has 8 xs) (has 4 xs) refl refl refl
  where
    go : (p q r : Bool) → has 2 xs ≡ p → has 8 xs ≡ q → has 4 xs ≡ r
        → Tells (cond p (Goes (index_of 2 xs)) (cond q (Becomes (index_of 8 xs) 4) (cond r (Becomes (index_of 4 xs) 2) Stays))) xs
    go true q r e f g = let h = ltb-true _ _ e in (h, index_at 2 xs h)
    go false true r e f g = let h = ltb-true _ _ f in (h, (index_at 8 xs h, refl))
    go false false true e f g = let h = ltb-true _ _ g in (h, (index_at 4 xs h, refl))
    go false false false e f g = (ltb-false _ _ e, (ltb-false _ _ f, ltb-false _ _ g))

-- the half list, where it is known how the list is halved
pub half_goes : (xs : List ℕ) (at : ℕ) → halving xs ≡ Goes at → half xs ≡ take at xs ++ drop (at + 1) xs
unfolding half halved
half_goes xs at e = rw (e, add-one)

pub half_becomes : (xs : List ℕ) (at v : ℕ) → halving xs ≡ Becomes at v → half xs ≡ set xs at v
unfolding half halved
half_becomes xs at v e = rw e

pub half_stays : (xs : List ℕ) → halving xs ≡ Stays → half xs ≡ xs
unfolding half halved
half_stays xs e = rw e

-- ---- the product of the half list

odd_times : (k m : ℕ) → m % 2 ≡ 1 → ((1 + k * 2) * m) % 2 ≡ 1
odd_times k m h = ap (λ (n : ℕ). n % 2) (spread k m) ∙ add-mul-mod_self_right m (k * m) 2 ∙ h
  where
    spread : (k m : ℕ) → (1 + k * 2) * m ≡ m + k * m * 2
    spread k m = omega arith

-- a list with no 2, no 8 and no 4 has an odd product
odd_product : (xs : List ℕ) → Radical xs → Tells Stays xs → product xs % 2 ≡ 1
unfolding Tells Radical product index_of first_that
odd_product [] r h = refl
odd_product (b ∷ bs) r h = go (radix_is b r.0) (miss 2 h.0) (miss 8 h.1.0) (miss 4 h.1.1)
    (odd_product bs r.1 ((miss 2 h.0).1, ((miss 8 h.1.0).1, (miss 4 h.1.1).1)))
  where
    miss : (v : ℕ) → suc (length bs) ≤ cond (eqb b v) 0 (suc (index_of v bs)) → (b ≡ v → ⊥) × (length bs ≤ index_of v bs)
    miss v h = at (eqb b v) refl h
      where
        at : (t : Bool) → eqb b v ≡ t → suc (length bs) ≤ cond t 0 (suc (index_of v bs)) → (b ≡ v → ⊥) × (length bs ≤ index_of v bs)
        at true e h = absurd (omega arith)
        at false e h = (eqb-false b v e, omega arith)

    go : Radix b → (b ≡ 2 → ⊥) × (length bs ≤ index_of 2 bs) → (b ≡ 8 → ⊥) × (length bs ≤ index_of 8 bs) → (b ≡ 4 → ⊥) × (length bs ≤ index_of 4 bs)
        → product bs % 2 ≡ 1 → (b * product bs) % 2 ≡ 1
    go (inl e) p q s o = absurd (p.0 e)
    go (inr (inl e)) p q s o = rw e (odd_times 1 (product bs) o)
    go (inr (inr (inl e))) p q s o = absurd (s.0 e)
    go (inr (inr (inr (inl e)))) p q s o = rw e (odd_times 2 (product bs) o)
    go (inr (inr (inr (inr (inl e))))) p q s o = rw e (odd_times 3 (product bs) o)
    go (inr (inr (inr (inr (inr e))))) p q s o = absurd (q.0 e)

-- the half list of an even list of radices: radices, no more of them, with half the product
pub record Halved (xs ys : List ℕ) : Type 0 where
  pub twice : 2 * product ys ≡ product xs
  pub radices : Radical ys
  pub fewer : length ys ≤ length xs

halved_by : (xs : List ℕ) (how : Halving) → Tells how xs → Radical xs → product xs % 2 ≡ 0 → Halved xs (halved how xs)
unfolding Tells halved Radical product
halved_by xs (Goes at) t r e =
    let parts = split_at xs at 0 t.0 in
    let rs = radical_parts (take at xs) (get_or xs at 0 ∷ drop (suc at) xs) (rw parts at r) in
    record {
      twice = sym (ap product parts ∙ product_append (take at xs) (get_or xs at 0 ∷ drop (suc at) xs)
          ∙ ap (λ (n : ℕ). product (take at xs) * (n * product (drop (suc at) xs))) t.1 ∙ turn (product (take at xs)) (product (drop (suc at) xs))
          ∙ ap (λ (n : ℕ). 2 * n) (sym (product_append (take at xs) (drop (suc at) xs))));
      radices = radical_append (take at xs) (drop (suc at) xs) rs.0 rs.1.1;
      fewer = simp (length-append, length-take, length-drop) (omega arith);
    }
  where
    turn : (a b : ℕ) → a * (2 * b) ≡ 2 * (a * b)
    turn a b = omega arith
halved_by xs (Becomes at v) t r e =
    let parts = split_at xs at 0 t.0 in
    let rs = radical_parts (take at xs) (get_or xs at 0 ∷ drop (suc at) xs) (rw parts at r) in
    rw (set_split xs at v t.0)
    (record {
      twice = sym (ap product parts ∙ product_append (take at xs) (get_or xs at 0 ∷ drop (suc at) xs)
          ∙ ap (λ (n : ℕ). product (take at xs) * (n * product (drop (suc at) xs))) t.1.0 ∙ turn (product (take at xs)) v (product (drop (suc at) xs))
          ∙ ap (λ (n : ℕ). 2 * n) (sym (product_append (take at xs) (v ∷ drop (suc at) xs))));
      radices = radical_append (take at xs) (v ∷ drop (suc at) xs) rs.0 (t.1.1, rs.1.1);
      fewer = simp (length-append, length-take, length-drop) (omega arith);
    })
  where
    turn : (a v b : ℕ) → a * (2 * v * b) ≡ 2 * (a * (v * b))
    turn a v b = omega arith
halved_by xs Stays t r e = absurd (omega (arith, odd_product xs r t))

pub half_halves : (xs : List ℕ) → Radical xs → product xs % 2 ≡ 0 → Halved xs (half xs)
unfolding half
half_halves xs r e = halved_by xs (halving xs) (tells xs) r e
