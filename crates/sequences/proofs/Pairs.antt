-- Laws of pairs of words in a list: what stands where, and what writing one keeps. Assumes nothing.
use Rattle.sequences.proofs.Basics.{◌∙◌, ◌≡◌, ap, ap₂, refl, sym, ◌*◌, ◌+◌, ◌<◌, suc, zero, ℕ, add-zero, arith, ℕ_discrete, ◌≢◌, List, [], ◌++◌, ◌∷◌}
use Rattle.sequences.proofs.Basics.{get_or-append, get_or, length, length-set, get_or-append-add, get_or-set_other, get_or-set_same, set}
use Rattle.sequences.specs.Pairs.{pairs, pair_at, put_pair, At}

pub length_pairs : {A : Type 0} (k n : ℕ) (f : ℕ → A × A) → length (pairs k n f) ≡ 2 * k
unfolding pairs
length_pairs zero n f = refl
length_pairs (suc k) n f = omega (arith, length_pairs k (suc n) f)

pub length_put : {A : Type 0} (ys : List A) (p : ℕ) (w : A × A) → length (put_pair ys p w) ≡ length ys
length_put ys p w = simp length-set

module _ {A : Type 0} (d : A) where
  -- told word by word
  pub told : (ys : List A) (p : ℕ) (w : A × A) → pair_at d ys p ≡ w → At d ys p w
  told ys p w e = record { first = ap (λ (v : A × A). v.0) e; second = ap (λ (v : A × A). v.1) e }

  -- lists with the same pair have the same words
  pub at_same : (xs ys : List A) (p q : ℕ) (w : A × A) → At d xs p w → At d ys q w → (e : ℕ) → e < 2 → get_or xs (2 * p + e) d ≡ get_or ys (2 * q + e) d
  at_same xs ys p q w a b zero l = rw (add-zero (2 * p), add-zero (2 * q)) (a.first ∙ sym b.first)
  at_same xs ys p q w a b (suc zero) l = a.second ∙ sym b.second
  at_same xs ys p q w a b (suc (suc e)) l = absurd (omega arith)

  -- ---- pairs in a row

  -- behind the first pair of a list
  next : (x y : A) (ys : List A) (p : ℕ) → pair_at d (x ∷ (y ∷ ys)) (suc p) ≡ pair_at d ys p
  next x y ys p =
      let even : 2 * suc p ≡ suc (suc (2 * p)) = omega arith in
      let odd : 2 * suc p + 1 ≡ suc (suc (2 * p + 1)) = omega arith in
      rw (odd, even)

  pub pairs_at : (k n : ℕ) (f : ℕ → A × A) (p : ℕ) → p < k → pair_at d (pairs k n f) p ≡ f (n + p)
  unfolding pairs
  pairs_at zero n f p l = absurd (omega arith)
  pairs_at (suc k) n f zero l = rw add-zero
  pairs_at (suc k) n f (suc p) l = next (f n).0 (f n).1 (pairs k (suc n) f) p ∙ pairs_at k (suc n) f p (omega arith) ∙ ap f (omega arith)

  -- a list with the same pairs is the same
  pub pairs_all : (ys : List A) (k n : ℕ) (f : ℕ → A × A) → length ys ≡ 2 * k → ((p : ℕ) → p < k → pair_at d ys p ≡ f (n + p)) → ys ≡ pairs k n f
  unfolding pairs
  pairs_all [] zero n f e all = refl
  pairs_all [] (suc k) n f e all = absurd (omega arith)
  pairs_all (x ∷ []) k n f e all = absurd (omega arith)
  pairs_all (x ∷ (y ∷ ys)) zero n f e all = absurd (omega arith)
  pairs_all (x ∷ (y ∷ ys)) (suc k) n f e all =
      ap₂ (λ (w : A × A) (zs : List A). w.0 ∷ (w.1 ∷ zs)) (rw add-zero at (all 0 (omega arith)))
      (pairs_all ys k (suc n) f (omega arith) (λ p l. sym (next x y ys p) ∙ all (suc p) (omega arith) ∙ ap f (omega arith)))

  -- ---- writing a pair

  -- puts it in place
  pub put_here : (ys : List A) (p : ℕ) (w : A × A) → 2 * p + 1 < length ys → pair_at d (put_pair ys p w) p ≡ w
  put_here ys p w l =
      ap₂ (λ (a b : A). (a, b))
      (get_or-set_other (set ys (2 * p) w.0) (2 * p + 1) (2 * p) w.1 d (λ e. omega arith) ∙ get_or-set_same ys (2 * p) w.0 d (omega arith))
      (get_or-set_same (set ys (2 * p) w.0) (2 * p + 1) w.1 d (simp length-set l))

  -- and keeps every other in place
  pub put_still : (ys : List A) (p : ℕ) (w : A × A) (q : ℕ) → q ≢ p → pair_at d (put_pair ys p w) q ≡ pair_at d ys q
  put_still ys p w q ne = ap₂ (λ (a b : A). (a, b)) (kept (2 * q) (λ e. omega (arith, ne)) (λ e. omega arith))
      (kept (2 * q + 1) (λ e. omega arith) (λ e. omega (arith, ne)))
    where
      kept : (n : ℕ) → n ≢ 2 * p → n ≢ 2 * p + 1 → get_or (put_pair ys p w) n d ≡ get_or ys n d
      kept n a b = get_or-set_other (set ys (2 * p) w.0) (2 * p + 1) n w.1 d b ∙ get_or-set_other ys (2 * p) n w.0 d a

  -- one more pair as it should be
  pub pair_more : (f : ℕ → A × A) (ys : List A) (n : ℕ) (w : A × A) → 2 * n + 1 < length ys → w ≡ f n → ((p : ℕ) → p < n → pair_at d ys p ≡ f p)
      → (p : ℕ) → p < n + 1 → pair_at d (put_pair ys n w) p ≡ f p
  pair_more f ys n w l e before p lp = pick (ℕ_discrete p n)
    where
      pick : Dec (p ≡ n) → pair_at d (put_pair ys n w) p ≡ f p
      pick (yes s) = rw s (put_here ys n w l ∙ e)
      pick (no s) = put_still ys n w p s ∙ before p (omega (arith, s))

  -- ---- in joined lists

  module _ (xs ys : List A) where
    pub pair_before : (q : ℕ) → 2 * q + 1 < length xs → pair_at d (xs ++ ys) q ≡ pair_at d xs q
    pair_before q l = ap₂ (λ (a b : A). (a, b)) (get_or-append xs ys d (2 * q) (omega arith)) (get_or-append xs ys d (2 * q + 1) l)

    pub pair_after : (b q : ℕ) → length xs ≡ 2 * b → pair_at d (xs ++ ys) (b + q) ≡ pair_at d ys q
    pair_after b q e =
        let even : 2 * (b + q) ≡ length xs + 2 * q = omega arith in
        let odd : 2 * (b + q) + 1 ≡ length xs + (2 * q + 1) = omega arith in
        rw (odd, even) (ap₂ (λ (a b : A). (a, b)) (get_or-append-add xs ys (2 * q) d) (get_or-append-add xs ys (2 * q + 1) d))
