-- Laws of lists made place by place, and of lists filled so. Assumes nothing.
use Rattle.sequences.proofs.Basics.{◌≡◌, refl, sym, ap, ap₂, ◌∙◌, ℕ, zero, suc, ◌+◌, ◌<◌, zero-add, add-zero, add-suc, suc-add, le_of_suc-le-suc}
use Rattle.sequences.proofs.Basics.{not-suc-le-zero, arith, ℕ_discrete, List, ◌∷◌, length, get_or, set, get_or-set_same, get_or-set_other, ext_get_or}
use Rattle.sequences.specs.Lists.{tabulate}

pub length_tabulate {ℓ} : {A : Type ℓ} (n i : ℕ) (f : ℕ → A) → length (tabulate n i f) ≡ n
unfolding tabulate
length_tabulate zero i f = refl
length_tabulate (suc n) i f = ap suc (length_tabulate n (suc i) f)

-- the same at each place, the same list
pub tabulate_same : {A : Type 0} (k n : ℕ) (f g : ℕ → A) → ((i : ℕ) → i < k → f (n + i) ≡ g (n + i)) → tabulate k n f ≡ tabulate k n g
unfolding tabulate
tabulate_same zero n f g e = refl
tabulate_same (suc k) n f g e =
    let here : n + 0 ≡ n = omega arith in
    ap₂ (λ x xs. x ∷ xs) (rw here at (e 0 (omega arith))) (tabulate_same k (suc n) f g (λ i l. rw (suc-add, ← add-suc) (e (suc i) (omega arith))))

pub get_d_tabulate {ℓ} : {A : Type ℓ} (n i : ℕ) (f : ℕ → A) (j : ℕ) (d : A) → j < n → get_or (tabulate n i f) j d ≡ f (i + j)
unfolding tabulate
get_d_tabulate zero i f j d l = absurd (not-suc-le-zero l)
get_d_tabulate (suc n) i f zero d l = rw add-zero
get_d_tabulate (suc n) i f (suc j) d l = rw (add-suc, ← suc-add) (get_d_tabulate n (suc i) f j d (le_of_suc-le-suc l))

-- ---- filling

-- one more element of a list as it should be
pub set_more : {A : Type 0} (f : ℕ → A) (xs : List A) (n : ℕ) (v d : A) → n < length xs → v ≡ f n → ((k : ℕ) → k < n → get_or xs k d ≡ f k)
    → (k : ℕ) → k < n + 1 → get_or (set xs n v) k d ≡ f k
set_more f xs n v d l e before k lk = pick (ℕ_discrete k n)
  where
    pick : Dec (k ≡ n) → get_or (set xs n v) k d ≡ f k
    pick (yes s) = rw s (get_or-set_same xs n v d l ∙ e)
    pick (no s) = get_or-set_other xs n k v d s ∙ before k (omega (arith, s))

-- a list whose elements are f 0, f 1, .. is this
pub table_all : {A : Type 0} (f : ℕ → A) (ys : List A) (n : ℕ) (d : A) → length ys ≡ n → ((k : ℕ) → k < n → get_or ys k d ≡ f k) → ys ≡ tabulate n 0 f
table_all f ys n d e all = ext_get_or d ys (tabulate n 0 f) (e ∙ sym (length_tabulate n 0 f))
    (λ k l. let lk : k < n = rw e at l in all k lk ∙ sym (get_d_tabulate n 0 f k d lk ∙ rw zero-add))
