-- How loops fill a stage's cells, for any arithmetic: one cell after the other, the outputs of more iterations, and at the end the stage.
-- Assumes nothing.
use Rattle.sequences.proofs.Basics.{◌≡◌, refl, sym, ap, ◌∙◌, ℕ, ◌+◌, ◌-◌, ◌*◌, ◌/◌, ◌%◌, ◌≤◌, ◌<◌, div-add-mod', arith, ℕ_discrete, dec_le, ◌⊎◌, inl, inr, List}
use Rattle.sequences.proofs.Basics.{length, get_or, digits_div, digits_mod}
use Rattle.sequences.proofs.Tables.{table_all}
use Rattle.schedule.specs.Stage.{Kernel, Arith, index, iteration, place, output, stage_by}
use Rattle.schedule.specs.Parts.{Wrote, Every, Done}
use Rattle.schedule.proofs.Cells.{iteration_index, place_index, iteration_lt, place_lt, index_of_cell}

-- ---- cell after cell

module _ {A : Type 0} {at : ℕ → ℕ} {g : ℕ → A} {c : ℕ → A} where
  pub wrote_none : {T : ℕ → Type 0} → ((t : ℕ) → T t → ⊥) → Wrote T at g c c
  wrote_none none = record { inside = λ t l. absurd (none t l); outside = λ k o. refl }

  -- one more, at n
  pub wrote_next : {T U : ℕ → Type 0} {c' c'' : ℕ → A} (n : ℕ) → U n → ((t : ℕ) → T t → U t) → ((t : ℕ) → U t → (t ≡ n → ⊥) → T t × (at t ≡ at n → ⊥))
      → c'' (at n) ≡ g n → ((k : ℕ) → (k ≡ at n → ⊥) → c'' k ≡ c' k) → Wrote T at g c c' → Wrote U at g c c''
  wrote_next {U = U} {c'' = c''} n last old new here else w =
      record { inside = λ t u. pick t u (ℕ_discrete t n); outside = λ k o. else k (o n last) ∙ w.outside k (λ t l. o t (old t l)) }
    where
      pick : (t : ℕ) → U t → Dec (t ≡ n) → c'' (at t) ≡ g t
      pick t u (yes e) = rw e here
      pick t u (no f) = let b = new t u f in else (at t) b.1 ∙ w.inside t b.0

  -- first those of T, then those of U
  pub wrote_both : {T U X : ℕ → Type 0} {c' c'' : ℕ → A} → ((t : ℕ) → T t → X t) → ((t : ℕ) → U t → X t)
      → ((t : ℕ) → X t → U t ⊎ (T t × ((u : ℕ) → U u → at t ≡ at u → ⊥))) → Wrote T at g c c' → Wrote U at g c' c'' → Wrote X at g c c''
  wrote_both {T} {U} {c'' = c''} one two which w x =
      record { inside = λ t l. pick t (which t l); outside = λ k o. x.outside k (λ t l. o t (two t l)) ∙ w.outside k (λ t l. o t (one t l)) }
    where
      pick : (t : ℕ) → U t ⊎ (T t × ((u : ℕ) → U u → at t ≡ at u → ⊥)) → c'' (at t) ≡ g t
      pick t (inl u) = x.inside t u
      pick t (inr (l, far)) = x.outside (at t) far ∙ w.inside t l

  pub wrote_told : {T U : ℕ → Type 0} {c' : ℕ → A} → ((t : ℕ) → T t → U t) → ((t : ℕ) → U t → T t) → Wrote T at g c c' → Wrote U at g c c'
  wrote_told to from w = record { inside = λ t u. w.inside t (from t u); outside = λ k o. w.outside k (λ t l. o t (to t l)) }

  -- the same, told otherwise
  pub wrote_as : {T : ℕ → Type 0} {at' : ℕ → ℕ} {g' : ℕ → A} {c' : ℕ → A} → ((t : ℕ) → T t → (at t ≡ at' t) × (g t ≡ g' t))
      → Wrote T at g c c' → Wrote T at' g' c c'
  wrote_as {c' = c'} same w =
      record { inside = λ t l. ap c' (sym (same t l).0) ∙ w.inside t l ∙ (same t l).1; outside = λ k o. w.outside k (λ t l e. o t l (e ∙ (same t l).0)) }

-- ---- every second one: n after those below it of its parity, and the even ones and the odd ones are all

module _ {A : Type 0} {at : ℕ → ℕ} {g : ℕ → A} {c : ℕ → A} (apart : (t u : ℕ) → at t ≡ at u → t ≡ u) where
  pub every_next : (b n : ℕ) {c' c'' : ℕ → A} → n % 2 ≡ b → c'' (at n) ≡ g n → ((k : ℕ) → (k ≡ at n → ⊥) → c'' k ≡ c' k)
      → Wrote (Every b n) at g c c' → Wrote (Every b (n + 2)) at g c c''
  every_next b n e = wrote_next n (omega arith, e) (λ t l. (omega arith, l.1)) (λ t u f. ((omega (arith, f), u.1), λ x. f (apart t n x)))

  pub every_both : (r : ℕ) {c' c'' : ℕ → A} → Wrote (Every 0 r) at g c c' → Wrote (Every 1 r) at g c' c'' → Wrote (λ t. t < r) at g c c''
  every_both r = wrote_both (λ t l. l.0) (λ t l. l.0) (λ t l. pick t l (ℕ_discrete (t % 2) 0))
    where
      pick : (t : ℕ) → t < r → Dec (t % 2 ≡ 0) → Every 1 r t ⊎ (Every 0 r t × ((u : ℕ) → Every 1 r u → at t ≡ at u → ⊥))
      pick t l (yes e) = inr ((l, e), λ u lu x. let same = apart t u x in odd u lu.1 same)
        where
          odd : (u : ℕ) → u % 2 ≡ 1 → t ≡ u → ⊥
          odd u f same = omega (arith, e, f, ap (λ (k : ℕ). k % 2) same)
      pick t l (no e) = inl (l, omega (arith, e))

-- a loop past the last of them
pub every_end : {A : Type 0} {at : ℕ → ℕ} {g c c' : ℕ → A} (b n r : ℕ) → n % 2 ≡ b → r ≤ n → n ≤ r + 1 → Wrote (Every b n) at g c c'
    → Wrote (Every b r) at g c c'
every_end b n r e l m = wrote_told (λ t x. (omega (arith, x.1), x.1)) (λ t x. (omega arith, x.1))

pub every_none : {A : Type 0} {at : ℕ → ℕ} {g c : ℕ → A} (b : ℕ) → b < 2 → Wrote (Every b b) at g c c
every_none b l = wrote_none (λ t x. omega (arith, x.1))

-- ---- more outputs in their cells

-- two outputs share no cell
pub same_place : (s r i p i' p' : ℕ) → 0 < s → p < r → p' < r → index s r i p ≡ index s r i' p' → (i ≡ i') × (p ≡ p')
same_place s r i p i' p' ps lp lp' e = (
  sym (iteration_index s r i p ps lp) ∙ ap (iteration s r) e ∙ iteration_index s r i' p' ps lp',
  sym (place_index s r i p ps lp) ∙ ap (place s r) e ∙ place_index s r i' p' ps lp',
)

module _ {A : Type 0} (s r : ℕ) (v : ℕ → ℕ → A) (ps : 0 < s) {D E : ℕ → ℕ → Type 0} {c c' : ℕ → A} where
  -- output p t of iteration i t, for every t of T
  done_more : {T : ℕ → Type 0} (i p : ℕ → ℕ) → ((t : ℕ) → T t → p t < r) → Wrote T (λ t. index s r (i t) (p t)) (λ t. v (i t) (p t)) c c'
      → ((i' p' : ℕ) → E i' p' → p' < r → ((t : ℕ) × (T t × ((i' ≡ i t) × (p' ≡ p t)))) ⊎ (((t : ℕ) → T t → i' ≡ i t → p' ≡ p t → ⊥) × D i' p'))
      → Done s r v c D → Done s r v c' E
  done_more {T} i p few w which before i' p' e lp = pick (which i' p' e lp)
    where
      pick : ((t : ℕ) × (T t × ((i' ≡ i t) × (p' ≡ p t)))) ⊎ (((t : ℕ) → T t → i' ≡ i t → p' ≡ p t → ⊥) × D i' p') → c' (index s r i' p') ≡ v i' p'
      pick (inl (t, (l, (a, b)))) = rw (a, b) (w.inside t l)
      pick (inr (far, d)) = w.outside (index s r i' p') (λ t l x. let m = same_place s r i' p' (i t) (p t) ps lp (few t l) x in far t l m.0 m.1)
          ∙ before i' p' d lp

  -- all outputs of one more iteration
  pub done_iteration : (i : ℕ) → ((i' p' : ℕ) → E i' p' → (i' ≡ i → ⊥) → D i' p') → Wrote (λ p. p < r) (index s r i) (v i) c c'
      → Done s r v c D → Done s r v c' E
  done_iteration i new w = done_more (λ t. i) (λ t. t) (λ t l. l) w (λ i' p' e lp. pick i' p' e lp (ℕ_discrete i' i))
    where
      pick : (i' p' : ℕ) → E i' p' → p' < r → Dec (i' ≡ i) → ((t : ℕ) × ((t < r) × ((i' ≡ i) × (p' ≡ t)))) ⊎ (((t : ℕ) → t < r → i' ≡ i → p' ≡ t → ⊥) × D i' p')
      pick i' p' e lp (yes a) = inl (p', (lp, (a, refl)))
      pick i' p' e lp (no f) = inr (λ t l a b. f a, new i' p' e f)

-- ---- where iterations stand that follow i: in its block, or at the start of the next

module _ (s i n : ℕ) where
  pub same_block : i % s + n < s → ((i + n) / s ≡ i / s) × ((i + n) % s ≡ i % s + n)
  same_block l = let e : i + n ≡ i / s * s + (i % s + n) = omega (arith, div-add-mod' i s) in rw e (digits_div (i / s) l, digits_mod (i / s) l)

  pub next_block : 0 < s → i % s + n ≡ s → ((i + n) / s ≡ i / s + 1) × ((i + n) % s ≡ 0)
  next_block ps l = let e : i + n ≡ (i / s + 1) * s + 0 = omega (arith, div-add-mod' i s) in rw e (digits_div (i / s + 1) ps, digits_mod (i / s + 1) ps)

-- ---- consecutive iterations of one block, one output after the other

-- their cells are consecutive
pub index_run : (s r i p t : ℕ) → i % s + t < s → index s r (i + t) p ≡ index s r i p + t
unfolding index
index_run s r i p t l = let b = same_block s i t l in rw (b.0, b.1) (omega arith)

-- the iterations below i are done, and of the n from i on the outputs below p
abbrev pub Rowed : {A : Type 0} → (s r : ℕ) → (ℕ → ℕ → A) → (ℕ → A) → (i n p : ℕ) → Type 0
Rowed s r v c i n p = Done s r v c (λ i' p'. (i' < i + n) × (i ≤ i' → p' < p))

module _ {A : Type 0} (s r : ℕ) (v : ℕ → ℕ → A) (i n : ℕ) where
  pub rowed_none : (c : ℕ → A) → Done s r v c (λ i' p'. i' < i) → Rowed s r v c i n 0
  rowed_none c before i' p' (li, l) = before i' p' (pick (dec_le i i'))
    where
      pick : Dec (i ≤ i') → i' < i
      pick (yes a) = absurd (omega (arith, l a))
      pick (no a) = omega (arith, a)

  -- a row of n cells
  pub rowed_step : 0 < s → i % s + n ≤ s → (p : ℕ) → p < r → {c c' : ℕ → A} → Wrote (λ t. t < n) (λ t. index s r i p + t) (λ t. v (i + t) p) c c'
      → Rowed s r v c i n p → Rowed s r v c' i n (p + 1)
  rowed_step ps one p lp w = done_more s r v ps (λ t. i + t) (λ t. p) (λ t l. lp) (wrote_as (λ t l. (sym (index_run s r i p t (omega arith)), refl)) w)
      (λ i' p' (li, l) lp'. pick i' p' li l (ℕ_discrete p' p) (dec_le i i'))
    where
      pick : (i' p' : ℕ) → i' < i + n → (i ≤ i' → p' < p + 1) → Dec (p' ≡ p) → Dec (i ≤ i')
          → ((t : ℕ) × ((t < n) × ((i' ≡ i + t) × (p' ≡ p)))) ⊎ (((t : ℕ) → t < n → i' ≡ i + t → p' ≡ p → ⊥) × ((i' < i + n) × (i ≤ i' → p' < p)))
      pick i' p' li l (yes e) (yes a) = inl (i' - i, (omega arith, (omega arith, e)))
      pick i' p' li l (yes e) (no a) = inr (λ t lt x y. a (omega arith), (li, λ x. absurd (a x)))
      pick i' p' li l (no e) d = inr (λ t lt x y. e y, (li, λ x. omega (arith, l x, e)))

-- ---- all outputs in their cells make the stage

pub done_stage : {A : Type 0} (kernel : Kernel A) (a : Arith A) (j h n s r : ℕ) → h ≡ n * (s * r) → 0 < s → 0 < r → (xs ys : List A) → length ys ≡ h
    → Done s r (output kernel a j (h / r) s r (λ q. get_or xs q a.blank)) (λ k. get_or ys k a.blank) (λ i p. i < h / r) → ys ≡ stage_by kernel a j h s r xs
unfolding stage_by
done_stage kernel a j h n s r parts ps pr xs ys len done = table_all _ ys h a.blank len (λ k l.
    rw (index_of_cell s r k ps pr) at (done (iteration s r k) (place s r k) (iteration_lt s r k ps pr h n parts l) (place_lt s r k ps pr)))
