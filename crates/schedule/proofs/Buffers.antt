-- Laws of two buffers written alternately: where the last stage's cells are. Assumes nothing.
use Rattle.sequences.proofs.Basics.{◌≡◌, refl, sym, ap, ◌∙◌, ℕ, zero, suc, ◌+◌, ◌%◌, ◌<◌, add-one, arith, Bool, true, false, not, ◌||◌, List, eqb, length}
use Rattle.sequences.proofs.Basics.{eq-eqb, ne_eqb, eqb-true, eqb-false}
use Rattle.counts.specs.Counts.{buffer_by}
use Rattle.schedule.specs.Stage.{Kernel, Arith, stage, run}
use Rattle.schedule.specs.Buffers.{Two, across, alternated, copied_by, driven, held_in}

-- the buffer that stage k reads
abbrev pub source_by : {A : Type 0} → Bool → Two A → List A
source_by true b = b.0
source_by false b = b.1

parity : (k : ℕ) → eqb (suc k % 2) 0 ≡ not (eqb (k % 2) 0)
parity k = go (eqb (k % 2) 0) refl
  where
    go : (b : Bool) → eqb (k % 2) 0 ≡ b → eqb (suc k % 2) 0 ≡ not b
    go true e = ne_eqb (suc k % 2) 0 (λ f. omega (arith, f, eqb-true (k % 2) 0 e))
    go false e = eq-eqb (suc k % 2) 0 (odd (eqb-false (k % 2) 0 e))
      where
        odd : (k % 2 ≡ 0 → ⊥) → suc k % 2 ≡ 0
        odd n = omega arith

across_source : {A : Type 0} (t : Bool) (g : List A → List A) (b : Two A) → source_by (not t) (across t g b) ≡ g (source_by t b)
across_source true g b = refl
across_source false g b = refl

-- stage k reads what the k stages before it made
pub source_run : {A : Type 0} (kernel : Kernel A) (a : Arith A) (h : ℕ) (rs : List ℕ) (b : Two A) (k : ℕ)
    → source_by (eqb (k % 2) 0) (alternated (stage kernel a h rs) k b) ≡ run kernel a h rs k b.0
unfolding alternated run
source_run kernel a h rs b zero = refl
source_run kernel a h rs b (suc k) = ap (λ (t : Bool). source_by t (alternated (stage kernel a h rs) (suc k) b)) (parity k)
    ∙ across_source (eqb (k % 2) 0) (stage kernel a h rs k) (alternated (stage kernel a h rs) k b) ∙ ap (stage kernel a h rs k) (source_run kernel a h rs b k)

-- a single stage, t, and an even number, u: the named buffer holds what the last stage made
pub held : {A : Type 0} (t u : Bool) (b : Two A) → (t ≡ true → u ≡ false) → held_in (buffer_by (t || u)) (copied_by t b) ≡ source_by u b
held true true b e = ap (λ (v : Bool). source_by (not v) b) (e refl)
held true false b e = refl
held false true b e = refl
held false false b e = refl

-- ---- stages f, one more and the last

module _ {A : Type 0} (f : ℕ → List A → List A) (b : Two A) where
  -- both buffers stay as long as they are
  pub both_long : (n : ℕ) → ((k : ℕ) (xs : List A) → length (f k xs) ≡ n) → length b.0 ≡ n → length b.1 ≡ n
      → (k : ℕ) → (length (alternated f k b).0 ≡ n) × (length (alternated f k b).1 ≡ n)
  unfolding alternated
  both_long n made l m zero = (l, m)
  both_long n made l m (suc k) = go (eqb (k % 2) 0) (both_long n made l m k)
    where
      go : (t : Bool) → (length (alternated f k b).0 ≡ n) × (length (alternated f k b).1 ≡ n)
          → (length (across t (f k) (alternated f k b)).0 ≡ n) × (length (across t (f k) (alternated f k b)).1 ≡ n)
      go true g = (g.0, made k (alternated f k b).0)
      go false g = (made k (alternated f k b).1, g.1)

  across_next : (k : ℕ) (t : Bool) → eqb (k % 2) 0 ≡ t → across t (f k) (alternated f k b) ≡ alternated f (k + 1) b
  unfolding alternated
  across_next k t e = ap (λ (u : Bool). across u (f k) (alternated f k b)) (sym e) ∙ ap (λ (n : ℕ). alternated f n b) (sym (add-one k))

  -- what stage k leaves in the buffers d' and s', which held d and s
  pub even_next : (k : ℕ) (d s d' s' : List A) → k % 2 ≡ 0 → d ≡ (alternated f k b).0 → d' ≡ d → s' ≡ f k d → (d' ≡ (alternated f (k + 1) b).0)
      × (s' ≡ (alternated f (k + 1) b).1)
  even_next k d s d' s' e g u v =
      let next = across_next k true (eq-eqb (k % 2) 0 e) in
      (u ∙ g ∙ ap (λ (c : Two A). c.0) next, v ∙ ap (f k) g ∙ ap (λ (c : Two A). c.1) next)

  pub odd_next : (k : ℕ) (d s d' s' : List A) → (k % 2 ≡ 0 → ⊥) → s ≡ (alternated f k b).1 → d' ≡ f k s → s' ≡ s → (d' ≡ (alternated f (k + 1) b).0)
      × (s' ≡ (alternated f (k + 1) b).1)
  odd_next k d s d' s' e g u v =
      let next = across_next k false (ne_eqb (k % 2) 0 e) in
      (u ∙ ap (f k) g ∙ ap (λ (c : Two A). c.0) next, v ∙ g ∙ ap (λ (c : Two A). c.1) next)

  -- a single stage is copied back, more are not
  pub driven_copied : (count : ℕ) → count ≡ 1 → (d s : List A) → d ≡ s → s ≡ (alternated f count b).1 → (d ≡ (driven f count b).0) × (s ≡ (driven f count b).1)
  unfolding driven
  driven_copied count e d s g u = simp (eq-eqb count 1 e) (g ∙ u, u)

  pub driven_kept : (count : ℕ) → (count ≡ 1 → ⊥) → (d s : List A) → d ≡ (alternated f count b).0 → s ≡ (alternated f count b).1 → (d ≡ (driven f count b).0)
      × (s ≡ (driven f count b).1)
  unfolding driven
  driven_kept count e d s g u = simp (ne_eqb count 1 e) (g, u)

  -- no stage leaves both as they are
  pub driven_none : driven f 0 b ≡ b
  unfolding driven alternated
  driven_none = refl

  pub driven_long : (n : ℕ) → ((k : ℕ) (xs : List A) → length (f k xs) ≡ n) → length b.0 ≡ n → length b.1 ≡ n
      → (count : ℕ) → (length (driven f count b).0 ≡ n) × (length (driven f count b).1 ≡ n)
  unfolding driven
  driven_long n made l m count = go (eqb count 1) (both_long n made l m count)
    where
      go : (t : Bool) → (length (alternated f count b).0 ≡ n) × (length (alternated f count b).1 ≡ n)
          → (length (copied_by t (alternated f count b)).0 ≡ n) × (length (copied_by t (alternated f count b)).1 ≡ n)
      go true g = (g.1, g.1)
      go false g = g

-- the first stage writes over what the Scratchpad held
module _ {A : Type 0} (f : ℕ → List A → List A) (xs ys ys' : List A) where
  alternated_pad : (k : ℕ) → alternated f (suc k) (xs, ys) ≡ alternated f (suc k) (xs, ys')
  unfolding alternated
  alternated_pad zero = refl
  alternated_pad (suc k) = ap (across (eqb (suc k % 2) 0) (f (suc k))) (alternated_pad k)

  pub driven_pad : (count : ℕ) → 0 < count → driven f count (xs, ys) ≡ driven f count (xs, ys')
  unfolding driven
  driven_pad zero l = absurd (omega arith)
  driven_pad (suc k) l = ap (copied_by (eqb (suc k) 1)) (alternated_pad k)

-- stages that make the same, driven alike, leave the same
module _ {A : Type 0} (f g : ℕ → List A → List A) (b : Two A) where
  alternated_same : (k : ℕ) → ((j : ℕ) → j < k → (xs : List A) → f j xs ≡ g j xs) → alternated f k b ≡ alternated g k b
  unfolding alternated
  alternated_same zero e = refl
  alternated_same (suc k) e = ap (across (eqb (k % 2) 0) (f k)) (alternated_same k (λ j l. e j (omega arith))) ∙ go (eqb (k % 2) 0) (alternated g k b)
    where
      go : (t : Bool) (c : Two A) → across t (f k) c ≡ across t (g k) c
      go true c = ap (λ (ys : List A). (c.0, ys)) (e k (omega arith) c.0)
      go false c = ap (λ (ys : List A). (ys, c.1)) (e k (omega arith) c.1)

  pub driven_same : (count : ℕ) → ((j : ℕ) → j < count → (xs : List A) → f j xs ≡ g j xs) → driven f count b ≡ driven g count b
  unfolding driven
  driven_same count e = ap (copied_by (eqb count 1)) (alternated_same count e)
