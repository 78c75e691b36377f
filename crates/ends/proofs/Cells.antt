-- Laws of cells changed in place: a flat list from its cells, the steps at the ends pair by pair, and a row cell by cell. Assumes nothing.
use Rattle.sequences.proofs.Basics.{◌≡◌, refl, sym, ap, ◌∙◌, ℕ, ◌+◌, ◌-◌, ◌*◌, ◌≤◌, ◌<◌, not-suc-le-zero, arith, ℕ_discrete, dec_le, ◌≢◌, List, length, lt-ltb}
use Rattle.sequences.proofs.Basics.{le-ltb, eq-eqb, ne_eqb}
use lib.Ieee.{Float}
use Rattle.sequences.specs.Lists.{tabulate}
use Rattle.sequences.proofs.Tables.{length_tabulate, get_d_tabulate, table_all}
use Rattle.floats.specs.Complexes.{blank, conjugate, cell, put_cell, paired, flat}
use Rattle.floats.specs.declared.complex.Complex.{Complex}
use Rattle.floats.proofs.Flat.{get_paired, length_paired, flat_paired, length_flat, cell_flat, length_put, get_put, get_other}
use Rattle.mixing.specs.Steps.{Steps}
use Rattle.ends.specs.Ends.{end_cell, end_lent, ended, conjugated}
use Rattle.ends.specs.Parts.{Stepped}

-- words whose cells are f 0, f 1, .. are these written out
pub flat_cells : (n : ℕ) (f : ℕ → Complex) (ys : List Float) → length ys ≡ 2 * n → ((j : ℕ) → j < n → cell ys j ≡ f j) → ys ≡ flat (tabulate n 0 f)
flat_cells n f ys l e =
    sym (flat_paired n ys l) ∙ ap flat (table_all f (paired ys) n blank (length_paired n ys l) (λ j lj. get_paired ys j (omega arith) ∙ e j lj))

-- and back
pub cell_tabulated : (n : ℕ) (f : ℕ → Complex) (k : ℕ) → k < n → cell (flat (tabulate n 0 f)) k ≡ f k
cell_tabulated n f k l =
    let same : 0 + k ≡ k = omega arith in
    cell_flat _ k (rw (length_tabulate n 0 f) l) ∙ get_d_tabulate n 0 f k blank l ∙ ap f same

pub length_ended : (s : Steps) (h : ℕ) (tw xs : List Float) → length (ended s h tw xs) ≡ 2 * (h + 1)
unfolding ended
length_ended s h tw xs = length_flat _ ∙ ap (λ (n : ℕ). 2 * n) (length_tabulate (h + 1) 0 _)

pub length_conjugated : (h : ℕ) (xs : List Float) → length (conjugated h xs) ≡ 2 * h
unfolding conjugated
length_conjugated h xs = length_flat _ ∙ ap (λ (n : ℕ). 2 * n) (length_tabulate h 0 _)

-- ---- what becomes of each cell at the ends

module _ (s : Steps) (h : ℕ) (c t : ℕ → Complex) where
  end_first : end_cell s h c t 0 ≡ s.first (c 0) (c h)
  unfolding end_cell
  end_first = refl

  pub end_last : 0 < h → end_cell s h c t h ≡ s.last (c 0) (c h)
  unfolding end_cell
  end_last l = simp (ne_eqb h 0 (λ e. omega arith), eq-eqb h h refl)

  module _ (j : ℕ) (some : 0 < j) where
    pub end_near : 2 * j < h → end_cell s h c t j ≡ s.near (c j) (c (h - j)) (t j)
    unfolding end_cell
    end_near l = simp (ne_eqb j 0 (λ e. omega arith), ne_eqb j h (λ e. omega arith), lt-ltb (2 * j) h l)

    end_centre : 2 * j ≡ h → end_cell s h c t j ≡ s.centre (c j)
    unfolding end_cell
    end_centre l = simp (ne_eqb j 0 (λ e. omega arith), ne_eqb j h (λ e. omega arith), le-ltb (2 * j) h (omega arith), eq-eqb (2 * j) h l)

    pub end_far : 2 * j < h → end_cell s h c t (h - j) ≡ s.far (c j) (c (h - j)) (t j)
    unfolding end_cell
    end_far l =
        let back : h - (h - j) ≡ j = omega arith in
        simp (
          ne_eqb (h - j) 0 (λ e. omega arith),
          ne_eqb (h - j) h (λ e. omega arith),
          le-ltb (2 * (h - j)) h (omega arith),
          ne_eqb (2 * (h - j)) h (λ e. omega arith),
          back,
        )

module _ (s : Steps) (h : ℕ) (tw xs : List Float) where
  -- cell j afterwards
  abbrev E : ℕ → Complex
  E j = end_cell s h (cell xs) (end_lent tw) j

  -- two different cells written
  module _ (ys : List Float) (i j : ℕ) (y z : Complex) (li : 2 * i + 1 < length ys) (lj : 2 * j + 1 < length ys) (ne : i ≢ j) where
    abbrev both : List Float
    both = put_cell (put_cell ys i y) j z

    both_size : length both ≡ length ys
    both_size = length_put (put_cell ys i y) j z ∙ length_put ys i y

    both_first : cell both i ≡ y
    both_first = get_other (put_cell ys i y) j z i ne ∙ get_put ys i y li

    both_second : cell both j ≡ z
    both_second = get_put (put_cell ys i y) j z (rw (length_put ys i y) lj)

  pub stepped_first : 0 < h → (os : List Float) → length os ≡ 2 * (h + 1) → (ys : List Float) (y z : Complex) → y ≡ s.first (cell xs 0) (cell xs h)
      → z ≡ s.last (cell xs 0) (cell xs h)
      → ys ≡ put_cell (put_cell os 0 y) h z → Stepped s h tw xs ys 1
  stepped_first l os size ys y z ey ez e =
      let l0 : 1 < length os = omega arith in let lh : 2 * h + 1 < length os = omega arith in
      let ne : 0 ≢ h = λ q. omega arith in
      rw e
      (record {
        some = omega arith;
        size = both_size os 0 h y z l0 lh ne ∙ size;
        first = both_first os 0 h y z l0 lh ne ∙ ey ∙ sym (end_first s h (cell xs) (end_lent tw));
        last = both_second os 0 h y z l0 lh ne ∙ ez ∙ sym (end_last s h (cell xs) (end_lent tw) l);
        near = λ j a b. absurd (omega arith);
        far = λ j a b. absurd (omega arith);
      })

  module _ (ys : List Float) (k : ℕ) (p : Stepped s h tw xs ys k) where
    -- when no pair is left, cell k is the only one that may be
    cells_done : h ≤ 2 * k → (ys' : List Float) → length ys' ≡ length ys → ((j : ℕ) → j ≢ k → cell ys' j ≡ cell ys j) → (2 * k ≡ h → cell ys' k ≡ E k)
        → (2 * k ≢ h → cell ys' k ≡ cell ys k)
        → (j : ℕ) → j < h + 1 → cell ys' j ≡ E j
    cells_done l ys' size other centre same j lj = pick (ℕ_discrete j 0) (ℕ_discrete j h) (dec_le k j) (dec_le (j + k) h)
      where
        whole : cell ys j ≡ E j → (2 * k ≡ h → j ≢ k) → cell ys' j ≡ E j
        whole e n = go (ℕ_discrete j k) (ℕ_discrete (2 * k) h)
          where
            go : Dec (j ≡ k) → Dec (2 * k ≡ h) → cell ys' j ≡ E j
            go (no q) d = other j q ∙ e
            go (yes q) (yes r) = absurd (n r q)
            go (yes q) (no r) = (rw q (same r)) ∙ e

        pick : Dec (j ≡ 0) → Dec (j ≡ h) → Dec (k ≤ j) → Dec (j + k ≤ h) → cell ys' j ≡ E j
        pick (yes a) b d f = whole (rw a p.first) (λ u v. omega (arith, p.some))
        pick (no a) (yes b) d f = whole (rw b p.last) (λ u v. omega (arith, p.some))
        pick (no a) (no b) (no d) f = whole (p.near j (omega (arith, a)) (omega (arith, d))) (λ u v. d (omega arith))
        pick (no a) (no b) (yes d) (no f) =
            let back : h - (h - j) ≡ j = omega arith in
            whole (rw back at (p.far (h - j) (omega (arith, b)) (omega (arith, f)))) (λ u v. f (omega arith))
        pick (no a) (no b) (yes d) (yes f) =
            let u : 2 * k ≡ h = omega arith in let v : j ≡ k = omega arith in
            rw v (centre u)

    -- the centre is the last
    pub stepped_centre : 2 * k ≡ h → (ys' : List Float) (y : Complex) → y ≡ s.centre (cell xs k) → ys' ≡ put_cell ys k y → ys' ≡ ended s h tw xs
    unfolding ended
    stepped_centre l ys' y ey e =
        let made : y ≡ E k = ey ∙ sym (end_centre s h (cell xs) (end_lent tw) k p.some l) in
        let size : length (put_cell ys k y) ≡ length ys = length_put ys k y in
        let put : cell (put_cell ys k y) k ≡ y = get_put ys k y (omega (arith, p.size)) in
        rw e (flat_cells (h + 1) E (put_cell ys k y) (size ∙ p.size)
        (cells_done (omega arith) (put_cell ys k y) size (λ j n. get_other ys k y j n) (λ u. put ∙ made) (λ n. absurd (n l))))

    -- and without one nothing is left
    pub stepped_all : h ≤ 2 * k → 2 * k ≢ h → ys ≡ ended s h tw xs
    unfolding ended
    stepped_all l n = flat_cells (h + 1) E ys p.size (cells_done l ys refl (λ j m. refl) (λ u. absurd (n u)) (λ u. refl))

-- ---- a row, cell by cell

-- the cells below k are those of xs changed by f, the others those of xs
pub record Mapped (f : Complex → Complex) (xs ys : List Float) (k : ℕ) : Type 0 where
  pub size : length ys ≡ length xs
  pub done : (j : ℕ) → j < k → cell ys j ≡ f (cell xs j)
  pub kept : (j : ℕ) → k ≤ j → cell ys j ≡ cell xs j

module _ (f : Complex → Complex) (xs : List Float) where
  pub mapped_none : Mapped f xs xs 0
  mapped_none = record { size = refl; done = λ j l. absurd (not-suc-le-zero l); kept = λ j l. refl }

  pub mapped_next : (ys ys' : List Float) (k : ℕ) (z : Complex) → Mapped f xs ys k → 2 * k + 1 < length ys → z ≡ f (cell ys k) → ys' ≡ put_cell ys k z
      → Mapped f xs ys' (k + 1)
  mapped_next ys ys' k z m l ez e = rw e
      (record {
        size = length_put ys k z ∙ m.size;
        done = λ j lj. pick j lj (ℕ_discrete j k);
        kept = λ j lj. get_other ys k z j (λ q. omega arith) ∙ m.kept j (omega arith);
      })
    where
      pick : (j : ℕ) → j < k + 1 → Dec (j ≡ k) → cell (put_cell ys k z) j ≡ f (cell xs j)
      pick j lj (yes q) = rw q (get_put ys k z l ∙ ez ∙ ap f (m.kept k (omega arith)))
      pick j lj (no q) = get_other ys k z j q ∙ m.done j (omega (arith, q))

pub conjugated_all : (h : ℕ) (xs ys : List Float) → length xs ≡ 2 * h → Mapped conjugate xs ys h → ys ≡ conjugated h xs
unfolding conjugated
conjugated_all h xs ys l m = flat_cells h (λ j. conjugate (cell xs j)) ys (m.size ∙ l) m.done
