-- The steps that conjugate every cell but h are the steps, and then the first h cells conjugated. Assumes nothing.
use Rattle.sequences.proofs.Basics.{◌≡◌, refl, sym, ap, ◌∙◌, ℕ, ◌+◌, ◌*◌, ◌<◌, arith, ℕ_discrete, Bool, true, false, cond, List, ◌++◌, eqb, ltb, length}
use Rattle.sequences.proofs.Basics.{take, drop, length-append, length-drop, ne_eqb}
use lib.Ieee.{Float}
use Rattle.floats.specs.Complexes.{conjugate, cell}
use Rattle.floats.specs.declared.complex.Complex.{Complex}
use Rattle.floats.proofs.Flat.{cell_take, cell_drop, cell_front, cell_back}
use Rattle.mixing.specs.Steps.{Steps}
use Rattle.mixing.specs.Parts.{conjugating}
use Rattle.ends.specs.Ends.{end_cell, end_lent, ended, conjugated}
use Rattle.ends.proofs.Cells.{flat_cells, cell_tabulated, length_ended, length_conjugated, end_last}

-- a choice, conjugated
choice : (a b d : Bool) (x y z u : Complex)
    → cond a (conjugate x) (cond b (conjugate y) (cond d (conjugate z) (conjugate u))) ≡ conjugate (cond a x (cond b y (cond d z u)))
choice true b d x y z u = refl
choice false true d x y z u = refl
choice false false true x y z u = refl
choice false false false x y z u = refl

-- a cell below h is conjugated
end_conjugated : (s : Steps) (h : ℕ) (c t : ℕ → Complex) (j : ℕ) → j < h → end_cell (conjugating s) h c t j ≡ conjugate (end_cell s h c t j)
unfolding end_cell
end_conjugated s h c t j l = rw (ne_eqb j h (λ e. omega arith)) (choice (eqb j 0) (ltb (2 * j) h) (eqb (2 * j) h) _ _ _ _)

module _ (s : Steps) (h : ℕ) (tw xs : List Float) (some : 0 < h) where
  -- the cells as the steps leave them, and those below h conjugated
  abbrev E : List Float
  E = ended s h tw xs

  abbrev there : List Float
  there = conjugated h (take (2 * h) E)

  cell_ended : (j : ℕ) → j < h + 1 → cell E j ≡ end_cell s h (cell xs) (end_lent tw) j
  unfolding ended
  cell_ended j l = cell_tabulated (h + 1) (end_cell s h (cell xs) (end_lent tw)) j l

  cell_there : (j : ℕ) → j < h → cell there j ≡ conjugate (cell E j)
  unfolding conjugated
  cell_there j l = cell_tabulated h (λ i. conjugate (cell (take (2 * h) E) i)) j l ∙ ap conjugate (cell_take E h j l)

  each : (j : ℕ) → j < h + 1 → cell (there ++ drop (2 * h) E) j ≡ end_cell (conjugating s) h (cell xs) (end_lent tw) j
  each j l = pick (ℕ_discrete j h)
    where
      long : length there ≡ 2 * h
      long = length_conjugated h (take (2 * h) E)

      pick : Dec (j ≡ h) → cell (there ++ drop (2 * h) E) j ≡ end_cell (conjugating s) h (cell xs) (end_lent tw) j
      pick (yes e) =
          let zero : h + 0 ≡ h = omega arith in
          let here : cell (there ++ drop (2 * h) E) h ≡ cell E h = rw zero at (cell_back there (drop (2 * h) E) h 0 long ∙ cell_drop E h 0) in
          rw e (here ∙ cell_ended h (omega arith) ∙ end_last s h (cell xs) (end_lent tw) some ∙ sym (end_last (conjugating s) h (cell xs) (end_lent tw) some))
      pick (no f) =
          let below : j < h = omega (arith, f) in
          cell_front there (drop (2 * h) E) j (omega (arith, long)) ∙ cell_there j below ∙ ap conjugate (cell_ended j l)
          ∙ sym (end_conjugated s h (cell xs) (end_lent tw) j below)

  pub prepared_is : ended (conjugating s) h tw xs ≡ there ++ drop (2 * h) E
  unfolding ended
  prepared_is = sym (flat_cells (h + 1) (end_cell (conjugating s) h (cell xs) (end_lent tw)) (there ++ drop (2 * h) E)
      (length-append there (drop (2 * h) E) ∙ omega (arith, length_conjugated h (take (2 * h) E), length-drop (2 * h) E, length_ended s h tw xs)) each)
