-- The steps at a transform's ends, on h + 1 complex cells in a flat list: `postprocess_fft` from the stages' outputs to bins,
-- `preprocess_ifft` from bins to the stages' inputs. Assumes nothing.
use Rattle.std.specs.Prelude.{ℕ, ◌+◌, ◌-◌, ◌*◌, cond, List, eqb, ltb, Float}
use Rattle.sequences.specs.Lists.{tabulate}
use Rattle.turn.specs.Turns.{+0}
use Rattle.floats.specs.Complexes.{conjugate, cell, flat}
use Rattle.floats.specs.declared.complex.Complex.{Complex}
use Rattle.mixing.specs.Steps.{Steps, fft_steps, ifft_steps}

-- ---- all cells

-- what becomes of cell j of the cells c, with `t k` for end twiddle k
unfoldable pub end_cell : Steps → (h : ℕ) → (c t : ℕ → Complex) → (j : ℕ) → Complex
end_cell s h c t j =
    cond (eqb j 0) (s.first (c 0) (c h))
    (cond (eqb j h) (s.last (c 0) (c h))
    (cond (ltb (2 * j) h) (s.near (c j) (c (h - j)) (t j))
    (cond (eqb (2 * j) h) (s.centre (c j)) (s.far (c (h - j)) (c j) (t (h - j))))))

-- end twiddle k of lent words, from 1 on
abbrev pub end_lent : List Float → ℕ → Complex
end_lent tw k = cell tw (k - 1)

-- all h + 1 cells of the words xs
unfoldable pub ended : Steps → (h : ℕ) → (tw xs : List Float) → List Float
ended s h tw xs = flat (tabulate (h + 1) 0 (end_cell s h (cell xs) (end_lent tw)))

abbrev pub postprocess_fft : (h : ℕ) → (tw xs : List Float) → List Float
postprocess_fft h tw xs = ended fft_steps h tw xs

abbrev pub preprocess_ifft : (h : ℕ) → (tw xs : List Float) → List Float
preprocess_ifft h tw xs = ended ifft_steps h tw xs

-- ---- rows

-- the conjugates of h cells
unfoldable pub conjugated : (h : ℕ) → List Float → List Float
conjugated h xs = flat (tabulate h 0 (λ j. conjugate (cell xs j)))

-- so many zeros
abbrev pub zeros : ℕ → List Float
zeros k = tabulate k 0 (λ j. +0)
