-- What the steps at the ends ask for, and what they have done after some pairs. Assumes nothing.
use Rattle.std.specs.Prelude.{ℕ, ◌+◌, ◌-◌, ◌*◌, ◌≤◌, ◌<◌, ◌≡◌, List, Float, length}
use Rattle.floats.specs.Complexes.{cell}
use Rattle.floats.specs.declared.complex.Complex.{Complex}
use Rattle.mixing.specs.Steps.{Steps, ifft_steps}
use Rattle.mixing.specs.Parts.{conjugating}
use Rattle.ends.specs.Ends.{end_cell, end_lent, ended}

-- `preprocess_ifft`, all cells but h conjugated
abbrev pub prepared : (h : ℕ) → (tw xs : List Float) → List Float
prepared h tw xs = ended (conjugating ifft_steps) h tw xs

-- h + 1 cells in so many words, and twiddles for every pair in nt words
pub record Endable (h words nt : ℕ) : Type 0 where
  pub some : 0 < h
  pub few : h ≤ 4096
  pub long : words ≡ 2 * (h + 1)
  pub lent : (k : ℕ) → 2 * k < h → 2 * k ≤ nt

-- at the ends y does for cell h
pub record EndsAs (s : Steps) (x y z : Complex) : Type 0 where
  pub first : s.first x y ≡ s.first x z
  pub last : s.last x y ≡ s.last x z

-- the pairs k to k + len, of at most 32, are there in so many words of cells and nt words of twiddles
pub record Batchable (h k len words nt : ℕ) : Type 0 where
  pub some : 0 < k
  pub few : h ≤ 4096
  pub short : len ≤ 32
  pub room : 2 * (k + len) < h + 2
  pub long : 2 * h ≤ words
  pub lent : (j : ℕ) → 2 * j < h → 2 * j ≤ nt

-- the n pairs from k on of the cells xs: the near cells in order, and the far ones from the last of 32 back
pub record Batched (s : Steps) (h : ℕ) (tw xs : List Float) (k n : ℕ) (ahead back : List Float) : Type 0 where
  pub near : (j : ℕ) → j < n → cell ahead j ≡ s.near (cell xs (k + j)) (cell xs (h - (k + j))) (end_lent tw (k + j))
  pub far : (j : ℕ) → j < n → cell back (31 - j) ≡ s.far (cell xs (k + j)) (cell xs (h - (k + j))) (end_lent tw (k + j))

-- the ends and the pairs below k of the cells xs are done in ys
pub record Stepped (s : Steps) (h : ℕ) (tw xs ys : List Float) (k : ℕ) : Type 0 where
  pub some : 0 < k
  pub size : length ys ≡ 2 * (h + 1)
  pub first : cell ys 0 ≡ end_cell s h (cell xs) (end_lent tw) 0
  pub last : cell ys h ≡ end_cell s h (cell xs) (end_lent tw) h
  pub near : (j : ℕ) → 0 < j → j < k → cell ys j ≡ end_cell s h (cell xs) (end_lent tw) j
  pub far : (j : ℕ) → 0 < j → j < k → cell ys (h - j) ≡ end_cell s h (cell xs) (end_lent tw) (h - j)
