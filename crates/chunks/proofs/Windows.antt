-- A walk sees a file through windows: 24 bytes from a chunk on, or all to the file's end, tell as much as the whole file. Assumes nothing.
use Rattle.sequences.proofs.Basics.{◌≡◌, refl, ap, ◌∙◌, ℕ, zero, suc, ◌-◌, ◌≤◌, ◌<◌, min, arith, List, length, take, drop, length-drop, take_all, dite, dec_lt}
use Rattle.std.specs.Prelude.{Option, Some, None, Ok, Err}
use Rattle.little.proofs.Numbers.{number_take}
use Rattle.chunks.specs.Chunks.{Walking, begun, at_data, at_format, at_other, stepped, on_by, walked, ended, walk_in, walk_of}
use Rattle.chunks.specs.declared.inner.walk.Walk.TheVariants.{Chunk, End}

-- one chunk in a longer list
step_take : (bs : List ℕ) (k at : ℕ) (rate : Option ℕ) (L : ℕ) → 24 ≤ k → stepped (take k bs) at rate L ≡ stepped bs at rate L
unfolding at_data at_format at_other stepped
step_take bs k at None L h = rw (
  number_take 4 bs k 0 (omega arith),
  number_take 4 bs k 4 (omega arith),
  number_take 4 bs k 12 (omega arith),
  number_take 4 bs k 16 (omega arith),
  number_take 2 bs k 8 (omega arith),
  number_take 2 bs k 10 (omega arith),
  number_take 2 bs k 20 (omega arith),
  number_take 2 bs k 22 (omega arith),
)
step_take bs k at (Some rate) L h = rw (
  number_take 4 bs k 0 (omega arith),
  number_take 4 bs k 4 (omega arith),
  number_take 4 bs k 12 (omega arith),
  number_take 4 bs k 16 (omega arith),
  number_take 2 bs k 8 (omega arith),
  number_take 2 bs k 10 (omega arith),
  number_take 2 bs k 20 (omega arith),
  number_take 2 bs k 22 (omega arith),
)

-- and the mark
begun_take : (bs : List ℕ) (k L : ℕ) → 12 ≤ k → begun (take k bs) L ≡ begun bs L
unfolding begun
begun_take bs k L h = rw (number_take 4 bs k 0 (omega arith), number_take 4 bs k 4 (omega arith), number_take 4 bs k 8 (omega arith))

module _ (file : List ℕ) where
  -- all to the file's end
  rest_taken : (k at : ℕ) → length file - at ≤ k → take k (drop at file) ≡ drop at file
  rest_taken k at h = take_all k (drop at file) (omega (arith, length-drop at file, h))

  -- a step through a window
  pub step_window : (k at : ℕ) (rate : Option ℕ) → min 24 (length file - at) ≤ k
      → stepped (take k (drop at file)) at rate (length file) ≡ stepped (drop at file) at rate (length file)
  step_window k at rate h =
      dite (dec_lt k 24)
      (λ (l : k < 24). ap (λ (bs : List ℕ). stepped bs at rate (length file)) (rest_taken k at (omega (arith, h, l))))
      (λ (n : k < 24 → ⊥). step_take (drop at file) k at rate (length file) (omega (arith, n)))

  -- the beginning through one
  pub begun_window : (k : ℕ) → min 12 (length file) ≤ k → begun (take k file) (length file) ≡ begun file (length file)
  begun_window k h =
      dite (dec_lt k 12)
      (λ (l : k < 12). ap (λ (bs : List ℕ). begun bs (length file)) (take_all k file (omega (arith, h, l))))
      (λ (n : k < 12 → ⊥). begun_take file k (length file) (omega (arith, n)))

  module _ (size : ℕ → ℕ) (enough : (at : ℕ) → min 24 (length file - at) ≤ size at) where
    -- what stands in the window at a place
    abbrev seen : ℕ → List ℕ
    seen at = take (size at) (drop at file)

    abbrev rest : ℕ → List ℕ
    rest at = drop at file

    on_window : (r : Walking) → on_by seen (length file) r ≡ on_by rest (length file) r
    on_window (Ok (Chunk at rate)) = step_window (size at) at rate (enough at)
    on_window (Ok (End samples)) = refl
    on_window (Err why) = refl

    walked_window : (k : ℕ) (r : Walking) → walked k seen (length file) r ≡ walked k rest (length file) r
    unfolding walked
    walked_window zero r = refl
    walked_window (suc k) r = walked_window k (on_by seen (length file) r) ∙ ap (walked k rest (length file)) (on_window r)

    -- the whole walk through windows of any sizes that are large enough is that over the file
    pub walk_window : walk_in seen (length file) ≡ walk_of file
    unfolding walk_in walk_of
    walk_window =
        ap ended (ap (walked (length file) seen (length file)) (begun_window (size 0) (omega (arith, enough 0)))
        ∙ walked_window (length file) (begun file (length file)))
