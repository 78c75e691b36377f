-- Laws of pairs taken several at a time: the cells of a row pasted into another, a batch pair by pair, and a batch put in its place. Assumes nothing.
use Rattle.sequences.proofs.Basics.{◌≡◌, sym, ap, ap₂, ◌∙◌, ℕ, ◌+◌, ◌-◌, ◌*◌, ◌≤◌, ◌<◌, not-suc-le-zero, arith, ℕ_discrete, dec_le, ◌⊎◌, inl, inr, ⊎_elim, List}
use Rattle.sequences.proofs.Basics.{length, get_or, take, drop, length-drop, length-take-le}
use lib.Ieee.{Float, nan}
use Rattle.sequences.specs.Lists.{pasted}
use Rattle.sequences.proofs.Pasted.{length_pasted, pasted_before, pasted_in, pasted_after}
use Rattle.floats.specs.Complexes.{cx, cell, put_cell}
use Rattle.floats.specs.declared.complex.Complex.{Complex}
use Rattle.floats.proofs.Flat.{cell_take, cell_drop, get_put, get_other}
use Rattle.mixing.specs.Steps.{Steps}
use Rattle.ends.specs.Ends.{end_cell, end_lent}
use Rattle.ends.specs.Parts.{Batched, Stepped}
use Rattle.ends.proofs.Cells.{end_near, end_far}

-- ---- a row pasted into another

-- where it goes to cell a and has n cells
module _ (ys zs : List Float) (a n : ℕ) (size : length zs ≡ 2 * n) (room : 2 * (a + n) ≤ length ys) where
  fine : 2 * a + length zs ≤ length ys
  fine = omega arith

  pub cell_in : (j : ℕ) → j < n → cell (pasted ys (2 * a) zs) (a + j) ≡ cell zs j
  cell_in j l = ap₂ cx (ap (λ (i : ℕ). get_or (pasted ys (2 * a) zs) i nan) (omega arith) ∙ pasted_in ys zs (2 * a) fine nan (2 * j) (omega arith))
      (ap (λ (i : ℕ). get_or (pasted ys (2 * a) zs) i nan) (omega arith) ∙ pasted_in ys zs (2 * a) fine nan (2 * j + 1) (omega arith))

  pub cell_out : (j : ℕ) → (j < a) ⊎ (a + n ≤ j) → cell (pasted ys (2 * a) zs) j ≡ cell ys j
  cell_out j d = ⊎_elim
      (λ (l : j < a). ap₂ cx (pasted_before ys zs (2 * a) fine nan (2 * j) (omega arith)) (pasted_before ys zs (2 * a) fine nan (2 * j + 1) (omega arith)))
      (λ (l : a + n ≤ j). ap₂ cx (pasted_after ys zs (2 * a) fine nan (2 * j) (omega arith)) (pasted_after ys zs (2 * a) fine nan (2 * j + 1) (omega arith)))
      d

-- the last n cells of 32, as they are cut out
module _ (b : List Float) (n m d : ℕ) (short : n ≤ 32) (size : length b ≡ 64) (em : m ≡ 2 * n) (ed : d ≡ 2 * (32 - n)) where
  pub end_length : length (take m (drop d b)) ≡ 2 * n
  end_length = rw em (length-take-le (2 * n) (drop d b) (omega (arith, length-drop d b)))

  pub end_cell_lem : (j : ℕ) → j < n → cell (take m (drop d b)) j ≡ cell b (32 - n + j)
  end_cell_lem j l = rw (em, ed) (cell_take (drop (2 * (32 - n)) b) n j l ∙ cell_drop b (32 - n) j)

-- ---- a batch

module _ (s : Steps) (h : ℕ) (tw xs : List Float) (k : ℕ) where
  pub batched_none : (a b : List Float) → Batched s h tw xs k 0 a b
  batched_none a b = record { near = λ j l. absurd (not-suc-le-zero l); far = λ j l. absurd (not-suc-le-zero l) }

  -- a pair more
  pub batched_next : (n : ℕ) (a b a' b' : List Float) (y z : Complex) → n < 32 → length a ≡ 64 → length b ≡ 64 → Batched s h tw xs k n a b
      → y ≡ s.near (cell xs (k + n)) (cell xs (h - (k + n))) (end_lent tw (k + n)) → z ≡ s.far (cell xs (k + n)) (cell xs (h - (k + n))) (end_lent tw (k + n))
      → a' ≡ put_cell a n y → b' ≡ put_cell b (31 - n) z → Batched s h tw xs k (n + 1) a' b'
  batched_next n a b a' b' y z l la lb p ey ez ea eb =
      rw (ea, eb) (record { near = λ j lj. ahead j lj (ℕ_discrete j n); far = λ j lj. back j lj (ℕ_discrete j n) })
    where
      ahead : (j : ℕ) → j < n + 1 → Dec (j ≡ n) → cell (put_cell a n y) j ≡ s.near (cell xs (k + j)) (cell xs (h - (k + j))) (end_lent tw (k + j))
      ahead j lj (yes q) = rw q (get_put a n y (omega arith) ∙ ey)
      ahead j lj (no q) = get_other a n y j q ∙ p.near j (omega (arith, q))

      back : (j : ℕ) → j < n + 1 → Dec (j ≡ n) → cell (put_cell b (31 - n) z) (31 - j) ≡ s.far (cell xs (k + j)) (cell xs (h - (k + j))) (end_lent tw (k + j))
      back j lj (yes q) = rw q (get_put b (31 - n) z (omega arith) ∙ ez)
      back j lj (no q) = get_other b (31 - n) z (31 - j) (λ e. q (omega arith)) ∙ p.far j (omega (arith, q))

-- two rows of n cells pasted: to cell k, and to end before cell h - k + 1
module _ (h k n : ℕ) (some : 0 < k) (room : 2 * (k + n) < h + 2) (ys u v : List Float) (size : length ys ≡ 2 * (h + 1)) (lu : length u ≡ 2 * n)
    (lv : length v ≡ 2 * n) where
  abbrev once : List Float
  once = pasted ys (2 * k) u

  abbrev twice : List Float
  twice = pasted once (2 * (h - k - n + 1)) v

  once_size : length once ≡ length ys
  once_size = length_pasted ys u (2 * k) (omega arith)

  twice_size : length twice ≡ 2 * (h + 1)
  twice_size = length_pasted once v (2 * (h - k - n + 1)) (omega (arith, once_size)) ∙ once_size ∙ size

  twice_near : (j : ℕ) → j < n → cell twice (k + j) ≡ cell u j
  twice_near j l = cell_out once v (h - k - n + 1) n lv (omega (arith, once_size)) (k + j) (inl (omega arith)) ∙ cell_in ys u k n lu (omega arith) j l

  twice_far : (j : ℕ) → j < n → cell twice (h - (k + j)) ≡ cell v (n - 1 - j)
  twice_far j l = ap (cell twice) {x = h - (k + j)} {y = h - k - n + 1 + (n - 1 - j)} (omega arith)
      ∙ cell_in once v (h - k - n + 1) n lv (omega (arith, once_size)) (n - 1 - j) (omega arith)

  twice_out : (j : ℕ) → (j < k) ⊎ (k + n ≤ j) → (j < h - k - n + 1) ⊎ (h - k + 1 ≤ j) → cell twice j ≡ cell ys j
  twice_out j a b =
      cell_out once v (h - k - n + 1) n lv (omega (arith, once_size)) j (⊎_elim (λ (l : j < h - k - n + 1). inl l) (λ (l : h - k + 1 ≤ j). inr (omega arith)) b)
      ∙ cell_out ys u k n lu (omega arith) j a

-- a batch put in its place
module _ (s : Steps) (h : ℕ) (tw xs ys : List Float) (k n : ℕ) (a b u v : List Float) where
  abbrev E : ℕ → Complex
  E j = end_cell s h (cell xs) (end_lent tw) j

  pub stepped_batch : n ≤ 32 → 2 * (k + n) < h + 2 → length u ≡ 2 * n → length v ≡ 2 * n → ((j : ℕ) → j < n → cell u j ≡ cell a j)
      → ((j : ℕ) → j < n → cell v j ≡ cell b (32 - n + j))
      → Batched s h tw xs k n a b → Stepped s h tw xs ys k → (ys' : List Float) → ys' ≡ pasted (pasted ys (2 * k) u) (2 * (h - k - n + 1)) v
      → Stepped s h tw xs ys' (k + n)
  stepped_batch short room lu lv eu ev m p ys' e = rw e
      (record {
        some = omega (arith, p.some);
        size = twice_size h k n p.some room ys u v p.size lu lv;
        first = other 0 (inl p.some) (inl (omega arith)) ∙ p.first;
        last = other h (inr (omega (arith, p.some))) (inr (omega (arith, p.some))) ∙ p.last;
        near = λ j c d. near j c d (dec_le k j);
        far = λ j c d. far j c d (dec_le k j);
      })
    where
      other : (j : ℕ) → (j < k) ⊎ (k + n ≤ j) → (j < h - k - n + 1) ⊎ (h - k + 1 ≤ j)
          → cell (pasted (pasted ys (2 * k) u) (2 * (h - k - n + 1)) v) j ≡ cell ys j
      other = twice_out h k n p.some room ys u v p.size lu lv

      near : (j : ℕ) → 0 < j → j < k + n → Dec (k ≤ j) → cell (pasted (pasted ys (2 * k) u) (2 * (h - k - n + 1)) v) j ≡ E j
      near j c d (no q) = other j (inl (omega (arith, q))) (inl (omega (arith, q))) ∙ p.near j c (omega (arith, q))
      near j c d (yes q) =
          let i = j - k in let back : k + (j - k) ≡ j = omega arith in
          let made = twice_near h k n p.some room ys u v p.size lu lv i (omega arith) ∙ eu i (omega arith) ∙ m.near i (omega arith) in
          (rw back at made) ∙ sym (end_near s h (cell xs) (end_lent tw) j c (omega arith))

      far : (j : ℕ) → 0 < j → j < k + n → Dec (k ≤ j) → cell (pasted (pasted ys (2 * k) u) (2 * (h - k - n + 1)) v) (h - j) ≡ E (h - j)
      far j c d (no q) = other (h - j) (inr (omega (arith, q))) (inr (omega (arith, q))) ∙ p.far j c (omega (arith, q))
      far j c d (yes q) =
          let i = j - k in let back : k + (j - k) ≡ j = omega arith in
          let place : 32 - n + (n - 1 - (j - k)) ≡ 31 - (j - k) = omega arith in
          let made = twice_far h k n p.some room ys u v p.size lu lv i (omega arith) ∙ ev (n - 1 - i) (omega arith) ∙ ap (cell b) place
          ∙ m.far i (omega arith) in
          (rw back at made) ∙ sym (end_far s h (cell xs) (end_lent tw) j c (omega arith))
