-- Whole numbers up to 2 ^ 20 at lengths 2 and 4: the steps of forward leave their discrete Fourier transform exactly, and those of inverse, given that
-- spectrum, n times each of them, at every width and for any lent twiddles. Assumes nothing.
use Rattle.sequences.proofs.Basics.{◌≡◌, refl, sym, ap, ap₂, ◌∙◌, subst, ℕ, zero, suc, ◌+◌, ◌-◌, ◌*◌, ◌/◌, ◌≤◌, ◌<◌, suc-le-suc, le_of_suc-le-suc, arith, true}
use Rattle.sequences.proofs.Basics.{false, inl, inr, List, [], ◌∷◌, ◌++◌, lit≤, length, get_or}
use lib.IntN.{ℤ, pos, ◌*ℤ◌}
use lib.Ieee.{Float, nan, binary32, add, sub, neg}
use Rattle.sequences.specs.Lists.{tabulate}
use Rattle.counts.specs.Counts.{radix, stride, result_in}
use Rattle.radices.specs.Lists.{product}
use Rattle.plan.specs.Record.{is_planned}
use Rattle.plan.specs.declared.Record.{Record}
use Rattle.plan.proofs.Bounds.{plan_radix_bounds, plan_twice}
use Rattle.schedule.specs.Buffers.{alternated, driven, held_in}
use Rattle.schedule.specs.Plans.{in_use}
use Rattle.schedule.specs.Stage.{kernel_turn, iteration, place, twiddled_in, read, total, plain, output, stage_by, stage}
use Rattle.schedule.proofs.Plans.{use-length, use-product, use-radix}
use Rattle.turn.specs.Turns.{+0, index_of, turn_at, turn_of}
use Rattle.turn.specs.declared.Turn.TheVariants.{Half}
use Rattle.floats.specs.Complexes.{blank, plus, conjugate, turned_by, cell, paired, flat}
use Rattle.floats.specs.declared.complex.Complex.{Complex}
use Rattle.floats.proofs.Flat.{get_paired}
use Rattle.kernel.specs.Floats.{floats, lent_at, stage_of}
use Rattle.stage.specs.Runs.{own_of, stage_in}
use Rattle.mixing.specs.Steps.{ifft_steps}
use Rattle.ends.specs.Ends.{end_cell, ended, postprocess_fft, conjugated, zeros}
use Rattle.scratch.specs.Scratch.{data_of, pad_of}
use Rattle.transform.specs.Parts.{Forwardable, Invertible}
use Rattle.transform.specs.Transforms.{forward_run, forward_of, prepared_of, inverse_run, restored, inverse_of}
use Rattle.finite.specs.Whole.{IsWhole, AreWhole, bin, Short, Small, Samples, IsBins}
use Rattle.finite.proofs.Whole.{Sum, none, at, minus, ◌⊕◌, part, copies, times_copies, Held, held_add, held_sub, held_neg, held_zero, held_as}

-- ---- the plans of these lengths

-- from 2 on
abbrev Twos : List ℕ → Type 0
Twos rs = (j : ℕ) → j < length rs → 2 ≤ get_or rs j 1

product_one : (rs : List ℕ) → Twos rs → product rs ≡ 1 → rs ≡ []
unfolding product
product_one [] t e = refl
product_one (r ∷ rs) t e = absurd (go (product rs) (t 0 (omega arith)) e)
  where
    go : (k : ℕ) → 2 ≤ r → r * k ≡ 1 → ⊥
    go zero l e = omega arith
    go (suc k) l e = omega arith

product_two : (rs : List ℕ) → Twos rs → product rs ≡ 2 → rs ≡ 2 ∷ []
unfolding product
product_two [] t e = absurd (omega arith)
product_two (r ∷ rs) t e = go (product rs) refl (t 0 (omega arith)) e
  where
    go : (k : ℕ) → product rs ≡ k → 2 ≤ r → r * k ≡ 2 → r ∷ rs ≡ 2 ∷ []
    go zero f l e = absurd (omega arith)
    go (suc zero) f l e = ap₂ ◌∷◌ (omega arith) (product_one rs (λ j lj. t (suc j) (omega arith)) f)
    go (suc (suc k)) f l e = absurd (omega arith)

module _ (p : Record) (planned : is_planned p ≡ true) where
  use-twos : Twos (in_use p)
  unfolding radix
  use-twos j l =
      let known : j < p.count = rw (use-length p planned) at l in
      rw (use-radix p planned j known) (plan_radix_bounds p planned j known).0

  half_as : (h : ℕ) → p.n ≡ 2 * h → p.half ≡ h
  half_as h e = omega (arith, plan_twice p planned)

  -- no stage at length 2, and one of radix 2 at length 4
  use-two : p.n ≡ 2 → in_use p ≡ []
  use-two e = product_one (in_use p) use-twos (sym (use-product p planned) ∙ half_as 1 e)

  use-four : p.n ≡ 4 → in_use p ≡ 2 ∷ []
  use-four e = product_two (in_use p) use-twos (sym (use-product p planned) ∙ half_as 2 e)

  pub short_count : Short p.n → p.count ≤ 1
  short_count (inl e) = omega (arith, sym (use-length p planned) ∙ ap length (use-two e))
  short_count (inr e) = omega (arith, sym (use-length p planned) ∙ ap length (use-four e))

-- ---- the words that both directions leave at these lengths

-- the sum and the difference of two cells
abbrev crossed : (a b : Complex) → List Complex
crossed a b = plus a b ∷ plus a (turned_by Half b) ∷ []

stage_crossed : (lent : ℕ → ℕ → ℕ → Complex) (zs : List Complex) → stage plain (floats lent) 2 (2 ∷ []) 0 zs ≡ crossed (get_or zs 0 blank) (get_or zs 1 blank)
unfolding stage stage_by tabulate output plain total read twiddled_in kernel_turn iteration place floats radix stride product turn_of turn_at index_of
stage_crossed lent zs = refl

-- the bins of 2 samples, and of 4, in cells
abbrev two_bins : Complex → List Float
two_bins a = add binary32 a.re a.im ∷ +0 ∷ sub binary32 a.re a.im ∷ +0 ∷ []

abbrev four_bins : (a b : Complex) → List Float
four_bins a b =
    let S = plus a b in let D = plus a (turned_by Half b) in
    add binary32 S.re S.im ∷ +0 ∷ D.re ∷ neg D.im ∷ sub binary32 S.re S.im ∷ +0 ∷ []

-- the samples from 2 bins, and from 3
abbrev two_samples : (a b : Complex) → List Float
two_samples a b = flat (conjugate (conjugate (ifft_steps.first a b)) ∷ [])

abbrev four_samples : (a b c : Complex) → List Float
four_samples a b c =
    let even = conjugate (ifft_steps.first a c) in let odd = conjugate (conjugate (plus b b)) in
    flat (conjugate (plus even odd) ∷ conjugate (plus even (turned_by Half odd)) ∷ [])

module _ (p : Record) (planned : is_planned p ≡ true) (W : ℕ) (tw end xs s : List Float) where
  -- what is made of the plan's half and count is made of these
  shaped : (f : (h c : ℕ) → List Float) (h : ℕ) (rs : List ℕ) → p.n ≡ 2 * h → in_use p ≡ rs → f p.half p.count ≡ f h (length rs)
  shaped f h rs e u = ap₂ f (half_as p planned h e) (sym (use-length p planned) ∙ ap length u)

  stage_four : p.n ≡ 4 → (ys : List Float) → stage_in p W tw 0 ys ≡ flat (crossed (get_or (paired ys) 0 blank) (get_or (paired ys) 1 blank))
  unfolding stage_of
  stage_four e ys =
      let lent : ℕ → ℕ → ℕ → Complex = λ k. lent_at (p.half / radix (in_use p) 0) (radix (in_use p) 0) W (own_of p tw 0) in
      ap₂ (λ (h : ℕ) (rs : List ℕ). flat (stage plain (floats lent) h rs 0 (paired ys))) (half_as p planned 2 e) (use-four p planned e)
      ∙ ap flat (stage_crossed lent (paired ys))

  -- what forward leaves, of a half and a count
  abbrev forwarded : (h c : ℕ) → List Float
  forwarded h c = postprocess_fft h end (held_in (result_in c) (driven (stage_in p W tw) c (xs, pad_of p.half s)))

  forward_two : p.n ≡ 2 → (forward_of p W tw end xs s).0 ≡ two_bins (cell xs 0)
  unfolding forward_of forward_run driven alternated result_in ended end_cell tabulate flat
  forward_two e = shaped forwarded 1 [] e (use-two p planned e)

  forward_four : p.n ≡ 4 → length xs ≡ 4 → (forward_of p W tw end xs s).0 ≡ four_bins (cell xs 0) (cell xs 1)
  unfolding forward_of forward_run driven alternated result_in ended end_cell tabulate flat
  forward_four e long = shaped forwarded 2 (2 ∷ []) e (use-four p planned e) ∙ ap (postprocess_fft 2 end) (stage_four e xs)
      ∙ ap₂ four_bins (get_paired xs 0 (omega arith)) (get_paired xs 1 (omega arith))

  module _ (room : ℕ) where
    -- the words after the samples
    abbrev rest : List Float
    rest = zeros (room - 2 * p.half)

    -- what inverse leaves, of a half and a count
    abbrev inverted : (h c : ℕ) → List Float
    inverted h c =
        let pad : List Float = pad_of p.half (prepared_of p.half end xs s) in
        (restored h (result_in c) (driven (stage_in p W tw) c (conjugated h (data_of h (prepared_of h end xs s)), pad))).0 ++ rest

    inverse_two : p.n ≡ 2 → (inverse_of p W tw end xs s room).0 ≡ two_samples (cell xs 0) (cell xs 1) ++ rest
    unfolding inverse_of inverse_run prepared_of driven alternated result_in ended end_cell tabulate flat conjugated
    inverse_two e = shaped inverted 1 [] e (use-two p planned e)

    inverse_four : p.n ≡ 4 → (inverse_of p W tw end xs s room).0 ≡ four_samples (cell xs 0) (cell xs 1) (cell xs 2) ++ rest
    unfolding inverse_of inverse_run prepared_of driven alternated result_in ended end_cell tabulate flat conjugated paired
    inverse_four e = shaped inverted 2 (2 ∷ []) e (use-four p planned e)
        ∙ ap (λ (ys : List Float). conjugated 2 ys ++ rest) (stage_four e (conjugated 2 (data_of 2 (prepared_of 2 end xs s))))

-- ---- the numbers

-- one thing for each j below n
abbrev Each : (n : ℕ) → (ℕ → Type 0) → Type 0
Each zero P = Unit
Each (suc n) P = P 0 × Each n (λ j. P (suc j))

each : (n : ℕ) (P : ℕ → Type 0) → Each n P → (j : ℕ) → j < n → P j
each zero P e j l = absurd (omega arith)
each (suc n) P e zero l = e.0
each (suc n) P e (suc j) l = each n (λ i. P (suc i)) e.1 j (le_of_suc-le-suc l)

-- the two parts of a bin as sums, term by term
abbrev turned_sums : (m : ℕ) → Sum × Sum → Sum × Sum
turned_sums zero a = a
turned_sums (suc m) a = ((turned_sums m a).1, minus (turned_sums m a).0)

abbrev term_sums : (n k j : ℕ) → Sum × Sum
term_sums n k zero = (none, none)
term_sums n k (suc i) =
    let a = turned_sums (4 * i * k / n) (at i, none) in
    ((term_sums n k i).0 ⊕ a.0, (term_sums n k i).1 ⊕ a.1)

abbrev bin_sums : (n k : ℕ) → Sum × Sum
bin_sums n k = term_sums n k n

module _ (x : ℕ → ℤ) (xs : List Float) where
  abbrev word : ℕ → Float
  word j = get_or xs j nan

  given : {n : ℕ} → Samples n x xs → (j : ℕ) → j < n → Held x (word j) (at j)
  given g j l = record { whole = g.words j l }

  bins_two : Samples 2 x xs → IsBins 2 x (two_bins (cell xs 0))
  bins_two g k l =
      let s = g.small in let a = given g 0 (lit≤ tt) in let b = given g 1 (lit≤ tt) in let real = (held_zero x).whole in
      let first = held_as (bin_sums 2 0).0 (held_add s a b tt) (omega arith) in
      let last = held_as (bin_sums 2 1).0 (held_sub s a b tt) (omega arith) in
      each 2 (λ k. AreWhole (cell (two_bins (cell xs 0)) k) (bin 2 x k)) ((first, real), ((last, real), tt)) k (suc-le-suc l)

  bins_four : Samples 4 x xs → IsBins 4 x (four_bins (cell xs 0) (cell xs 1))
  bins_four g k l =
      let s = g.small in let a = given g 0 (lit≤ tt) in let b = given g 1 (lit≤ tt) in let c = given g 2 (lit≤ tt) in
      let d = given g 3 (lit≤ tt) in let even = held_add s a c tt in let odd = held_add s b d tt in
      let real = (held_zero x).whole in let first = held_as (bin_sums 4 0).0 (held_add s even odd tt) (omega arith) in
      let re = held_as (bin_sums 4 1).0 (held_add s a (held_neg c) tt) (omega arith) in
      let im = held_as (bin_sums 4 1).1 (held_neg (held_add s b (held_neg d) tt)) (omega arith) in
      let last = held_as (bin_sums 4 2).0 (held_sub s even odd tt) (omega arith) in
      each 3 (λ k. AreWhole (cell (four_bins (cell xs 0) (cell xs 1)) k) (bin 4 x k)) ((first, real), ((re, im), ((last, real), tt))) k (suc-le-suc l)

  -- n times x(j)
  times : (n j : ℕ) {y : Float} {a : Sum} → Held x y a → part x false a + part x true (copies n j) ≡ part x false (copies n j) + part x true a
      → IsWhole y (pos n *ℤ x j)
  times n j {y} v e = subst (IsWhole y) (times_copies x n j) (held_as (copies n j) v e)

  module _ (rest : List Float) where
    samples_two : Small 2 x → IsBins 2 x xs → (j : ℕ) → j < 2 → IsWhole (get_or (two_samples (cell xs 0) (cell xs 1) ++ rest) j nan) (pos 2 *ℤ x j)
    unfolding flat
    samples_two s g =
        let a : Held x (word 0) (bin_sums 2 0).0 = record { whole = (g 0 (lit≤ tt)).0 } in
        let a' : Held x (word 1) none = record { whole = (g 0 (lit≤ tt)).1 } in
        let b : Held x (word 2) (bin_sums 2 1).0 = record { whole = (g 1 (lit≤ tt)).0 } in
        let b' : Held x (word 3) none = record { whole = (g 1 (lit≤ tt)).1 } in
        let y = times 2 0 (held_sub s (held_add s a b tt) (held_add s a' b' tt) tt) (omega arith) in
        let z = times 2 1 (held_neg (held_neg (held_sub s (held_sub s a b tt) (held_sub s a' b' tt) tt))) (omega arith) in
        each 2 (λ j. IsWhole (get_or (two_samples (cell xs 0) (cell xs 1) ++ rest) j nan) (pos 2 *ℤ x j)) (y, (z, tt))

    samples_four : Small 4 x → IsBins 4 x xs → (j : ℕ) → j < 4 → IsWhole (get_or (four_samples (cell xs 0) (cell xs 1) (cell xs 2) ++ rest) j nan) (pos 4
        *ℤ x j)
    unfolding flat
    samples_four s g =
        let a : Held x (word 0) (bin_sums 4 0).0 = record { whole = (g 0 (lit≤ tt)).0 } in
        let a' : Held x (word 1) none = record { whole = (g 0 (lit≤ tt)).1 } in
        let b : Held x (word 2) (bin_sums 4 1).0 = record { whole = (g 1 (lit≤ tt)).0 } in
        let b' : Held x (word 3) (bin_sums 4 1).1 = record { whole = (g 1 (lit≤ tt)).1 } in
        let c : Held x (word 4) (bin_sums 4 2).0 = record { whole = (g 2 (lit≤ tt)).0 } in
        let c' : Held x (word 5) none = record { whole = (g 2 (lit≤ tt)).1 } in
        let even = held_sub s (held_add s a c tt) (held_add s a' c' tt) tt in
        let even' = held_neg (held_sub s (held_sub s a c tt) (held_sub s a' c' tt) tt) in let odd = held_add s b b tt in
        let odd' = held_neg (held_neg (held_add s b' b' tt)) in
        let y = times 4 0 (held_add s even odd tt) (omega arith) in
        let y' = times 4 1 (held_neg (held_add s even' odd' tt)) (omega arith) in
        let z = times 4 2 (held_add s even (held_neg odd) tt) (omega arith) in
        let z' = times 4 3 (held_neg (held_add s even' (held_neg odd') tt)) (omega arith) in
        each 4 (λ j. IsWhole (get_or (four_samples (cell xs 0) (cell xs 1) (cell xs 2) ++ rest) j nan) (pos 4 *ℤ x j)) (y, (y', (z, (z', tt))))

-- ---- both directions

module _ (p : Record) (W : ℕ) (stage end xs s : List Float) (x : ℕ → ℤ) (room : ℕ) where
  -- forward leaves the transform of the samples
  pub forward_whole : Forwardable p W (length xs) room (length s) (length stage) (length end) → Short p.n → Samples p.n x xs
      → IsBins p.n x (forward_of p W stage end xs s).0
  forward_whole t (inl two) g = rw (forward_two p t.planned W stage end xs s two, two) (bins_two x xs (rw two at g))
  forward_whole t (inr four) g = rw (forward_four p t.planned W stage end xs s four (t.samples ∙ four), four) (bins_four x xs (rw four at g))

  -- inverse leaves n times the numbers whose bins it is given
  pub inverse_whole : Invertible p W (length xs) room (length s) (length stage) (length end) → Short p.n → Small p.n x → IsBins p.n x xs
      → (j : ℕ) → j < p.n → IsWhole (get_or (inverse_of p W stage end xs s room).0 j nan) (pos p.n *ℤ x j)
  inverse_whole t (inl two) m g = rw (inverse_two p t.planned W stage end xs s room two, two) (samples_two x xs _ (rw two at m) (rw two at g))
  inverse_whole t (inr four) m g = rw (inverse_four p t.planned W stage end xs s room four, four) (samples_four x xs _ (rw four at m) (rw four at g))
