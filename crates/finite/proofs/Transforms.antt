-- Every number that forward and inverse write is finite: the steps of both directions, with a bound on what is read. Assumes nothing.
use Rattle.sequences.proofs.Basics.{◌≡◌, refl, sym, ap, ◌∙◌, subst, ℕ, zero, suc, ◌+◌, ◌-◌, ◌*◌, ◌/◌, ◌≤◌, ◌<◌, arith, dec_le, true, List, [], ◌∷◌}
use Rattle.sequences.proofs.Basics.{◌++◌, length}
use Rattle.sequences.proofs.Basics.{get_or, drop, length-append, length-drop, get_or-append, get_or-append-add, get_or-take, get_or-drop, length-take-le}
use lib.Ieee.{Float, nan}
use Rattle.sequences.proofs.Tables.{length_tabulate, get_d_tabulate}
use Rattle.counts.specs.Counts.{radix, twiddle_count, twiddle_start, stage_twiddles, end_count, result_in}
use Rattle.radices.specs.Lists.{product}
use Rattle.plan.specs.Record.{is_planned}
use Rattle.counts.specs.declared.Buffer.{Buffer}
use Rattle.counts.specs.declared.Buffer.TheVariants.{Data, Scratchpad}
use Rattle.plan.specs.declared.Record.{Record}
use Rattle.plan.proofs.Bounds.{plan_order, plan_half, plan_twice}
use Rattle.counts.proofs.Counts.{count_later, pairs_lent}
use Rattle.schedule.specs.Buffers.{Two, driven, held_in}
use Rattle.schedule.specs.Plans.{in_use}
use Rattle.schedule.proofs.Buffers.{driven_none}
use Rattle.schedule.proofs.Plans.{use-length, use-product, use-radix}
use Rattle.turn.specs.Turns.{+0}
use Rattle.packing.specs.Places.{place}
use Rattle.packing.proofs.Widths.{width_bounds}
use Rattle.floats.specs.Complexes.{cell}
use Rattle.packing.proofs.Places.{place_lt}
use Rattle.stage.specs.Runs.{stage_in, run_of, lent_to}
use Rattle.stage.proofs.Runs.{own_within}
use Rattle.mixing.specs.Steps.{fft_steps, ifft_steps}
use Rattle.ends.specs.Ends.{end_cell, end_lent, ended, preprocess_ifft, conjugated, zeros}
use Rattle.ends.proofs.Cells.{length_ended, length_conjugated}
use Rattle.scratch.specs.Scratch.{data_of, pad_of}
use Rattle.scratch.proofs.Scratch.{data_length, pad_length, both_data, both_pad}
use Rattle.transform.specs.Parts.{Forwardable, Invertible}
use Rattle.transform.specs.Transforms.{forward_run, forward_of, prepared_of, inverse_run, restored, inverse_of}
use Rattle.transform.proofs.Stages.{run_long}
use Rattle.transform.proofs.Transforms.{held_long}
use Rattle.finite.specs.Sizes.{AtMost, Both, Words}
use Rattle.finite.proofs.Ends.{zero_most, fft_cell, ifft_cell, tabulated_words, conjugated_words}
use Rattle.finite.proofs.Stages.{Ones}
use Rattle.finite.proofs.Words.{cell_both, run_words}

-- ---- two rows joined

module _ (k : ℕ) (xs ys : List Float) (w : Words k (xs ++ ys)) where
  pub front_words : Words k xs
  front_words i l = subst (AtMost 1 k) (get_or-append xs ys nan i l) (w i (omega (arith, length-append xs ys)))

  pub back_words : Words k ys
  back_words i l = subst (AtMost 1 k) (get_or-append-add xs ys i nan) (w (length xs + i) (omega (arith, length-append xs ys)))

-- ---- lent twiddles

-- those of the stages are at most 1
pub lent_ones : (p : Record) → is_planned p ≡ true → (W : ℕ) → 0 < W → (tw : List Float) → length tw ≡ 2 * stage_twiddles p → Words 0 tw → Ones p (lent_to
    p W tw)
lent_ones p planned W some tw long w j later known i q li first last =
    let M = p.half / radix (in_use p) j in let below = place_lt M (radix (in_use p) j) W i q some li first last in
    let count : M * (radix (in_use p) j - 1) ≡ twiddle_count p.half p.radices j =
    rw (use-radix p planned j known) (count_later p planned j (λ z. omega arith) known) in
    cell_both 0 tw w (twiddle_start p.half p.radices j + place M (radix (in_use p) j) W i q) (omega (arith, below, count, own_within p j known, long))

-- and those of the ends
pub end_ones : (p : Record) → is_planned p ≡ true → (end : List Float) → length end ≡ 2 * end_count p.n → Words 0 end → (q : ℕ) → 0 < q → 2 * q < p.half
    → Both 1 0 (end_lent end q)
end_ones p planned end long w q first l =
    let many : q ≤ end_count p.n = rw (plan_twice p planned) (pairs_lent p.half q l) in
    cell_both 0 end w (q - 1) (omega (arith, many, long))

-- ---- a result

-- what is held in either of two buffers, the second of which may not be written where there is no stage
held_words : (k count : ℕ) (b : Two Float) → Words k b.0 → (0 < count → Words k b.1) → Words k (held_in (result_in count) b)
unfolding result_in
held_words k zero b v w = v
held_words k (suc count) b v w = go (result_in (suc count))
  where
    go : (which : Buffer) → Words k (held_in which b)
    go Data = v
    go Scratchpad = w (omega arith)

-- ---- forward

module _ (p : Record) (W k : ℕ) (stage end xs s : List Float) (no : ℕ) (t : Forwardable p W (length xs) no (length s) (length stage) (length end))
    (few : k ≤ 56)
    (wx : Words k xs) (ws : Words 0 stage) (we : Words 0 end) where
  -- what the stages leave
  abbrev ran : Two Float
  ran = run_of p W stage (xs, pad_of p.half s)

  long : length xs ≡ 2 * p.half
  long = t.samples ∙ plan_twice p t.planned

  ran_words : Words (k + 5 * p.count) ran.0 × (0 < p.count → Words (k + 5 * p.count) ran.1)
  ran_words =
      run_words p t.planned W (width_bounds W t.width).0 stage (lent_ones p t.planned W (width_bounds W t.width).0 stage t.stages ws) k
      (xs, pad_of p.half s) long (pad_length p.half s t.room) wx
      (omega (arith, (plan_order p t.planned).few))

  pub forward_words : Words (k + 5 * p.count + 3) (forward_of p W stage end xs s).0
  unfolding forward_of forward_run ended
  forward_words =
      let Z : List Float = held_in (result_in p.count) ran in
      let wz : Words (k + 5 * p.count) Z = held_words (k + 5 * p.count) p.count ran ran_words.0 ran_words.1 in
      let lens = run_long p W stage (xs, pad_of p.half s) long (pad_length p.half s t.room) in
      let lz : length Z ≡ 2 * p.half = held_long (2 * p.half) (result_in p.count) ran lens.0 lens.1 in
      let room : k + 5 * p.count ≤ 121 = omega (arith, (plan_order p t.planned).few) in
      tabulated_words (k + 5 * p.count + 3) (p.half + 1) (end_cell fft_steps p.half (cell Z) (end_lent end)) (λ j l.
      fft_cell (k + 5 * p.count) room p.half (plan_half p t.planned).0 (cell Z) (end_lent end) (end_ones p t.planned end t.ends we)
      (λ i li. cell_both (k + 5 * p.count) Z wz i (omega (arith, lz))) j (omega arith))

  -- Data and, where there is a stage, the Scratchpad
  pub forward_scratch : Words (k + 5 * p.count) (data_of p.half (forward_of p W stage end xs s).1)
      × (0 < p.count → Words (k + 5 * p.count) (pad_of p.half (forward_of p W stage end xs s).1))
  unfolding forward_of forward_run
  forward_scratch =
      let lens = run_long p W stage (xs, pad_of p.half s) long (pad_length p.half s t.room) in (
        subst (Words (k + 5 * p.count)) (sym (both_data p.half ran s lens.0 lens.1)) ran_words.0,
        λ some. subst (Words (k + 5 * p.count)) (sym (both_pad p.half ran s lens.0 lens.1)) (ran_words.1 some),
      )

-- ---- inverse

-- no radix makes 1
no_radices : (rs : List ℕ) → length rs ≡ 0 → product rs ≡ 1
unfolding product
no_radices [] e = refl
no_radices (r ∷ rs) e = absurd (omega arith)

-- two rows, one after the other
pub joined_words : (k : ℕ) (xs ys : List Float) → Words k xs → Words k ys → Words k (xs ++ ys)
joined_words k xs ys v w i l = pick (dec_le (length xs) i)
  where
    pick : Dec (length xs ≤ i) → AtMost 1 k (get_or (xs ++ ys) i nan)
    pick (yes a) =
        let e : length xs + (i - length xs) ≡ i = omega arith in
        subst (λ (n : ℕ). AtMost 1 k (get_or (xs ++ ys) n nan)) e (subst (AtMost 1 k) (sym (get_or-append-add xs ys (i - length xs) nan))
        (w (i - length xs) (omega (arith, l, length-append xs ys))))
    pick (no a) = subst (AtMost 1 k) (sym (get_or-append xs ys nan i (omega (arith, a)))) (v i (omega (arith, a)))

-- nothing but +0
zeros_words : (k n : ℕ) → Words k (zeros n)
zeros_words k n i l = subst (AtMost 1 k) (sym (get_d_tabulate n 0 (λ j. +0) i nan (rw (length_tabulate n 0 (λ j. +0)) at l))) (zero_most 1 k)

-- the conjugates of a row of cells
row_words : (k h : ℕ) (xs : List Float) → length xs ≡ 2 * h → Words k xs → Words k (conjugated h xs)
row_words k h xs e w = conjugated_words k h xs (λ j l. cell_both k xs w j (omega arith))

module _ (p : Record) (W k : ℕ) (stage end xs s : List Float) (room : ℕ) (t : Invertible p W (length xs) room (length s) (length stage) (length end))
    (few : k ≤ 53)
    (wx : Words k xs) (ws : Words 0 stage) (we : Words 0 end) where
  prepared_words : Words (k + 3) (preprocess_ifft p.half end xs)
  unfolding ended
  prepared_words = tabulated_words (k + 3) (p.half + 1) (end_cell ifft_steps p.half (cell xs) (end_lent end)) (λ j l.
      ifft_cell k (omega arith) p.half (plan_half p t.planned).0 (cell xs) (end_lent end) (end_ones p t.planned end t.ends we)
      (λ i li. cell_both k xs wx i (omega (arith, t.bins))) j (omega arith))

  -- what the stages start from
  abbrev q : List Float
  q = prepared_of p.half end xs s

  data_words : Words (k + 3) (data_of p.half q)
  unfolding prepared_of
  data_words i l =
      let pre : List Float = preprocess_ifft p.half end xs in let rest : List Float = drop (2 * (p.half + 1)) s in
      let size : length pre ≡ 2 * (p.half + 1) = length_ended ifft_steps p.half end xs in
      let long : 2 * p.half ≤ length (pre ++ rest) = omega (arith, length-append pre rest, size) in
      let small : i < 2 * p.half = rw (length-take-le (2 * p.half) (pre ++ rest) long) at l in
      subst (AtMost 1 (k + 3)) (sym (get_or-take (2 * p.half) (pre ++ rest) i nan small ∙ get_or-append pre rest nan i (omega (arith, size, small))))
      (prepared_words i (omega (arith, size, small)))

  q_long : length q ≡ length s
  unfolding prepared_of
  q_long = length-append (preprocess_ifft p.half end xs) (drop (2 * (p.half + 1)) s)
      ∙ omega (arith, length_ended ifft_steps p.half end xs, length-drop (2 * (p.half + 1)) s, t.room, plan_half p t.planned)

  abbrev started : Two Float
  started = (conjugated p.half (data_of p.half q), pad_of p.half q)

  pad_long : length (pad_of p.half q) ≡ 2 * p.half
  pad_long = pad_length p.half q (rw q_long t.room)

  -- what is beyond Data: with no stage, the last of two bins
  pad_words : p.count ≡ 0 → Words (k + 3) (pad_of p.half q)
  unfolding prepared_of
  pad_words none i l =
      let pre : List Float = preprocess_ifft p.half end xs in let rest : List Float = drop (2 * (p.half + 1)) s in
      let one : p.half ≡ 1 = use-product p t.planned ∙ no_radices (in_use p) (use-length p t.planned ∙ none) in
      let size : length pre ≡ 2 * (p.half + 1) = length_ended ifft_steps p.half end xs in
      let small : i < 2 * p.half = rw pad_long at l in
      subst (AtMost 1 (k + 3)) (sym (get_or-take (2 * p.half) (drop (2 * p.half) (pre ++ rest)) i nan small ∙ get_or-drop (2 * p.half) (pre ++ rest) i nan
      ∙ get_or-append pre rest nan (2 * p.half + i) (omega (arith, size, small, one))))
      (prepared_words (2 * p.half + i) (omega (arith, size, small, one)))

  -- both buffers after the stages
  back_words_of : Words (k + 3 + 5 * p.count) (run_of p W stage started).0 × Words (k + 3 + 5 * p.count) (run_of p W stage started).1
  back_words_of = (ran.0, go p.count refl)
    where
      ran : Words (k + 3 + 5 * p.count) (run_of p W stage started).0 × (0 < p.count → Words (k + 3 + 5 * p.count) (run_of p W stage started).1)
      ran =
          run_words p t.planned W (width_bounds W t.width).0 stage (lent_ones p t.planned W (width_bounds W t.width).0 stage t.stages ws)
          (k + 3) started (length_conjugated p.half (data_of p.half q)) pad_long
          (row_words (k + 3) p.half (data_of p.half q) (data_length p.half q (rw q_long t.room)) data_words)
          (omega (arith, (plan_order p t.planned).few))

      go : (n : ℕ) → p.count ≡ n → Words (k + 3 + 5 * p.count) (run_of p W stage started).1
      go zero e =
          let same : run_of p W stage started ≡ started = ap (λ (n : ℕ). driven (stage_in p W stage) n started) e ∙ driven_none (stage_in p W stage) started in
          let more : k + 3 ≡ k + 3 + 5 * p.count = omega arith in
          subst (λ (b : Two Float). Words (k + 3 + 5 * p.count) b.1) (sym same) (subst (λ (n : ℕ). Words n (pad_of p.half q)) more (pad_words e))
      go (suc n) e = ran.1 (omega arith)

  -- what is restored, in both buffers
  both_restored : (which : Buffer) (b : Two Float) → length b.0 ≡ 2 * p.half → length b.1 ≡ 2 * p.half → Words (k + 3 + 5 * p.count) b.0
      → Words (k + 3 + 5 * p.count) b.1
      → (length (restored p.half which b).0 ≡ 2 * p.half) × (length (restored p.half which b).1 ≡ 2 * p.half)
      × Words (k + 3 + 5 * p.count) (restored p.half which b).0 × Words (k + 3 + 5 * p.count) (restored p.half which b).1
  both_restored Data b l m v w = (length_conjugated p.half b.0, m, row_words (k + 3 + 5 * p.count) p.half b.0 l v, w)
  both_restored Scratchpad b l m v w =
      let u = row_words (k + 3 + 5 * p.count) p.half b.1 m w in
      (length_conjugated p.half b.1, length_conjugated p.half b.1, u, u)

  -- what is restored of the run
  restored_words : (length (restored p.half (result_in p.count) (run_of p W stage started)).0 ≡ 2 * p.half)
      × (length (restored p.half (result_in p.count) (run_of p W stage started)).1 ≡ 2 * p.half)
      × Words (k + 3 + 5 * p.count) (restored p.half (result_in p.count) (run_of p W stage started)).0
      × Words (k + 3 + 5 * p.count) (restored p.half (result_in p.count) (run_of p W stage started)).1
  restored_words =
      let lens = run_long p W stage started (length_conjugated p.half (data_of p.half q)) pad_long in
      both_restored (result_in p.count) (run_of p W stage started) lens.0 lens.1 back_words_of.0 back_words_of.1

  pub inverse_words : Words (k + 3 + 5 * p.count) (inverse_of p W stage end xs s room).0
  unfolding inverse_of inverse_run
  inverse_words =
      joined_words (k + 3 + 5 * p.count) (restored p.half (result_in p.count) (run_of p W stage started)).0 (zeros (room - 2 * p.half))
      restored_words.2
      (zeros_words (k + 3 + 5 * p.count) (room - 2 * p.half))

  pub inverse_scratch : Words (k + 3 + 5 * p.count) (data_of p.half (inverse_of p W stage end xs s room).1)
      × Words (k + 3 + 5 * p.count) (pad_of p.half (inverse_of p W stage end xs s room).1)
  unfolding inverse_of inverse_run
  inverse_scratch =
      let b : Two Float = restored p.half (result_in p.count) (run_of p W stage started) in
      let r = restored_words in (
        subst (Words (k + 3 + 5 * p.count)) (sym (both_data p.half b s r.0 r.1)) r.2,
        subst (Words (k + 3 + 5 * p.count)) (sym (both_pad p.half b s r.0 r.1)) r.3,
      )
