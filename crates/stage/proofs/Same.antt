-- A stage and a run rest on the twiddles that they read, and on no others. Assumes nothing.
use Rattle.sequences.proofs.Basics.{◌≡◌, refl, sym, ap, ap₂, ◌∙◌, ℕ, zero, suc, ◌+◌, ◌-◌, ◌*◌, ◌/◌, ◌%◌, ◌≤◌, ◌<◌, le_of_lt, arith, Bool, true, false, List}
use Rattle.sequences.proofs.Basics.{eqb, length, get_or, drop, get_or-take, get_or-drop, eqb-true}
use lib.Ieee.{Float, nan}
use Rattle.sequences.proofs.Tables.{tabulate_same}
use Rattle.counts.specs.Counts.{radix, stride, twiddle_count, twiddle_start, result_in}
use Rattle.radices.specs.Lists.{product}
use Rattle.plan.specs.Record.{is_planned}
use Rattle.plan.specs.declared.Record.{Record}
use Rattle.counts.proofs.Counts.{count_later}
use Rattle.schedule.specs.Buffers.{Two, across, alternated, driven, held_in}
use Rattle.schedule.specs.Plans.{in_use}
use Rattle.schedule.specs.Stage.{twiddle_turn, iteration, place as place_of, twiddled_in, read, plain, output, stage_by, stage, run}
use Rattle.schedule.proofs.Buffers.{source_by, source_run, held}
use Rattle.schedule.proofs.Cells.{iteration_lt}
use Rattle.schedule.proofs.Sums.{total_same, plain_same}
use Rattle.schedule.proofs.Plans.{use-parts, use-radix, use-radix-some, use-stride-some}
use Rattle.packing.specs.Places.{place}
use Rattle.floats.specs.declared.complex.Complex.{Complex}
use Rattle.floats.specs.Complexes.{cx, times, cell, paired, flat}
use Rattle.floats.proofs.Flat.{paired_flat, flat_paired}
use Rattle.kernel.specs.Floats.{floats, house_floats, lent_at, stage_of}
use Rattle.packing.proofs.Places.{place_lt}
use Rattle.stage.specs.Runs.{own_of, stage_in, run_of, lent_to, turning, Agree, AgreeAll}

module _ (lent lent' : ℕ → ℕ → ℕ → Complex) (j h n s r : ℕ) (parts : h ≡ n * (s * r)) (ps : 0 < s) (pr : 0 < r)
    (agree : 1 ≤ j → Agree (h / r) r (lent j) (lent' j)) where
  read_agree : (c : ℕ → Complex) (i q : ℕ) → i < h / r → q < r → read (floats lent) j (h / r) s r c i q ≡ read (floats lent') j (h / r) s r c i q
  unfolding read twiddled_in floats
  read_agree c i zero li lq = refl
  read_agree c i (suc q) li lq = go j agree
    where
      go : (j : ℕ) → (1 ≤ j → Agree (h / r) r (lent j) (lent' j))
          → twiddled_in (floats lent) j i (suc q) (twiddle_turn s r i (suc q)) (c (i + suc q * (h / r))) ≡ twiddled_in (floats lent') j i (suc q)
          (twiddle_turn s r i (suc q)) (c (i + suc q * (h / r)))
      go zero f = refl
      go (suc j) f = ap (times (c (i + suc q * (h / r)))) (f (omega arith) i (suc q) li (omega arith) lq)

  pub stage_agree : (xs : List Complex) → stage_by plain (floats lent) j h s r xs ≡ stage_by plain (floats lent') j h s r xs
  unfolding stage_by output floats
  stage_agree xs = tabulate_same h 0 _ _ (λ k l.
      let lk : 0 + k < h = omega arith in
      plain_same (floats lent) (floats lent') (λ u w. refl) r _ _ (place_of s r (0 + k)) pr
      (λ q lq. (read_agree _ (iteration s r (0 + k)) q (iteration_lt s r (0 + k) ps pr h n parts lk) lq, λ z. refl)))

-- ---- lent the words of its own turns, a stage is the schedule with the house table's turns

module _ (h : ℕ) (rs : List ℕ) where
  read_housed : (j M : ℕ) (c : ℕ → Complex) (i q : ℕ) → read (floats (turning rs)) j M (stride rs j) (radix rs j) c i q ≡ read house_floats j M (stride rs j)
      (radix rs j) c i q
  unfolding read twiddled_in floats house_floats
  read_housed j M c i zero = refl
  read_housed zero M c i (suc q) = refl
  read_housed (suc j) M c i (suc q) = refl

  pub stage_housed : (j : ℕ) (xs : List Complex) → stage plain (floats (turning rs)) h rs j xs ≡ stage plain house_floats h rs j xs
  unfolding stage stage_by output plain floats house_floats
  stage_housed j xs = tabulate_same h 0 _ _ (λ k l.
      total_same (floats (turning rs)) house_floats (λ u w. refl) (radix rs j) _ _ (place_of (stride rs j) (radix rs j) (0 + k)) (radix rs j - 1)
      (λ q lq. (read_housed j (h / radix rs j) _ (iteration (stride rs j) (radix rs j) (0 + k)) q, λ z. refl)))

  pub run_housed : (j : ℕ) (xs : List Complex) → run plain (floats (turning rs)) h rs j xs ≡ run plain house_floats h rs j xs
  unfolding run
  run_housed zero xs = refl
  run_housed (suc j) xs = stage_housed j (run plain (floats (turning rs)) h rs j xs) ∙ ap (stage plain house_floats h rs j) (run_housed j xs)

-- ---- a plan

module _ (p : Record) (e : is_planned p ≡ true) where
  -- of stage j
  abbrev M : ℕ → ℕ
  M j = p.half / radix (in_use p) j

  pub plan_agree : (lent lent' : ℕ → ℕ → ℕ → Complex) (j : ℕ) → j < p.count → (1 ≤ j → Agree (M j) (radix (in_use p) j) (lent j) (lent' j))
      → (xs : List Complex)
      → stage plain (floats lent) p.half (in_use p) j xs ≡ stage plain (floats lent') p.half (in_use p) j xs
  unfolding stage
  plan_agree lent lent' j l agree xs =
      stage_agree lent lent' j p.half (product (drop (suc j) (in_use p))) (stride (in_use p) j) (radix (in_use p) j) (use-parts p e j l)
      (use-stride-some p e j l) (use-radix-some p e j l) agree xs

  pub run_agree : (lent lent' : ℕ → ℕ → ℕ → Complex) → AgreeAll p lent lent' → (xs : List Complex) (j : ℕ) → j ≤ p.count
      → run plain (floats lent) p.half (in_use p) j xs ≡ run plain (floats lent') p.half (in_use p) j xs
  unfolding run
  run_agree lent lent' agree xs zero l = refl
  run_agree lent lent' agree xs (suc j) l =
      plan_agree lent lent' j l (λ later. agree j later l) _ ∙ ap (stage plain (floats lent') p.half (in_use p) j)
      (run_agree lent lent' agree xs j (le_of_lt l))

  -- ---- the twiddles of one stage among those of all

  -- a later stage has r - 1 for each iteration
  pub own_count : (j : ℕ) → 1 ≤ j → j < p.count → M j * (radix (in_use p) j - 1) ≡ twiddle_count p.half p.radices j
  own_count j later l = rw (use-radix p e j l) (count_later p e j (λ z. omega arith) l)

  module _ (W : ℕ) (width : 0 < W) (tw : List Float) where
    own_word : (j w : ℕ) → w < 2 * twiddle_count p.half p.radices j
        → get_or (own_of p tw j) w nan ≡ get_or tw (2 * twiddle_start p.half p.radices j + w) nan
    own_word j w l = get_or-take _ _ w nan l ∙ get_or-drop (2 * twiddle_start p.half p.radices j) tw w nan

    own_cell : (j n : ℕ) → n < twiddle_count p.half p.radices j → cell (own_of p tw j) n ≡ cell tw (twiddle_start p.half p.radices j + n)
    own_cell j n l = ap₂ cx
        (own_word j (2 * n) (omega arith) ∙ ap (λ (k : ℕ). get_or tw k nan) {x = 2 * twiddle_start p.half p.radices j + 2 * n} {y =
        2 * (twiddle_start p.half p.radices j + n)} (omega arith))
        (own_word j (2 * n + 1) (omega arith) ∙ ap (λ (k : ℕ). get_or tw k nan) {x = 2 * twiddle_start p.half p.radices j + (2 * n + 1)} {y =
        2 * (twiddle_start p.half p.radices j + n) + 1} (omega arith))

    pub own_lent : (j : ℕ) → 1 ≤ j → j < p.count → Agree (M j) (radix (in_use p) j) (lent_at (M j) (radix (in_use p) j) W (own_of p tw j)) (lent_to p W tw j)
    own_lent j later l i q li first last =
        let r = radix (in_use p) j in
        own_cell j (place (M j) r W i q) (rw (← own_count j later l) (place_lt (M j) r W i q width li first last))

    -- a stage of a run is the schedule's, with the lent twiddles
    pub stage_lent : (j : ℕ) → j < p.count → (xs : List Float)
        → stage_in p W tw j xs ≡ flat (stage plain (floats (lent_to p W tw)) p.half (in_use p) j (paired xs))
    unfolding stage_of
    stage_lent j l xs = ap flat (plan_agree (λ k. lent_at (M j) (radix (in_use p) j) W (own_of p tw j)) (lent_to p W tw) j l (λ later. own_lent j later l)
        (paired xs))

    -- ---- both buffers, word by word and cell by cell

    abbrev flat_two : Two Complex → Two Float
    flat_two b = (flat b.0, flat b.1)

    flat_across : (j : ℕ) → j < p.count → (t : Bool) (b : Two Complex)
        → across t (stage_in p W tw j) (flat_two b) ≡ flat_two (across t (stage plain (floats (lent_to p W tw)) p.half (in_use p) j) b)
    flat_across j l t b = go t
      where
        made : (zs : List Complex) → stage_in p W tw j (flat zs) ≡ flat (stage plain (floats (lent_to p W tw)) p.half (in_use p) j zs)
        made zs = stage_lent j l (flat zs) ∙ ap (λ (us : List Complex). flat (stage plain (floats (lent_to p W tw)) p.half (in_use p) j us)) (paired_flat zs)

        go : (t : Bool) → across t (stage_in p W tw j) (flat_two b) ≡ flat_two (across t (stage plain (floats (lent_to p W tw)) p.half (in_use p) j) b)
        go true = ap (λ (ys : List Float). (flat b.0, ys)) (made b.0)
        go false = ap (λ (ys : List Float). (ys, flat b.1)) (made b.1)

    flat_alternated : (b : Two Complex) (k : ℕ) → k ≤ p.count
        → alternated (stage_in p W tw) k (flat_two b) ≡ flat_two (alternated (stage plain (floats (lent_to p W tw)) p.half (in_use p)) k b)
    unfolding alternated
    flat_alternated b zero l = refl
    flat_alternated b (suc k) l =
        ap (across (eqb (k % 2) 0) (stage_in p W tw k)) (flat_alternated b k (le_of_lt l))
        ∙ flat_across k l (eqb (k % 2) 0) (alternated (stage plain (floats (lent_to p W tw)) p.half (in_use p)) k b)

    flat_source : (t : Bool) (b : Two Complex) → source_by t (flat_two b) ≡ flat (source_by t b)
    flat_source true b = refl
    flat_source false b = refl

    -- the result of a run is what the schedule's last stage makes, with the lent twiddles
    pub run_lent : (xs ys : List Float) → length xs ≡ 2 * p.half → length ys ≡ 2 * p.half
        → held_in (result_in p.count) (run_of p W tw (xs, ys)) ≡ flat (run plain (floats (lent_to p W tw)) p.half (in_use p) p.count (paired xs))
    unfolding driven result_in
    run_lent xs ys lx ly =
        let b : Two Complex = (paired xs, paired ys) in
        let same : ◌≡◌ {A = Two Float} (xs, ys) (flat_two b) = λ i. (sym (flat_paired p.half xs lx) i, sym (flat_paired p.half ys ly) i) in
        let u : Bool = eqb (p.count % 2) 0 in
        held (eqb p.count 1) u (alternated (stage_in p W tw) p.count (xs, ys)) (λ t. ap (λ (n : ℕ). eqb (n % 2) 0) (eqb-true p.count 1 t))
        ∙ ap (λ (c : Two Float). source_by u (alternated (stage_in p W tw) p.count c)) same ∙ ap (source_by u) (flat_alternated b p.count (omega arith))
        ∙ flat_source u (alternated (stage plain (floats (lent_to p W tw)) p.half (in_use p)) p.count b)
        ∙ ap flat (source_run plain (floats (lent_to p W tw)) p.half (in_use p) b p.count)
