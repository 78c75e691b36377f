-- A run of the schedule's stages in f32 against the transform: each stage adds a stated error. Assumes nothing.
use Rattle.sequences.proofs.Basics.{◌≡◌, refl, sym, ap, ap₂, ◌∙◌, subst, subst₂, ℕ, zero, suc, ◌+◌, ◌-◌, ◌*◌, ◌/◌, ◌%◌, ◌^◌, ◌≤◌, ◌<◌, zero-le, le_refl}
use Rattle.sequences.proofs.Basics.{le_trans, le_of_eq, le_of_lt, mul-le-mul_left, mul-le-mul_right, mul-le-mul, mod-lt, zero-add, add-zero, mul-zero, zero-mul}
use Rattle.sequences.proofs.Basics.{zero-mod, le-add_left, lt_of_lt_of_le, div-mul-le_self, div_self, div-one, arith, List, lit≤, lit<, length, get_or, drop}
use Rattle.sequences.proofs.Basics.{pow_pos, digits_lt, digits_mod}
use lib.Ieee.{binary32}
use Rattle.sequences.proofs.Tables.{get_d_tabulate}
use Rattle.counts.specs.Counts.{stride, radix}
use Rattle.radices.specs.Lists.{product}
use Rattle.counts.proofs.Counts.{stride_none}
use Rattle.schedule.specs.Stage.{twiddle_turn, kernel_turn, twiddled_in, read as read_of, total as total_of, plain, output, stage_by, stage, run}
use Rattle.schedule.specs.Stage.{iteration, place}
use Rattle.schedule.proofs.Cells.{pos_left, pos_right, by_stride, by_radix, by_both, iteration_block, place_block}
use Rattle.schedule.proofs.Strides.{stride_suc, stride_drop, stride_length}
use Rattle.turn.specs.Calls.{part}
use Rattle.turn.specs.Turns.{turn_of}
use Rattle.turn.specs.declared.Turn.{Turn}
use Rattle.floats.specs.Complexes.{blank}
use Rattle.floats.specs.declared.complex.Complex.{Complex}
use Rattle.kernel.specs.Floats.{floats}
use Rattle.accuracy.specs.Gauss.{Gauss, zero_g, plus_g, times_g, scale_g, Disc, Off, val_c, sum_g}
use Rattle.accuracy.specs.Value.{Held}
use Rattle.accuracy.proofs.Blocks.{step, block_turned, indices}
use Rattle.accuracy.proofs.Dft.{sum_n, dft, block_g, weight}
use Rattle.accuracy.proofs.Floats.{plus_c, mul_c, turned_c}
use Rattle.accuracy.proofs.Plane.{Same, off_eq, off_zero, off_more, off_sym, disc_near, disc_unscale, disc_more, disc_times}
use Rattle.accuracy.proofs.Rounds.{Around}
use Rattle.accuracy.proofs.Sums.{sum_equal, sum_digits, disc_sum, sum_n_times, sum_n_digits, sum_n_equal, sum_n_least, sum_n_term}
use Rattle.accuracy.proofs.Terms.{τ, κ, added, added_off, first_off, second_off}
use Rattle.accuracy.proofs.Turning.{same_one}
use Rattle.accuracy.proofs.Turns.{Turns, Close, Faithful}

-- ---- numbers
index_lt : (b n q r u s : ℕ) → b < n → q < r → u < s → b + q * n + n * r * u < n * (s * r)
index_lt b n q r u s lb lq lu = omega (arith, digits_lt (digits_lt lu lq) lb)

few_parts : (p h n s r N i q t : ℕ) → h ≡ n * (s * r) → p * h ≡ N → N ≤ 2 ^ 13 → i < s → q < r → t < r → p * (i * q * n) + p * (t * (n * s)) ≤ 2 ^ 14
few_parts p h n s r N i q t parts circle small li lq lt =
    let a : i * q ≤ s * r = mul-le-mul (le_of_lt li) (le_of_lt lq) in
    let b : p * n * (i * q) ≤ p * n * (s * r) = mul-le-mul_left (p * n) a in
    let c : p * n * s * t ≤ p * n * s * r = mul-le-mul_left (p * n * s) (le_of_lt lt) in
    let e : p * (n * (s * r)) ≡ N = rw (← parts) circle in
    omega arith

pub cell_size : (A E : ℕ) → E ≤ 2 ^ 66 → E * A + (2 ^ 60 + 1) * 2 ^ 20 * A ≤ 2 ^ 60 * ((2 ^ 20 + 2 ^ 7) * A)
cell_size A E h = omega (arith, mul-le-mul_right A h)

-- ---- a kernel's sum is the sum of its terms

-- the turn by t of r parts
abbrev kernel : ℕ → ℕ → Turn
kernel t r = turn_of (part t r)

module _ (lent : ℕ → ℕ → ℕ → Complex) (j M s r : ℕ) (c : ℕ → Complex) (i p : ℕ) where
  terms : ℕ → Complex
  terms zero = c i
  terms (suc q) = turned_c (kernel (p * suc q % r) r) (twiddled_in (floats lent) j i (suc q) (twiddle_turn s r i (suc q)) (c (i + suc q * M)))

  total_added : (q : ℕ) → total_of (floats lent) r (read_of (floats lent) j M s r c i) p q ≡ added terms q
  unfolding total_of added terms floats kernel_turn read_of plus_c turned_c
  total_added zero = refl
  total_added (suc q) = ap (λ (z : Complex). plus_c z (terms (suc q))) (total_added q)

  output_added : output plain (floats lent) j M s r c i p ≡ added terms (r - 1)
  unfolding output plain
  output_added = total_added (r - 1)

module _ (N : ℕ) (W : ℕ → Gauss) (turns : Turns (2 ^ 60) N W) (p h : ℕ) (circle : p * h ≡ N) (circle-small : N ≤ 2 ^ 13) (lent : ℕ → ℕ → ℕ → Complex) where
  -- output p of iteration i of stage j
  abbrev made : (j M s r : ℕ) → (ℕ → Complex) → (i p : ℕ) → Complex
  made j M s r c i p = output plain (floats lent) j M s r c i p

  -- The cells c hold the block sums of x at stride S, within E for each weight.
  abbrev pub Accurate : (E S : ℕ) → (ℕ → Gauss) → (ℕ → ℕ) → (ℕ → Complex) → Type 0
  Accurate E S x a c =
      (b k : ℕ) → b < h / S → k < S → Held binary32 (c (b * S + k)).re × Held binary32 (c (b * S + k)).im
      × Off (E * weight h a S b) (scale_g (2 ^ 60) (val_c (c (b * S + k)))) (block_g W p h x S b k)

  -- the twiddles of stage j, at stride s: none in the first
  abbrev Twiddles : ℕ → (s n : ℕ) → Type 0
  Twiddles zero s n = s ≡ 1
  Twiddles (suc j) s n = (i q : ℕ) → Close (W (p * (i % s * q * n))) (lent (suc j) i q)

  module _ (n s r : ℕ) (parts : h ≡ n * (s * r)) (ps : 0 < s) (pr : 0 < r) (eight : r ≤ 8) (j : ℕ)
      (faithful : (t : ℕ) → t < r → Faithful (W (p * (t * (n * s)))) (kernel t r)) (twiddles : Twiddles j s n)
      (x : ℕ → Gauss) (a : ℕ → ℕ) (sized : (u : ℕ) → u < h → Disc (2 ^ 20 * a u) (x u)) (least : (u : ℕ) → u < h → 2 ^ 20 ≤ a u) (total : sum_n h a ≤ 2 ^ 220)
      (E : ℕ) (fine : E ≤ 2 ^ 66) (c : ℕ → Complex) (before : Accurate E s x a c) (b k : ℕ) (lb : b < n) (lk : k < s * r) where
    abbrev i : ℕ
    i = b * s + k % s

    z : ℕ → Complex
    z q = c (i + q * (h / r))

    A : ℕ → ℕ
    A q = sum_n s (λ u. a (b + q * n + n * r * u))

    X : ℕ → ℕ → Gauss
    X q u = x (b + q * n + n * r * u)

    T : ℕ → Gauss
    T q = sum_g s (λ u. times_g (X q u) (W (p * (n * r * u * (k % s)))))

    v : ℕ → ℕ
    v q = p * (k % s * q * n) + p * (k / s * q % r * (n * s))

    few : (q : ℕ) → q < r → v q ≤ 2 ^ 14
    unfolding v
    few q lq = few_parts p h n s r N (k % s) q (k / s * q % r) parts circle circle-small (mod-lt k ps) lq (mod-lt (k / s * q) pr)

    -- what the cells hold
    read : (q : ℕ) → q < r → Held binary32 (z q).re × Held binary32 (z q).im × Off (E * A q) (scale_g (2 ^ 60) (val_c (z q))) (T q)
    unfolding z A T X block_g weight
    read q lq =
        let same : b * s + k % s + q * (h / r) ≡ (b + q * n) * s + k % s = rw (by_radix h n s r parts ps pr) (omega arith) in
        let fits : b + q * n < h / s = rw (by_stride h n s r parts ps pr) (omega (arith, digits_lt lq lb)) in
        subst₂
        (λ (g l : ℕ). Held binary32 (c l).re × Held binary32 (c l).im
        × Off (E * sum_n s (λ u. a (b + q * n + g * u))) (scale_g (2 ^ 60) (val_c (c l)))
        (sum_g s (λ u. times_g (x (b + q * n + g * u)) (W (p * (g * u * (k % s)))))))
        (by_stride h n s r parts ps pr) (sym same) (before (b + q * n) (k % s) fits (mod-lt k ps))

    inside : (q u : ℕ) → q < r → u < s → b + q * n + n * r * u < h
    inside q u lq lu = rw parts (index_lt b n q r u s lb lq lu)

    A_least : (q : ℕ) → q < r → 2 ^ 20 ≤ A q
    unfolding A
    A_least q lq = sum_n_least s (λ u. a (b + q * n + n * r * u)) (2 ^ 20) ps (λ u lu. least (b + q * n + n * r * u) (inside q u lq lu))

    T_size : (q : ℕ) → q < r → Disc ((2 ^ 60 + 1) * 2 ^ 20 * A q) (T q)
    unfolding A T X
    T_size q lq = disc_more _ _ _ (le_of_eq (sum_n_times s (λ u. a (b + q * n + n * r * u)) ((2 ^ 60 + 1) * 2 ^ 20)))
        (disc_sum s (λ u. (2 ^ 60 + 1) * 2 ^ 20 * a (b + q * n + n * r * u)) (λ u. times_g (x (b + q * n + n * r * u)) (W (p * (n * r * u * (k % s)))))
        (λ u lu. disc_more _ _ _ (le_of_eq (omega arith)) (disc_times (2 ^ 20 * a (b + q * n + n * r * u))
        (2 ^ 60 + 1) _ _ (sized (b + q * n + n * r * u) (inside q u lq lu)) (turns.norm _))))

    around : (q : ℕ) → q < r → Around ((2 ^ 20 + 2 ^ 7) * A q) (z q)
    around q lq =
        let o = read q lq in
        record {
          re = o.0;
          im = o.1;
          disc = disc_unscale (2 ^ 60) ((2 ^ 20 + 2 ^ 7) * A q) (val_c (z q)) (pow_pos 60)
              (disc_more _ _ _ (cell_size (A q) E fine) (disc_near _ _ (scale_g (2 ^ 60) (val_c (z q))) (T q) o.2 (T_size q lq)));
        }

    -- all weights together
    weights : sum_n r A ≡ weight h a (s * r) b
    unfolding A weight
    weights = sum_n_equal r (λ q. sum_n s (λ u. a (b + q * n + n * r * u))) (λ q. sum_n s (λ u. a (b + n * (u * r + q))))
        (λ q lq. sum_n_equal s (λ u. a (b + q * n + n * r * u)) (λ u. a (b + n * (u * r + q))) (λ u lu. ap a (omega arith)))
        ∙ sym (sum_n_digits s r (λ u. a (b + n * u))) ∙ ap (λ (g : ℕ). sum_n (s * r) (λ u. a (b + g * u))) (sym (by_both h n s r parts ps pr))

    all_weights : sum_n r A ≤ 2 ^ 220
    unfolding weight
    all_weights =
        let size : h ≡ s * r * n = parts ∙ omega arith in
        let one : sum_n (s * r) (λ u. a (u * n + b)) ≤ sum_n n (λ q. sum_n (s * r) (λ u. a (u * n + q))) =
        sum_n_term n (λ q. sum_n (s * r) (λ u. a (u * n + q))) b lb in
        le_trans (le_of_eq (weights ∙ whole)) (le_trans one (le_trans (le_of_eq (sym (sum_n_digits (s * r) n a) ∙ ap (λ (m : ℕ). sum_n m a) (sym size))) total))
      where
        whole : weight h a (s * r) b ≡ sum_n (s * r) (λ u. a (u * n + b))
        whole = sum_n_equal (s * r) (λ u. a (b + h / (s * r) * u)) (λ u. a (u * n + b))
            (λ u l. ap a (ap (λ (g : ℕ). b + g * u) (by_both h n s r parts ps pr) ∙ omega arith))

    A_most : (q : ℕ) → q < r → A q ≤ 2 ^ 220
    A_most q lq = le_trans (sum_n_term r A q lq) all_weights

    Term : (y : Complex) (q : ℕ) → Type 0
    Term y q = Held binary32 y.re × Held binary32 y.im × Off (τ * A q) (scale_g (2 ^ 60) (val_c y)) (times_g (val_c (z q)) (W (v q)))

    lone_term : Term (c i) 0
    unfolding Term z v
    lone_term =
        let o = read 0 pr in let e : b * s + k % s + 0 * (h / r) ≡ b * s + k % s = omega arith in
        let f : p * (k % s * 0 * n) + p * (k / s * 0 % r * (n * s)) ≡ 0 = simp (mul-zero, zero-mul, zero-mod, add-zero) in (
          subst (λ (l : ℕ). Held binary32 (c l).re) e o.0,
          subst (λ (l : ℕ). Held binary32 (c l).im) e o.1,
          subst₂ (λ (l t : ℕ). Off (τ * A 0) (scale_g (2 ^ 60) (val_c (c (b * s + k % s)))) (times_g (val_c (c l)) (W t))) (sym e) (sym f)
              (off_eq _ _ _ _ _ refl (ap (times_g (val_c (c (b * s + k % s)))) (sym turns.start))
              (off_more 0 (τ * A 0) _ _ zero-le (off_sym 0 _ _ (off_zero _ _ (same_one (2 ^ 60) (val_c (c (b * s + k % s)))))))),
        )

    kernel_few : (q : ℕ) → q < r → p * (k / s * q % r * (n * s)) ≤ 2 ^ 14
    unfolding v
    kernel_few q lq = le_trans (le-add_left _ (p * (k % s * q * n))) (few q lq)

    kernel_term : (l : ℕ) → Twiddles l s n → (q : ℕ) → suc q < r → Term (terms lent l (h / r) s r c i (k / s) (suc q)) (suc q)
    unfolding Term terms floats twiddled_in mul_c v z
    kernel_term zero first q lq =
        let none : k % s ≡ 0 = ap (λ (m : ℕ). k % m) first ∙ omega arith in
        let f : p * (k % s * suc q * n) + p * (k / s * suc q % r * (n * s)) ≡ p * (k / s * suc q % r * (n * s)) =
        rw none (simp (zero-mul, mul-zero, zero-add)) in
        subst (λ (t : ℕ). Held binary32 (turned_c (kernel (k / s * suc q % r) r) (z (suc q))).re
        × Held binary32 (turned_c (kernel (k / s * suc q % r) r) (z (suc q))).im
        × Off (τ * A (suc q)) (scale_g (2 ^ 60) (val_c (turned_c (kernel (k / s * suc q % r) r) (z (suc q))))) (times_g (val_c (z (suc q))) (W t))) (sym f)
        (first_off N W turns (A (suc q)) (A_least (suc q) lq) (A_most (suc q) lq) (z (suc q)) (around (suc q) lq) 0 (p * (k / s * suc q % r * (n * s)))
        (kernel_few (suc q) lq) (kernel (k / s * suc q % r) r) (faithful (k / s * suc q % r) (mod-lt (k / s * suc q) pr)))
    kernel_term (suc l) given q lq =
        second_off N W turns (A (suc q)) (A_least (suc q) lq) (A_most (suc q) lq) (z (suc q)) (around (suc q) lq) (p * (k % s * suc q * n))
        (p * (k / s * suc q % r * (n * s))) (kernel_few (suc q) lq) (kernel (k / s * suc q % r) r)
        (faithful (k / s * suc q % r) (mod-lt (k / s * suc q) pr))
        (lent (suc l) i (suc q)) (subst (λ (m : ℕ). Close (W (p * (m * suc q * n))) (lent (suc l) i (suc q))) (digits_mod b (mod-lt k ps)) (given i (suc q)))

    every_term : (q : ℕ) → q < r → Term (terms lent j (h / r) s r c i (k / s) q) q
    unfolding terms
    every_term zero lq = lone_term
    every_term (suc q) lq = kernel_term j twiddles q lq

    -- the block sums of the next stride, by their low digits
    T' : ℕ → Gauss
    T' q = sum_g s (λ u. times_g (x (b + n * (u * r + q))) (W (p * (n * (u * r + q) * k))))

    blocks : block_g W p h x (s * r) b k ≡ sum_g r T'
    unfolding block_g T'
    blocks = ap (λ (g : ℕ). sum_g (s * r) (λ u. times_g (x (b + g * u)) (W (p * (g * u * k))))) (by_both h n s r parts ps pr)
        ∙ sum_digits s r (λ u. times_g (x (b + n * u)) (W (p * (n * u * k))))

    exact : (q : ℕ) → q < r → Off (2 ^ 39 * 2 ^ 60 * A q) (times_g (T q) (W (v q))) (scale_g (2 ^ 60) (T' q))
    unfolding A T X T' v
    exact q lq = off_eq _ _ _ _ _ refl (ap (scale_g (2 ^ 60)) (sum_equal s _ (λ u. times_g (x (b + n * (u * r + q))) (W (p * (n * (u * r + q) * k))))
        (λ u lu. ap₂ times_g (ap x (same u)) (indices (2 ^ 60) N W turns p h n s r parts circle k q u))))
        (block_turned (2 ^ 60) N W turns s (λ u. x (b + q * n + n * r * u)) (λ u. a (b + q * n + n * r * u)) (λ u. p * (n * r * u * (k % s)))
        (p * (k % s * q * n) + p * (k / s * q % r * (n * s))) (few q lq) (lit≤ tt)
        (λ u lu. sized (b + q * n + n * r * u) (inside q u lq lu)))
      where
        same : (u : ℕ) → b + q * n + n * r * u ≡ b + n * (u * r + q)
        same u = omega arith

    pub output_accurate : Held binary32 (made j (h / r) s r c i (k / s)).re × Held binary32 (made j (h / r) s r c i (k / s)).im
        × Off ((E + (τ + (r - 1) * κ) + (2 ^ 39 + 2 ^ 6)) * weight h a (s * r) b) (scale_g (2 ^ 60) (val_c (made j (h / r) s r c i (k / s))))
        (block_g W p h x (s * r) b k)
    unfolding Term
    output_accurate =
        let y = terms lent j (h / r) s r c i (k / s) in let all : suc (r - 1) ≡ r = omega arith in
        let o = added_off r eight y (λ q. times_g (val_c (z q)) (W (v q))) A all_weights (λ q lq. ((every_term q lq).0, (every_term q lq).1))
        (λ q lq. (every_term q lq).2)
        (λ q lq. disc_more _ _ _ (le_of_eq (omega arith)) (disc_times ((2 ^ 20 + 2 ^ 7) * A q) (2 ^ 60 + 1) (val_c (z q)) (W (v q)) (around q lq).disc
        (turns.norm (v q)))) (r - 1) (omega arith) in
        let ρ = τ + (r - 1) * κ in let P = added y (r - 1) in
        let out : Off (ρ * sum_n r A) (scale_g (2 ^ 60) (val_c P)) (sum_g r (λ q. times_g (val_c (z q)) (W (v q)))) =
        subst (λ (m : ℕ). Off (ρ * sum_n m A) (scale_g (2 ^ 60) (val_c P)) (sum_g m (λ q. times_g (val_c (z q)) (W (v q))))) all o.2 in
        let e : Off ((E + ρ + (2 ^ 39 + 2 ^ 6)) * sum_n r A) (scale_g (2 ^ 60) (val_c P)) (sum_g r T') =
        step W (2 ^ 60) (pow_pos 60) turns.norm r (λ q. val_c (z q)) T T' v A (val_c P) ρ E (le_trans fine (lit≤ tt)) out (λ q lq. (read q lq).2) exact in
        let same : P ≡ made j (h / r) s r c i (k / s) = sym (output_added lent j (h / r) s r c i (k / s)) in
        subst (λ (w : Complex). Held binary32 w.re × Held binary32 w.im
        × Off ((E + ρ + (2 ^ 39 + 2 ^ 6)) * weight h a (s * r) b) (scale_g (2 ^ 60) (val_c w)) (block_g W p h x (s * r) b k)) same (
          o.0,
          o.1,
          subst (λ (m : ℕ). Off ((E + ρ + (2 ^ 39 + 2 ^ 6)) * m) (scale_g (2 ^ 60) (val_c P)) (block_g W p h x (s * r) b k)) weights
              (off_eq _ _ _ _ _ refl (sym blocks) e),
        )

  -- ---- on lists
  abbrev cells : List Complex → ℕ → Complex
  cells xs n = get_or xs n blank

  module _ (x : ℕ → Gauss) (a : ℕ → ℕ) (sized : (u : ℕ) → u < h → Disc (2 ^ 20 * a u) (x u)) (least : (u : ℕ) → u < h → 2 ^ 20 ≤ a u)
      (total : sum_n h a ≤ 2 ^ 220) where
    pub stage_accurate : (n s r : ℕ) → h ≡ n * (s * r) → 0 < s → 0 < r → r ≤ 8 → (j : ℕ) → ((t : ℕ) → t < r → Faithful (W (p * (t * (n * s)))) (kernel t r))
        → Twiddles j s n
        → (E : ℕ) → E ≤ 2 ^ 66 → (xs : List Complex) → Accurate E s x a (cells xs)
        → Accurate (E + (τ + (r - 1) * κ) + (2 ^ 39 + 2 ^ 6)) (s * r) x a (cells (stage_by plain (floats lent) j h s r xs))
    unfolding stage_by floats
    stage_accurate n s r parts ps pr eight j faithful twiddles E fine xs before b k lb lk =
        let lb' : b < n = subst (λ (m : ℕ). b < m) (by_both h n s r parts ps pr) lb in
        let m : b * (s * r) + k < h = lt_of_lt_of_le (digits_lt lb lk) (div-mul-le_self h (s * r)) in
        let e : get_or (stage_by plain (floats lent) j h s r xs) (b * (s * r) + k) blank ≡ made j (h / r) s r (cells xs) (b * s + k % s) (k / s) =
        get_d_tabulate h 0 _ (b * (s * r) + k) blank m
        ∙ ap (λ (l : ℕ). made j (h / r) s r (cells xs) (iteration s r l) (place s r l)) (zero-add (b * (s * r) + k))
        ∙ ap₂ (λ (u v : ℕ). made j (h / r) s r (cells xs) u v) (iteration_block s r b k lk) (place_block s r b k lk) in
        subst (λ (w : Complex). Held binary32 w.re × Held binary32 w.im
        × Off ((E + (τ + (r - 1) * κ) + (2 ^ 39 + 2 ^ 6)) * weight h a (s * r) b) (scale_g (2 ^ 60) (val_c w)) (block_g W p h x (s * r) b k)) (sym e)
        (output_accurate n s r parts ps pr eight j faithful twiddles x a sized least total E fine (cells xs) before b k lb' lk)

-- the error after j stages of the radices rs, for each weight: 8 + (r - 1) times 2 ^ 56 and a little for each stage
unfoldable pub error : List ℕ → ℕ → ℕ
unfolding radix
error rs zero = 0
error rs (suc j) = error rs j + (τ + (radix rs j - 1) * κ) + (2 ^ 39 + 2 ^ 6)

pub error_small : (rs : List ℕ) → ((j : ℕ) → j < length rs → radix rs j ≤ 8) → (j : ℕ) → j ≤ length rs → error rs j ≤ j * 2 ^ 60
unfolding error
error_small rs eight zero l = zero-le
error_small rs eight (suc j) l = omega (arith, error_small rs eight j (le_of_lt l), eight j l)

module _ (N : ℕ) (W : ℕ → Gauss) (turns : Turns (2 ^ 60) N W) (p h : ℕ) (circle : p * h ≡ N) (circle-small : N ≤ 2 ^ 13) (lent : ℕ → ℕ → ℕ → Complex)
    (rs : List ℕ) (whole : h ≡ product rs) (pos : 0 < h) (eight : (j : ℕ) → j < length rs → radix rs j ≤ 8) (short : length rs ≤ 64)
    (faithful : (j : ℕ) → j < length rs → (t : ℕ) → t < radix rs j → Faithful (W (p * (t * (h / radix rs j)))) (kernel t (radix rs j)))
    (twiddles : (j : ℕ) → suc j < length rs → (i q : ℕ) → Close (W (p * (i % stride rs (suc j) * q * (h / (stride rs (suc j) * radix rs (suc j))))))
    (lent (suc j) i q))
    (xs : List Complex) (held : (u : ℕ) → u < h → Held binary32 (get_or xs u blank).re × Held binary32 (get_or xs u blank).im)
    (a : ℕ → ℕ) (sized : (u : ℕ) → u < h → Disc (2 ^ 20 * a u) (val_c (get_or xs u blank))) (least : (u : ℕ) → u < h → 2 ^ 20 ≤ a u)
    (total : sum_n h a ≤ 2 ^ 220) where
  abbrev float_run : ℕ → List Complex
  float_run j = run plain (floats lent) h rs j xs

  abbrev samples : ℕ → Gauss
  samples u = val_c (get_or xs u blank)

  abbrev After : ℕ → Type 0
  After j = Accurate N W turns p h circle circle-small lent (error rs j) (stride rs j) samples a (λ n. get_or (float_run j) n blank)

  start : Accurate N W turns p h circle circle-small lent 0 1 samples a (λ n. get_or xs n blank)
  unfolding block_g weight sum_g
  start b k lb lk =
      let none : k ≡ 0 = omega arith in let l : b < h = subst (λ (m : ℕ). b < m) (div-one h) lb in
      let e₁ : b * 1 + k ≡ b = omega arith in let e₂ : b + h / 1 * 0 ≡ b = omega arith in
      let e₃ : p * (h / 1 * 0 * k) ≡ 0 = simp (mul-zero, zero-mul) in let z = samples b in
      let o : Off (0 * (0 + a (b + h / 1 * 0))) (scale_g (2 ^ 60) z) (plus_g zero_g (times_g z (W 0))) =
      off_eq _ _ _ _ _ refl (ap (λ (w : Gauss). plus_g zero_g (times_g z w)) (sym turns.start)) (off_more 0 _ _ _ zero-le (off_zero _ _ (alone (2 ^ 60) z))) in
      subst (λ (c : ℕ). Held binary32 (get_or xs c blank).re × Held binary32 (get_or xs c blank).im
      × Off (0 * (0 + a (b + h / 1 * 0))) (scale_g (2 ^ 60) (val_c (get_or xs c blank)))
      (plus_g zero_g (times_g (samples (b + h / 1 * 0)) (W (p * (h / 1 * 0 * k)))))) (sym e₁) (
        (held b l).0,
        (held b l).1,
        subst₂ (λ (i t : ℕ). Off (0 * (0 + a (b + h / 1 * 0))) (scale_g (2 ^ 60) z) (plus_g zero_g (times_g (samples i) (W t)))) (sym e₂)
            (sym e₃) o,
      )
    where
      alone : (G : ℕ) (z : Gauss) → Same (scale_g G z) (plus_g zero_g
          (times_g z (record { re = record { more = G; less = 0 }; im = record { more = 0; less = 0 } })))
      alone G z = (omega arith, omega arith)

  some_twiddles : (j : ℕ) → j < length rs → (n : ℕ) → h / (stride rs j * radix rs j) ≡ n → Twiddles N W turns p h circle circle-small lent j (stride rs j) n
  unfolding stride product
  some_twiddles zero l n e = refl
  some_twiddles (suc j) l n e = λ i q. subst (λ (m : ℕ). Close (W (p * (i % stride rs (suc j) * q * m))) (lent (suc j) i q)) e (twiddles j l i q)

  pub run_accurate : (j : ℕ) → j ≤ length rs → After j
  unfolding run stage error
  run_accurate zero l = subst (λ (m : ℕ). Accurate N W turns p h circle circle-small lent 0 m samples a (λ n. get_or xs n blank)) (stride_none rs) start
  run_accurate (suc j) l =
      let s = stride rs j in let r = radix rs j in let n = product (drop (suc j) rs) in
      let parts : h ≡ n * (s * r) = whole ∙ rw (← stride_suc rs j l) (stride_drop rs (suc j)) in
      let sr : 0 < s * r = pos_right n (s * r) (rw (← parts) pos) in let ps = pos_left s r sr in
      let pr = pos_right s r sr in
      let f : (t : ℕ) → t < r → Faithful (W (p * (t * (n * s)))) (kernel t r) =
      λ t lt. subst (λ (m : ℕ). Faithful (W (p * (t * m))) (kernel t r)) (by_radix h n s r parts ps pr) (faithful j l t lt) in
      let fine : error rs j ≤ 2 ^ 66 = le_trans (error_small rs eight j (le_of_lt l)) (mul-le-mul_right (2 ^ 60) (le_trans (le_of_lt l) short)) in
      subst (λ (m : ℕ). Accurate N W turns p h circle circle-small lent (error rs (suc j)) m samples a (λ n. get_or (float_run (suc j)) n blank))
      (sym (stride_suc rs j l))
      (stage_accurate N W turns p h circle circle-small lent samples a sized least total n s r parts ps pr (eight j l) j f
      (some_twiddles j l n (by_both h n s r parts ps pr)) (error rs j) fine (float_run j) (run_accurate j (le_of_lt l)))

  -- The whole run: each number is within `error` of the transform, for each weight.
  pub transform_accurate : (k : ℕ) → k < h → Off (error rs (length rs) * sum_n h a) (scale_g (2 ^ 60) (val_c (get_or (float_run (length rs)) k blank)))
      (dft W p h samples k)
  unfolding dft block_g weight
  transform_accurate k l =
      let end : stride rs (length rs) ≡ h = stride_length rs ∙ sym whole in let one : h / h ≡ 1 = div_self pos in
      let all : Accurate N W turns p h circle circle-small lent (error rs (length rs)) h samples a (λ n. get_or (float_run (length rs)) n blank) =
      subst (λ (m : ℕ). Accurate N W turns p h circle circle-small lent (error rs (length rs)) m samples a (λ n. get_or (float_run (length rs)) n blank)) end
      (run_accurate (length rs) (le_refl (length rs))) in
      let o = (all 0 k (subst (λ (m : ℕ). 0 < m) (sym one) (lit< tt)) l).2 in
      let at : (u : ℕ) → 0 + h / h * u ≡ u = λ u. ap (λ (g : ℕ). 0 + g * u) one ∙ alone u in
      let up : (u : ℕ) → h / h * u * k ≡ u * k = λ u. ap (λ (g : ℕ). g * u * k) one ∙ along u in
      subst₂ (λ (c : ℕ) (m : ℕ). Off (error rs (length rs) * m) (scale_g (2 ^ 60) (val_c (get_or (float_run (length rs)) c blank))) (dft W p h samples k))
      (first h k) (sum_n_equal h (λ u. a (0 + h / h * u)) a (λ u lu. ap a (at u)))
      (off_eq _ _ _ _ _ refl (sum_equal h (λ u. times_g (samples (0 + h / h * u)) (W (p * (h / h * u * k)))) (λ u. times_g (samples u) (W (p * (u * k))))
      (λ u lu. ap₂ (λ (i t : ℕ). times_g (samples i) (W (p * t))) (at u) (up u))) o)
    where
      alone : (u : ℕ) → 0 + 1 * u ≡ u
      alone u = omega arith

      along : (u : ℕ) → 1 * u * k ≡ u * k
      along u = omega arith

      first : (h k : ℕ) → 0 * h + k ≡ k
      first h k = omega arith

  pub transform_held : (k : ℕ) → k < h → Held binary32 (get_or (float_run (length rs)) k blank).re × Held binary32 (get_or (float_run (length rs)) k blank).im
  transform_held k l =
      let end : stride rs (length rs) ≡ h = stride_length rs ∙ sym whole in let one : h / h ≡ 1 = div_self pos in
      let all : Accurate N W turns p h circle circle-small lent (error rs (length rs)) h samples a (λ n. get_or (float_run (length rs)) n blank) =
      subst (λ (m : ℕ). Accurate N W turns p h circle circle-small lent (error rs (length rs)) m samples a (λ n. get_or (float_run (length rs)) n blank)) end
      (run_accurate (length rs) (le_refl (length rs))) in
      let o = all 0 k (subst (λ (m : ℕ). 0 < m) (sym one) (lit< tt)) l in
      subst (λ (c : ℕ). Held binary32 (get_or (float_run (length rs)) c blank).re × Held binary32 (get_or (float_run (length rs)) c blank).im) (first h k)
      (o.0, o.1)
    where
      first : (h k : ℕ) → 0 * h + k ≡ k
      first h k = omega arith
