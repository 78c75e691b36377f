-- Laws of sizes lifted over complex operations, a kernel of any radix and a stage, which adds five binary digits at most.
-- Assumes nothing.
use Rattle.sequences.proofs.Basics.{◌≡◌, sym, subst, ℕ, zero, suc, ◌+◌, ◌-◌, ◌*◌, ◌/◌, ◌^◌, ◌≤◌, ◌<◌, le_trans, le_of_eq, mul-one, zero-add, arith, true, List}
use Rattle.sequences.proofs.Basics.{lit≤, get_or, drop}
use lib.Ieee.{Float, nan, inf, fin, mul, binary32}
use Rattle.sequences.proofs.Tables.{get_d_tabulate}
use Rattle.counts.specs.Counts.{radix, stride}
use Rattle.radices.specs.Lists.{product}
use Rattle.plan.specs.Record.{is_planned}
use Rattle.plan.specs.declared.Record.{Record}
use Rattle.schedule.specs.Plans.{in_use}
use Rattle.schedule.specs.Stage.{twiddle_turn, kernel_turn, iteration, place, twiddled_in, read, total, plain, output, stage_by, stage}
use Rattle.schedule.proofs.Cells.{iteration_lt, read_lt}
use Rattle.schedule.proofs.Plans.{use-parts, use-radix-some, use-radix-few, use-stride-some}
use Rattle.turn.specs.Turns.{turn_of, words_of}
use Rattle.turn.specs.declared.Turn.{Turn}
use Rattle.turn.specs.declared.Turn.TheVariants.{Zero, Quarter, Half, ThreeQuarter, General}
use Rattle.turn.proofs.Small.{Small, words_small}
use Rattle.floats.specs.Complexes.{blank, plus, minus, times, conjugate, turned_by}
use Rattle.floats.specs.declared.complex.Complex.{Complex}
use Rattle.kernel.specs.Floats.{floats}
use Rattle.finite.specs.Sizes.{AtMost, Both}
use Rattle.finite.proofs.Sizes.{Room, add_most, sub_most, mul_most, neg_most, most_wider, most_shifted}

-- ---- complex operations

module _ (j q q' k : ℕ) (small : Room j (q + q') k) (x y : Complex) (v : Both q k x) (w : Both q' k y) where
  pub plus_both : Both (q + q') k (plus x y)
  plus_both = record { re = add_most j q q' k small x.re y.re v.re w.re; im = add_most j q q' k small x.im y.im v.im w.im }

  pub minus_both : Both (q + q') k (minus x y)
  minus_both = record { re = sub_most j q q' k small x.re y.re v.re w.re; im = sub_most j q q' k small x.im y.im v.im w.im }

-- a product with a number up to 1
pub once_most : (j q k : ℕ) → Room j q k → (x t : Float) → AtMost q k x → AtMost 1 0 t → AtMost q k (mul binary32 x t)
once_most j q k small x t v w =
    let one : q * 1 ≡ q = mul-one q in let same : k + 0 ≡ k = omega arith in
    subst (λ (n : ℕ). AtMost n k (mul binary32 x t)) one (subst (λ (n : ℕ). AtMost (q * 1) n (mul binary32 x t)) same
    (mul_most j q 1 k 0 (rw (one, same) small) x t v w))

pub times_both : (j q k : ℕ) → Room j (q + q) k → (x t : Complex) → Both q k x → Both 1 0 t → Both (q + q) k (times x t)
times_both j q k small x t v w =
    let l : Room j q k = record { digits = omega (arith, small.digits); kept = small.kept; below = small.below } in
    record {
      re = sub_most j q q k small _ _ (once_most j q k l x.re t.re v.re w.re) (once_most j q k l x.im t.im v.im w.im);
      im = add_most j q q k small _ _ (once_most j q k l x.re t.im v.re w.im) (once_most j q k l x.im t.re v.im w.re);
    }

pub both_wider : (q q' k : ℕ) (x : Complex) → q ≤ q' → Both q k x → Both q' k x
both_wider q q' k x l v = record { re = most_wider q q' k x.re l v.re; im = most_wider q q' k x.im l v.im }

pub both_shifted : (q k i : ℕ) (x : Complex) → q ≤ 2 ^ i → Both q k x → Both 1 (k + i) x
both_shifted q k i x l v = record { re = most_shifted q k i x.re l v.re; im = most_shifted q k i x.im l v.im }

pub conjugate_both : (q k : ℕ) (x : Complex) → Both q k x → Both q k (conjugate x)
conjugate_both q k x v = record { re = v.re; im = neg_most q k x.im v.im }

pub small_most : (x : Float) → Small x → AtMost 1 0 x
small_most nan v = v
small_most (inf s) v = v
small_most (fin s m e) v = le_trans v (le_of_eq (omega arith))

pub turned_both : (j q k : ℕ) → Room j (q + q) k → (t : Turn) (x : Complex) → Small (words_of t).0 × Small (words_of t).1 → Both q k x
    → Both (q + q) k (turned_by t x)
unfolding words_of
turned_both j q k small Zero x u v = both_wider q (q + q) k x (omega arith) v
turned_both j q k small Quarter x u v = both_wider q (q + q) k _ (omega arith) (record { re = v.im; im = neg_most q k x.re v.re })
turned_both j q k small Half x u v = both_wider q (q + q) k _ (omega arith) (record { re = neg_most q k x.re v.re; im = neg_most q k x.im v.im })
turned_both j q k small ThreeQuarter x u v = both_wider q (q + q) k _ (omega arith) (record { re = neg_most q k x.im v.im; im = v.re })
turned_both j q k small (General c s) x u v = times_both j q k small x (record { re = c; im = s }) v
    (record { re = small_most c u.0; im = small_most s u.1 })

-- ---- a kernel and a stage, with twiddles up to 1

-- up to six binary digits before 2 ^ k
pub six : (q k : ℕ) → q ≤ 2 ^ 6 → k ≤ 121 → Room 6 q k
six q k l few = record { digits = l; kept = lit≤ tt; below = omega arith }

module _ (lent : ℕ → ℕ → ℕ → Complex) where
  total_both : (r : ℕ) (x : ℕ → Complex) (p k : ℕ) → k ≤ 121 → (n : ℕ) → n ≤ 8 → ((q : ℕ) → q ≤ n → Both 2 k (x q))
      → Both (2 + n * 4) k (total (floats lent) r x p n)
  unfolding total floats
  total_both r x p k few zero ln cells = cells 0 (omega arith)
  total_both r x p k few (suc n) ln cells =
      let more : 2 + n * 4 + 4 ≡ 2 + suc n * 4 = omega arith in
      subst (λ (z : ℕ). Both z k (plus (total (floats lent) r x p n) (turned_by (turn_of (kernel_turn p (suc n) r)) (x (suc n))))) more
      (plus_both 6 (2 + n * 4) 4 k (six (2 + n * 4 + 4) k (omega arith) few) _ _ (total_both r x p k few n (omega arith) (λ q lq. cells q (omega arith)))
      (turned_both 6 2 k (six 4 k (lit≤ tt) few) (turn_of (kernel_turn p (suc n) r)) (x (suc n)) (words_small (kernel_turn p (suc n) r))
      (cells (suc n) (omega arith))))

  module _ (j M s r k : ℕ) (few : k ≤ 121) (c : ℕ → Complex) (i : ℕ) (cells : (q : ℕ) → q < r → Both 1 k (c (i + q * M)))
      (ones : (q : ℕ) → 0 < j → 0 < q → q < r → Both 1 0 (lent j i q)) where
    read_both : (q : ℕ) → q < r → Both 2 k (read (floats lent) j M s r c i q)
    unfolding read twiddled_in floats
    read_both zero l = both_wider 1 2 k _ (lit≤ tt) (subst (λ (n : ℕ). Both 1 k (c n)) (omega arith) (cells 0 l))
    read_both (suc q) l = go j ones
      where
        go : (j : ℕ) → ((q : ℕ) → 0 < j → 0 < q → q < r → Both 1 0 (lent j i q))
            → Both 2 k (twiddled_in (floats lent) j i (suc q) (twiddle_turn s r i (suc q)) (c (i + suc q * M)))
        go zero o = both_wider 1 2 k _ (lit≤ tt) (cells (suc q) l)
        go (suc j) o = times_both 6 1 k (six 2 k (lit≤ tt) few) _ _ (cells (suc q) l) (o (suc q) (omega arith) (omega arith) l)

    pub output_both : (p : ℕ) → 0 < r → r ≤ 8 → Both 1 (k + 5) (output plain (floats lent) j M s r c i p)
    unfolding output plain
    output_both p some eight =
        let room : 2 + (r - 1) * 4 ≤ 30 = omega arith in
        both_shifted (2 + (r - 1) * 4) k 5 _ (le_trans room (lit≤ tt))
        (total_both r (read (floats lent) j M s r c i) p k few (r - 1) (omega arith) (λ q lq. read_both q (omega arith)))

-- the first h cells are
abbrev pub All : (q k h : ℕ) → List Complex → Type 0
All q k h xs = (n : ℕ) → n < h → Both q k (get_or xs n blank)

-- every twiddle of stage j of a plan is at most 1, and of every stage
abbrev pub OnesIn : Record → (j : ℕ) → (ℕ → ℕ → Complex) → Type 0
OnesIn p j lent = (i q : ℕ) → i < p.half / radix (in_use p) j → 0 < q → q < radix (in_use p) j → Both 1 0 (lent i q)

abbrev pub Ones : Record → (ℕ → ℕ → ℕ → Complex) → Type 0
Ones p lent = (j : ℕ) → 0 < j → j < p.count → OnesIn p j (lent j)

module _ (p : Record) (planned : is_planned p ≡ true) (lent : ℕ → ℕ → ℕ → Complex) where
  pub stage_all : (j k : ℕ) → j < p.count → k ≤ 121 → (0 < j → OnesIn p j (lent j)) → (xs : List Complex) → All 1 k p.half xs
      → All 1 (k + 5) p.half (stage plain (floats lent) p.half (in_use p) j xs)
  unfolding stage stage_by floats
  stage_all j k l few ones xs before n ln =
      let r = radix (in_use p) j in let s = stride (in_use p) j in let blocks = product (drop (suc j) (in_use p)) in
      let at : iteration s r n < p.half / r = iteration_lt s r n (use-stride-some p planned j l) (use-radix-some p planned j l)
      p.half blocks (use-parts p planned j l) ln in
      subst (λ (z : Complex). Both 1 (k + 5) z) (sym (get_d_tabulate p.half 0 _ n blank ln))
      (subst (λ (m : ℕ). Both 1 (k + 5) (output plain (floats lent) j (p.half / r) s r (λ u. get_or xs u blank) (iteration s r m) (place s r m)))
      (sym (zero-add n))
      (output_both lent j (p.half / r) s r k few (λ u. get_or xs u blank) (iteration s r n)
      (λ q lq. before (iteration s r n + q * (p.half / r)) (read_lt p.half r (iteration s r n) q at lq))
      (λ q lj first last. ones lj (iteration s r n) q at first last) (place s r n)
      (use-radix-some p planned j l) (use-radix-few p planned j l)))
