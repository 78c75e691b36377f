-- What a reader opens first, about the numbers that accepted float calls write and answer. Exact: whole numbers up to 2 ^ 20 at n = 2 and n = 4 give
-- the transform itself. Finite: within the bounds that acceptance checks (samples to 2 ^ 32, numbers of bins to 2 ^ 48, twiddles to 1) every number
-- written or answered is finite, with a bound below 2 ^ 128; so two runs that meet a promise leave the same bits in every word that a call writes. A
-- plan has at most 13 stages. Assumes nothing.
use Rattle.sequences.proofs.Basics.{◌≡◌, refl, sym, ap, ◌∙◌, subst, ℕ, ◌+◌, ◌-◌, ◌*◌, ◌<◌, arith, not, List, T, lit≤, length, get_or, eqb-true}
use lib.IntN.{ℤ, pos, ◌*ℤ◌}
use lib.Ieee.{Float, nan, is_nan}
use Rattle.refusal.specs.Refusal.{Verdict}
use Rattle.refusal.specs.Refusal.{Accepted}
use Rattle.refusal.proofs.Rows.{settled}
use Rattle.plan.specs.declared.Record.{Record}
use Rattle.twiddle.specs.Calls.{Fills}
use Rattle.end_twiddles.specs.declared.inner.ends.Direction.{Direction}
use Rattle.twiddle.proofs.Unique.{Fills_one}
use Rattle.stage.specs.Calls.{Stages}
use Rattle.stage.proofs.Unique.{Stages_one}
use Rattle.spectrum.specs.Calls.{Forwards, Inverts}
use Rattle.power.specs.Power.{Powers}
use Rattle.scratch.specs.Scratch.{data_of, pad_of}
use Rattle.transform.specs.Transforms.{Slices, forward_of}
use Rattle.mixing.specs.Steps.{fft_steps}
use Rattle.ends.proofs.Cells.{length_ended}
use Rattle.std.specs.Prelude.{Result, Ok, IsOkAnd}
use Rattle.refusal.specs.declared.Refusal.{Refusal}
use Rattle.power.proofs.Unique.{Powers_one}
use Rattle.spectrum.proofs.Unique.{Forwards_one, Inverts_one}
use Rattle.spectrum.proofs.Verdicts.{forwardable, invertible}
use Rattle.hear.specs.Hear.{Hears}
use Rattle.hear.specs.declared.Heard.{Heard}
use Rattle.hear.proofs.Theorems.{heard_band, heard_forward, heard_power}
use Rattle.hear.proofs.Unique.{Hears_one}
use Rattle.finite.specs.Bits.{Holds, SameBits, SameWritten}
use Rattle.finite.specs.Sizes.{AtMost, Words, RightForward, RightInverse, Within}
use Rattle.finite.specs.Whole.{IsWhole, Short, Small, Samples, IsBins}
use Rattle.finite.proofs.Accepted.{lent_accepted, whole_most, words_wider}
use Rattle.finite.proofs.Bits.{same_told, same_word, same_bits}
use Rattle.finite.proofs.Calls.{stage_lent_within, stage_within, summed_within, power_within, samples_within, forward_within, bins_within}
use Rattle.finite.proofs.Calls.{inverse_within}
use Rattle.finite.proofs.Exact.{short_count, forward_whole, inverse_whole}
use Rattle.finite.proofs.Fillings.{filled_ones}
use Rattle.finite.proofs.Plain.{plain_told, power_plain}

-- ---- exact, at lengths 2 and 4

module _ (p : Record) (W : ℕ) (stage end xs : List Float) (before : Slices) (r : Verdict) (after : Slices) (x : ℕ → ℤ) where
  -- forward leaves the transform of the whole numbers x
  pub forward_exact : Forwards p W stage end xs before r after → r ≡ Accepted → Short p.n → Samples p.n x xs → IsBins p.n x after.0
  forward_exact f e short g =
      let t = forwardable p W xs (length before.0) (length before.1) stage end r f.answer e in
      subst (λ (s : Slices). IsBins p.n x s.0) (sym (settled _ _ _ _ _ f (sym f.answer ∙ e)))
      (forward_whole p W stage end xs before.1 x (length before.0) t short g)

  -- inverse leaves n times the whole numbers x whose bins it is given
  pub inverse_exact : Inverts p W stage end xs before r after → r ≡ Accepted → Short p.n → Small p.n x → IsBins p.n x xs → (j : ℕ) → j < p.n
      → IsWhole (get_or after.0 j nan) (pos p.n *ℤ x j)
  inverse_exact f e short m g j l =
      let t = invertible p W _ _ (length xs) (length before.0) (length before.1) 48 xs stage end r refl refl f.answer e in
      subst (λ (s : Slices). IsWhole (get_or s.0 j nan) (pos p.n *ℤ x j)) (sym (settled _ _ _ _ _ f (sym f.answer ∙ e)))
      (inverse_whole p W stage end xs before.1 x (length before.0) t short m g j l)

-- rightly lent, forward accepts whole numbers up to 2 ^ 20, of any length
pub whole_accepted : (p : Record) (W : ℕ) (stage end xs : List Float) (before : Slices) (r : Verdict) (after : Slices)
    → Forwards p W stage end xs before r after
    → RightForward p W stage end (length xs) (length before.0) (length before.1) → (x : ℕ → ℤ) → Samples p.n x xs → r ≡ Accepted
whole_accepted p W stage end xs before r after f l x g =
    let long : length xs ≡ p.n = eqb-true (length xs) p.n l.long in
    f.answer
    ∙ lent_accepted p W stage end _ _ (length before.1) 32 xs l (λ j lj. let low : j < p.n = subst (λ (n : ℕ). j < n) long lj in
    whole_most (get_or xs j nan) (x j) (g.words j low) (g.small j low))

-- and at lengths 2 and 4 inverse, rightly lent, accepts the spectrum that forward leaves of any samples
pub back_accepted : (p : Record) (W : ℕ) (stage end xs : List Float) (before : Slices) (r : Verdict) (spectrum : Slices)
    → Forwards p W stage end xs before r spectrum → r ≡ Accepted
    → (W' : ℕ) (stage' end' : List Float) (before' : Slices) (r' : Verdict) (after : Slices) → Inverts p W' stage' end' spectrum.0 before' r' after
    → RightInverse p W' stage' end' (length spectrum.0) (length before'.0) (length before'.1) → Short p.n → r' ≡ Accepted
back_accepted p W stage end xs before r spectrum f e W' stage' end' before' r' after g l short = g.answer
    ∙ lent_accepted p W' stage' end' _ _ (length before'.1) 48 spectrum.0 l
    (words_wider (32 + 5 * p.count + 3) 48 spectrum.0 (omega (arith, short_count p l.planned short))
    (forward_within p W stage end xs before r spectrum f e 32 (lit≤ tt) (samples_within p W stage end xs before r spectrum f e)).0)

-- inverse, given the spectrum that forward left, leaves n times each sample; the two calls may differ in width, twiddles and scratch
pub there_and_back : (p : Record) (W : ℕ) (stage end xs : List Float) (before : Slices) (r : Verdict) (spectrum : Slices)
    → Forwards p W stage end xs before r spectrum → r ≡ Accepted
    → (W' : ℕ) (stage' end' : List Float) (before' : Slices) (r' : Verdict) (after : Slices) → Inverts p W' stage' end' spectrum.0 before' r' after
    → r' ≡ Accepted
    → (x : ℕ → ℤ) → Short p.n → Samples p.n x xs → (j : ℕ) → j < p.n → IsWhole (get_or after.0 j nan) (pos p.n *ℤ x j)
there_and_back p W stage end xs before r spectrum f e W' stage' end' before' r' after f' e' x short g =
    inverse_exact p W' stage' end' spectrum.0 before' r' after x f' e' short g.small (forward_exact p W stage end xs before r spectrum x f e short g)

-- ---- finite, at the customer's numbers

-- a stage: numbers to 2 ^ 48 in, at most 2 ^ 53 out
pub stage_finite : (p : Record) (j W : ℕ) (xs out tw : List Float) (r : Verdict) (ys : List Float) → Stages p j W xs out tw r ys → r ≡ Accepted → Words 53 ys
stage_finite p j W xs out tw r ys s e = stage_within p j W xs out tw r ys s e 48 (lit≤ tt) (stage_lent_within p j W xs out tw r ys s e)

module _ (p : Record) (W : ℕ) (stage end xs : List Float) (before : Slices) (r : Verdict) (after : Slices) where
  -- forward: samples to 2 ^ 32 in; each stage of the plan adds five binary digits, and the ends three
  pub forward_finite : Forwards p W stage end xs before r after → r ≡ Accepted → Within 1 p (32 + 5 * p.count + 3) (32 + 5 * p.count) after
  forward_finite f e = forward_within p W stage end xs before r after f e 32 (lit≤ tt) (samples_within p W stage end xs before r after f e)

  -- inverse: bins to 2 ^ 48 in
  pub inverse_finite : Inverts p W stage end xs before r after → r ≡ Accepted → Within 0 p (48 + 3 + 5 * p.count) (48 + 3 + 5 * p.count) after
  inverse_finite f e = inverse_within p W stage end xs before r after f e 48 (lit≤ tt) (bins_within p W stage end xs before r after f e)

-- power: bins to 2 ^ 48 in, a sum below 2 ^ 110 out
pub power_finite : (xs : List Float) (lo hi : ℕ) (x : Float) → Powers xs lo hi (Ok x) → AtMost 8194 96 x
power_finite xs lo hi x s = power_within xs lo hi x s 48 (lit≤ tt) (summed_within xs lo hi x s)

-- ---- the same bits

-- a stage writes all of its output
pub stage_bits : (p : Record) (j W : ℕ) (xs out tw : List Float) (r r' : Verdict) (ys ys' : List Float)
    → Stages p j W xs out tw r ys → Stages p j W xs out tw r' ys' → r ≡ Accepted → SameBits ys ys'
stage_bits p j W xs out tw r r' ys ys' s s' e = same_bits 53 ys ys' (stage_finite p j W xs out tw r ys s e) (Stages_one p j W xs out tw s s').1

written : (stages : ℕ) (p : Record) (k l : ℕ) (s s' : Slices) → Within stages p k l s → s ≡ s' → SameWritten stages p s s'
written stages p k l s s' w e = (
  same_bits k s.0 s'.0 w.0 (ap (λ (z : Slices). z.0) e),
  same_bits l (data_of p.half s.1) (data_of p.half s'.1) w.1 (ap (λ (z : Slices). data_of p.half z.1) e),
  λ some. same_bits l (pad_of p.half s.1) (pad_of p.half s'.1) (w.2 some) (ap (λ (z : Slices). pad_of p.half z.1) e),
)

module _ (p : Record) (W : ℕ) (stage end xs : List Float) (before : Slices) (r r' : Verdict) (after after' : Slices) where
  pub forward_bits : Forwards p W stage end xs before r after → Forwards p W stage end xs before r' after' → r ≡ Accepted → SameWritten 1 p after after'
  forward_bits f g e = written 1 p _ _ after after' (forward_finite p W stage end xs before r after f e) (Forwards_one p W stage end xs before f g).1

  pub inverse_bits : Inverts p W stage end xs before r after → Inverts p W stage end xs before r' after' → r ≡ Accepted → SameWritten 0 p after after'
  inverse_bits f g e = written 0 p _ _ after after' (inverse_finite p W stage end xs before r after f e) (Inverts_one p W stage end xs before f g).1

-- a filling writes both slices
pub fill_bits : (d : Direction) (p : Record) (W : ℕ) (before : Slices) (r r' : Verdict) (after after' : Slices)
    → Fills d p W before r after → Fills d p W before r' after' → r ≡ Accepted → SameBits after.0 after'.0 × SameBits after.1 after'.1
fill_bits d p W before r r' after after' f g e =
    let made = settled _ _ _ _ _ f (sym f.answer ∙ e) in let same = (Fills_one d p W before f g).1 in
    let ones = filled_ones d p W in let w = subst (λ (s : Slices). Words 0 s.0 × Words 0 s.1) (sym made) ones in
    (same_bits 0 after.0 after'.0 w.0 (ap (λ (s : Slices). s.0) same), same_bits 0 after.1 after'.1 w.1 (ap (λ (s : Slices). s.1) same))

-- and the bits of the sum that power answers
pub power_bits : (xs : List Float) (lo hi : ℕ) (x : Float) (r : Result Float Refusal) → Powers xs lo hi (Ok x) → Powers xs lo hi r
    → IsOkAnd r (λ y. (b c : ℕ) → Holds b x → Holds c y → b ≡ c)
power_bits xs lo hi x r s t =
    subst (λ (q : Result Float Refusal). IsOkAnd q (λ y. (b c : ℕ) → Holds b x → Holds c y → b ≡ c)) (Powers_one xs lo hi s t)
    (λ b c h g. same_word 8194 96 b c x (power_finite xs lo hi x s) h g)

-- forward leaves h + 1 bins
bins_long : (p : Record) (W : ℕ) (stage end xs s : List Float) → length (forward_of p W stage end xs s).0 ≡ 2 * (p.half + 1)
unfolding forward_of
bins_long p W stage end xs s = length_ended fft_steps p.half end _

-- a hearing: the words that forward writes, and the power it answers, which is no NaN even where it is infinite
pub hear_bits : (p : Record) (W : ℕ) (stage end xs : List Float) (lo hi : ℕ) (threshold : Float) (before : Slices) (r r' : Heard) (after after' : Slices)
    → Hears p W stage end xs lo hi threshold before r after → Hears p W stage end xs lo hi threshold before r' after' → r.verdict ≡ Accepted
    → SameWritten 1 p after after' × ((b c : ℕ) → Holds b r.power → Holds c r'.power → b ≡ c)
hear_bits p W stage end xs lo hi threshold before r r' after after' f g e =
    let same = Hears_one p W stage end xs lo hi threshold before f g in
    let e' : r'.verdict ≡ Accepted = ap (λ (z : Heard). z.verdict) (sym same.0) ∙ e in
    let ran = heard_forward p W stage end xs lo hi threshold before r after f e in
    let ran' = heard_forward p W stage end xs lo hi threshold before r' after' g e' in
    let within = forward_finite p W stage end xs before Accepted after ran refl in
    let band = heard_band p W stage end xs lo hi threshold before r after f e in
    let long : length after.0 ≡ 2 * (p.half + 1) =
    ap (λ (s : Slices). length s.0) (settled _ _ _ _ _ ran (sym ran.answer)) ∙ bins_long p W stage end xs before.1 in (
      forward_bits p W stage end xs before Accepted Accepted after after' ran ran' refl,
      λ b c h k. same_told b c r.power (subst (λ (x : Float). T (not (is_nan x))) (sym (heard_power p W stage end xs lo hi threshold before r after f e))
          (plain_told _ (power_plain after.0 _ lo (hi + 1 - lo) within.0 (omega (arith, long, band.0, band.1))))) h
          (subst (λ (z : Heard). Holds c z.power) (sym same.0) k),
    )
