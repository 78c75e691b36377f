-- Laws of the end twiddles: each is a whole number of steps of the circle, and in a row they are all. Assumes nothing.
use Rattle.sequences.proofs.Basics.{◌≡◌, sym, ap, ◌∙◌, ℕ, zero, suc, ◌+◌, ◌*◌, ◌/◌, ◌%◌, ◌<◌, ◌≤◌, mul-pos, mul-le-mul_right, arith, true, List, length}
use lib.Ieee.{Float, nan}
use Rattle.sequences.specs.Pairs.{pair_at}
use Rattle.sequences.proofs.Pairs.{pairs_all}
use Rattle.counts.specs.Counts.{end_count}
use Rattle.turn.specs.Turns.{housed, turn_at, words_of}
use Rattle.turn.specs.declared.Turn.{Turn}
use Rattle.turn.proofs.Index.{housed_pos, housed_parts, index_below}
use Rattle.end_twiddles.specs.Ends.{directed, end_twiddle, end_words}
use Rattle.end_twiddles.specs.declared.inner.ends.Direction.{Direction}
use Rattle.counts.proofs.Counts.{end_few}

pub end_inside : (n k : ℕ) → housed n ≡ true → k ≤ end_count n → k < n
end_inside n k h l = omega (arith, end_few n (housed_pos n h))

-- each is more than nothing and less than a quarter
pub end_quarter : (n k : ℕ) → housed n ≡ true → 1 ≤ k → k ≤ end_count n → k * (6720 / n) % 1680 ≡ 0 → ⊥
end_quarter n k h first last = between (6720 / n) (housed_parts n h)
  where
    inside : (x : ℕ) → 0 < x → 4 * x < 6720 → x % 1680 ≡ 0 → ⊥
    inside x a b e = omega (arith, e)

    between : (q : ℕ) → q * n ≡ 6720 → k * q % 1680 ≡ 0 → ⊥
    between zero e z = omega (arith, e)
    between (suc q) e z =
        let low : 0 < k * suc q = mul-pos first (omega arith) in
        let few : 4 * k < n = omega (arith, end_few n (housed_pos n h)) in
        inside (k * suc q) low (omega (arith, e, mul-le-mul_right (suc q) few)) z

module _ (n : ℕ) (h : housed n ≡ true) where
  inside : (k : ℕ) → k < end_count n → k + 1 < n
  inside k l = end_inside n (k + 1) h (omega arith)

  pub end_index : (k : ℕ) → k < end_count n → (k + 1) * (6720 / n) < 6720
  end_index k l = (index_below (k + 1) n h (inside k l)).0

  -- the words that the code finds are those of the next end twiddle
  pub end_next : (d : Direction) (k : ℕ) → k < end_count n → (t : Turn) (v w : Float × Float) → t ≡ turn_at ((k + 1) * (6720 / n)) → v ≡ words_of t
      → w ≡ directed d v
      → w ≡ end_twiddle d n (k + 1)
  unfolding end_twiddle
  end_next d k l t v w et ev ew = ew ∙ ap (directed d) (ev ∙ ap words_of (et ∙ sym (index_below (k + 1) n h (inside k l)).1))

-- in a row they are all
pub ends_done : (d : Direction) (n : ℕ) (out : List Float) → length out ≡ 2 * end_count n
    → ((p : ℕ) → p < end_count n → pair_at nan out p ≡ end_twiddle d n (p + 1)) → out ≡ end_words d n
unfolding end_words
ends_done d n out e all = pairs_all nan out (end_count n) 1 (end_twiddle d n) e (λ p l. all p l ∙ ap (end_twiddle d n) (omega arith))
