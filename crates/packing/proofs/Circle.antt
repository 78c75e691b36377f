-- Laws of the circle of the house table: what divides it, and the twiddles of a column as whole steps of it. Assumes nothing.
use Rattle.sequences.proofs.Basics.{◌≡◌, sym, ap, subst, ◌∙◌, ℕ, ◌*◌, ◌/◌, ◌%◌, ◌∣◌, ◌<◌, ◌≤◌, mod-lt, dvd_of_mod-eq-zero, mod-eq-zero_of_dvd, dvd_trans}
use Rattle.sequences.proofs.Basics.{dvd-mul_left, le_of_dvd, mul-le-mul, arith, true, eqb-true, eq-eqb}
use Rattle.schedule.specs.Stage.{twiddle_turn}
use Rattle.turn.specs.Turns.{housed, turn_at, words_of}
use Rattle.turn.proofs.Index.{index_below}
use Rattle.packing.specs.Twiddles.{twiddle}

-- L divides 6,720
divides : (L : ℕ) → housed L ≡ true → L ∣ 6720
unfolding housed
divides L e = dvd_of_mod-eq-zero L (eqb-true (6720 % L) 0 e)

pub housed_small : (L : ℕ) → housed L ≡ true → L ≤ 6720
housed_small L e = le_of_dvd (omega arith) (divides L e)

-- what divides a part of the circle divides the circle
pub housed_part : (n b L : ℕ) → n ≡ b * L → housed n ≡ true → housed L ≡ true
unfolding housed
housed_part n b L e d = eq-eqb (6720 % L) 0 (mod-eq-zero_of_dvd L (dvd_trans L (subst (λ (m : ℕ). L ∣ m) (sym e) (dvd-mul_left L b)) (divides n d)))

-- Twiddles of column i mod s, in a stage of radix r at stride s
module _ (s r i : ℕ) (some : 0 < s) (e : housed (s * r) ≡ true) where
  column_part : (k : ℕ) → k < r → i % s * k < s * r
  column_part k l = product_less (i % s) s k r (mod-lt i some) l
    where
      product_less : (a b c d : ℕ) → a < b → c < d → a * c < b * d
      product_less a b c d f g = omega (arith, mul-le-mul {n₂ = b} {m₂ = d} f g)

  column_steps : (k : ℕ) → i % s * k * (6720 / (s * r)) ≡ k * (i % s * (6720 / (s * r)))
  column_steps k = omega arith

  pub column_small : (k : ℕ) → k < r → k * (i % s * (6720 / (s * r))) < 6720
  column_small k l = rw (← column_steps k) (index_below (i % s * k) (s * r) e (column_part k l)).0

  -- twiddle k is turned k times as far as twiddle 1
  pub twiddle_steps : (k : ℕ) → k < r → words_of (turn_at (k * (i % s * (6720 / (s * r))))) ≡ twiddle s r i k
  unfolding twiddle twiddle_turn
  twiddle_steps k l = sym (ap words_of ((index_below (i % s * k) (s * r) e (column_part k l)).1 ∙ ap turn_at (column_steps k)))
