-- What an iteration of the code reads and makes is what the schedule states. Assumes nothing.
use Rattle.sequences.proofs.Basics.{◌≡◌, refl, sym, ap, ◌∙◌, ℕ, zero, suc, ◌+◌, ◌-◌, ◌*◌, ◌/◌, ◌%◌, ◌^◌, ◌<◌, ◌≤◌, add-mod, mod-mod, mul-zero, mul-one}
use Rattle.sequences.proofs.Basics.{mul_comm, add-zero, zero-mul, pow-zero, mod-eq_of_lt, mod-lt, mod-one, mul-le-mul, arith, List, [], ◌∷◌, length, get_or}
use Rattle.schedule.specs.Stage.{twiddle_turn, kernel_turn, twiddled_in, read, total, output, plain}
use Rattle.schedule.proofs.Sums.{total_next, plain_same}
use Rattle.powers.proofs.Powers.{mul_mod, power_product}
use Rattle.residues.specs.Parts.{lent_by, kernel_of, read_of, output_of}
use Rattle.residues.specs.Residues.{turn, residues, cells, Under}

-- a remainder turned by no part is itself: so a first stage, where i % 1 is 0, may leave the twiddles out
pub turn_none : (m w h L x : ℕ) → x ≡ x % m → turn m w h (record { t = 0; L = L }) x ≡ x
unfolding turn
turn_none m w h L x l = simp (zero-mul, pow-zero, mul-one) (sym l)

first_cell : (m w h M : ℕ) (c : ℕ → ℕ) (i L : ℕ) → c (i + 0 * M) ≡ c (i + 0 * M) % m → turn m w h (record { t = 0; L = L }) (c (i + 0 * M)) ≡ c i
first_cell m w h M c i L e = turn_none m w h L (c (i + 0 * M)) e ∙ ap c (rw zero-mul (add-zero i))

-- what an iteration reads is the cell turned by its twiddle, in the first stage too
pub read_turned : (m w h j M s r : ℕ) (c : ℕ → ℕ) (i q : ℕ) → c (i + q * M) ≡ c (i + q * M) % m → (j ≡ 0 → s ≡ 1)
    → read (residues m w h) j M s r c i q ≡ turn m w h (twiddle_turn s r i q) (c (i + q * M))
unfolding read residues twiddled_in twiddle_turn
read_turned m w h j M s r c i zero e f = sym (simp (mul-zero) (first_cell m w h M c i (s * r) e))
read_turned m w h zero M s r c i (suc q) e f = rw (f refl, mod-one, zero-mul) (sym (turn_none m w h _ _ e))
read_turned m w h (suc j) M s r c i (suc q) e f = refl

-- past the end there are 0s
pub all_under : (m : ℕ) → 0 < m → (xs : List ℕ) → Under m (length xs) xs → (k : ℕ) → cells xs k < m
all_under m h [] u k = h
all_under m h (x ∷ xs) u zero = u 0 (omega arith)
all_under m h (x ∷ xs) u (suc k) = all_under m h xs (λ q l. u (suc q) (omega arith)) k

-- ---- what an iteration reads

pub read_first : (m v M : ℕ) (src : List ℕ) (i : ℕ) → cells src i < m → cells src i ≡ read_of m v M src i 0
read_first m v M src i l = sym (rw (zero-mul, add-zero, pow-zero, mul-one) (mod-eq_of_lt l))

pub read_scaled : (m v M : ℕ) (src : List ℕ) (i q y : ℕ) → y ≡ v ^ q % m → cells src (i + q * M) * y % m ≡ read_of m v M src i q
read_scaled m v M src i q y e = ap (λ (n : ℕ). cells src (i + q * M) * n % m) e ∙ mul_mod (cells src (i + q * M)) (v ^ q) m

-- ---- what it makes of them

pub turn_lt : (p q r : ℕ) → q < r → r ≤ 8 → p * q % r < 8
turn_lt p q r h l = omega (arith, mod-lt (p * q) {m = r} (omega arith))

pub small_product : (p q : ℕ) → p ≤ 7 → q ≤ 7 → p * q ≤ 49
small_product p q h l = mul-le-mul {n₂ = 7} {m₂ = 7} h l

-- one more term of an output
pub term_next : (m r p q : ℕ) (x turns : List ℕ) (acc : ℕ) → 0 < q → acc ≡ total (lent_by m 1 turns) r (cells x) p (q - 1)
    → (acc + cells x q * get_or turns (p * q % r) 0) % m ≡ total (lent_by m 1 turns) r (cells x) p q
unfolding lent_by kernel_turn
term_next m r p q x turns acc l e =
    let t = cells x q * get_or turns (p * q % r) 0 in
    rw (add-mod acc t m, ← mod-mod t m, ← add-mod acc (t % m) m) (total_next (lent_by m 1 turns) r (cells x) p q acc l e)

-- a kernel rests on the cells that it takes in
pub kernel_same : (m : ℕ) (turns : List ℕ) (r : ℕ) (x y : ℕ → ℕ) → 0 < r → ((q : ℕ) → q < r → x q ≡ y q) → (p : ℕ)
    → kernel_of m turns r x p ≡ kernel_of m turns r y p
kernel_same m turns r x y some e p = plain_same (lent_by m 1 turns) (lent_by m 1 turns) (λ u v. refl) r x y p some (λ q l. (e q l, λ z. refl))

module _ (m step M s r : ℕ) (src turns : List ℕ) (some : 0 < r) (under : (k : ℕ) → cells src k < m) (i p : ℕ) where
  -- with the powers of its column's power for twiddles it is an iteration of a later stage
  pub column_output : (v : ℕ) → v ≡ step ^ (i % s) % m → kernel_of m turns r (read_of m v M src i) p ≡ output_of m step M s r src turns i p
  unfolding output lent_by read twiddled_in twiddle_turn
  column_output v e = plain_same (lent_by m 1 turns) (lent_by m step turns) (λ u w. refl) r _ _ p some (λ q l. (each q, λ z. refl))
    where
      each : (q : ℕ) → read_of m v M src i q ≡ read (lent_by m step turns) 1 M s r (cells src) i q
      each zero = sym (read_first m v M src i (under i))
      each (suc q) = power_product m step (i % s) (suc q) (cells src (i + suc q * M)) v e

  -- and with the turns of a circle one of the schedule's stage j
  pub lent_output : (w h j : ℕ) → r ≤ 8 → (j ≡ 0 → s ≡ 1) → step ≡ w ^ (h / (s * r)) % m → ((t : ℕ) → t < 8 → get_or turns t 0 ≡ w ^ (h / r * t) % m)
      → output_of m step M s r src turns i p ≡ output plain (residues m w h) j M s r (cells src) i p
  unfolding output lent_by residues read twiddled_in twiddle_turn turn kernel_turn
  lent_output w h j few first stepping turned = plain_same (lent_by m step turns) (residues m w h) (λ u v. refl) r _ _ p some (λ q l. (each q, by_turn q l))
    where
      each : (q : ℕ) → read (lent_by m step turns) 1 M s r (cells src) i q ≡ read (residues m w h) j M s r (cells src) i q
      each zero = refl
      each (suc q) =
          let x = cells src (i + suc q * M) in
          power_product m w (h / (s * r)) (i % s * suc q) x step stepping ∙ ap (λ (n : ℕ). x * w ^ n % m) (mul_comm (h / (s * r)) (i % s * suc q))
          ∙ sym (read_turned m w h j M s r (cells src) i (suc q) (sym (mod-eq_of_lt (under (i + suc q * M)))) first)

      by_turn : (q : ℕ) → q < r → (z : ℕ) → z * get_or turns (p * q % r) 0 % m ≡ turn m w h (kernel_turn p q r) z
      by_turn q l z =
          let t = p * q % r in
          ap (λ (n : ℕ). z * n % m) (turned t (turn_lt p q r l few)) ∙ mul_mod z (w ^ (h / r * t)) m ∙ ap (λ (n : ℕ). z * w ^ n % m) (mul_comm (h / r) t)
