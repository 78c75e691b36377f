-- Laws of numbers in decimal. Assumes nothing.
use Rattle.sequences.proofs.Basics.{◌≡◌, ap, ◌∙◌, ℕ, zero, suc, ◌+◌, ◌/◌, ◌%◌, ◌^◌, ◌≤◌, ◌<◌, pow-suc, arith, dec_lt, dite, List, [], ◌∷◌, ◌++◌, length}
use Rattle.sequences.proofs.Basics.{length-append, lt-ltb, le-ltb}
use Rattle.text.specs.Lines.{last_digits, decimal}

-- more places than a number has digits change nothing
enough : (k j n : ℕ) → n < k → n < j → last_digits k n ≡ last_digits j n
unfolding last_digits
enough zero j n p q = absurd (impossible n p)
  where
    impossible : (n : ℕ) → n < 0 → ⊥
    impossible n p = omega arith
enough (suc k) zero n p q = absurd (impossible n q)
  where
    impossible : (n : ℕ) → n < 0 → ⊥
    impossible n p = omega arith
enough (suc k) (suc j) n p q = dite (dec_lt n 10) (λ (h : n < 10). simp (lt-ltb n 10 h)) (λ (h : n < 10 → ⊥).
    let g : 10 ≤ n = omega arith in
    simp (le-ltb n 10 g) (ap (λ (l : List ℕ). l ++ ((48 + n % 10) ∷ [])) (enough k j (n / 10) (omega arith) (omega arith))))

-- a number of one digit
pub decimal_small : (n : ℕ) → n < 10 → decimal n ≡ (48 + n) ∷ []
unfolding decimal last_digits
decimal_small n h = simp (lt-ltb n 10 h)

-- a number of more digits
pub decimal_more : (n : ℕ) → 10 ≤ n → decimal n ≡ decimal (n / 10) ++ ((48 + n % 10) ∷ [])
unfolding decimal last_digits
decimal_more n h = simp (le-ltb n 10 h) (ap (λ (l : List ℕ). l ++ ((48 + n % 10) ∷ [])) (enough n (suc (n / 10)) (n / 10) (omega arith) (omega arith)))

-- with one digit more
pub decimal_longer : (n : ℕ) → 10 ≤ n → length (decimal n) ≡ length (decimal (n / 10)) + 1
decimal_longer n h = ap length (decimal_more n h) ∙ length-append (decimal (n / 10)) ((48 + n % 10) ∷ [])

-- a number below a power of ten has no more digits than its exponent
pub decimal_short : (k n : ℕ) → n < 10 ^ suc k → length (decimal n) ≤ suc k
decimal_short zero n h = omega (arith, ap length (decimal_small n h))
decimal_short (suc k) n h = dite (dec_lt n 10) (λ (g : n < 10). omega (arith, ap length (decimal_small n g))) (λ (g : n < 10 → ⊥).
    let s : n / 10 < 10 ^ suc k = omega (arith, pow-suc 10 (suc k)) in
    omega (arith, decimal_longer n (omega arith), decimal_short k (n / 10) s))
