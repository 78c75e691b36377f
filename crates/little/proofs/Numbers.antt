-- Laws of numbers of several bytes: in a part of a list, from bytes, and back. Assumes nothing.
use Rattle.sequences.proofs.Basics.{◌≡◌, refl, sym, ap, ap₂, ◌∙◌, ℕ, zero, suc, ◌+◌, ◌*◌, ◌/◌, ◌%◌, ◌^◌, ◌≤◌, ◌<◌, arith, List, ◌∷◌, ◌++◌, length, get_or, take}
use Rattle.sequences.proofs.Basics.{drop, get_or-drop, get_or-take, drop-cons, div-lt_iff_lt-mul, pow-suc, lit<}
use Rattle.little.specs.Numbers.{number_at, Bytes, bytes_of}

-- two bytes
pub number_two : (bs : List ℕ) (i : ℕ) → number_at 2 bs i ≡ get_or bs i 0 + 256 * get_or bs (i + 1) 0
unfolding number_at
number_two bs i = omega arith

-- seen from a place on
pub number_drop : (n : ℕ) (bs : List ℕ) (k i : ℕ) → number_at n (drop k bs) i ≡ number_at n bs (k + i)
unfolding number_at
number_drop zero bs k i = refl
number_drop (suc n) bs k i =
    ap₂ (λ (a b : ℕ). a + 256 * b) (get_or-drop k bs i 0) (number_drop n bs k (i + 1) ∙ ap (number_at n bs) (omega arith))

-- and in the first k bytes
pub number_take : (n : ℕ) (bs : List ℕ) (k i : ℕ) → i + n ≤ k → number_at n (take k bs) i ≡ number_at n bs i
unfolding number_at
number_take zero bs k i h = refl
number_take (suc n) bs k i h = ap₂ (λ (a b : ℕ). a + 256 * b) (get_or-take k bs i 0 (omega arith)) (number_take n bs k (i + 1) (omega arith))

-- n of them are below 256 ^ n
pub number_below : (n : ℕ) (bs : List ℕ) (i : ℕ) → Bytes bs → number_at n bs i < 256 ^ n
unfolding number_at
number_below zero bs i b = lit< tt
number_below (suc n) bs i b = omega (arith, b i, number_below n bs (i + 1) b, pow-suc 256 n)

-- the bytes of the number that some bytes are
pub bytes_number : (n : ℕ) (bs : List ℕ) (i : ℕ) → Bytes bs → i + n ≤ length bs → drop i bs ≡ bytes_of n (number_at n bs i) ++ drop (i + n) bs
unfolding number_at
bytes_number zero bs i b h = let same : i ≡ i + 0 = omega arith in ap (λ (k : ℕ). drop k bs) same
bytes_number (suc n) bs i b h =
    let first = get_or bs i 0 in let rest = number_at n bs (i + 1) in
    let low : (first + 256 * rest) % 256 ≡ first = omega (arith, b i) in
    let high : (first + 256 * rest) / 256 ≡ rest = omega (arith, b i) in
    let on : suc i ≡ i + 1 = omega arith in let all : i + 1 + n ≡ i + suc n = omega arith in
    drop-cons bs i 0 (omega arith)
    ∙ ap₂ (λ (x : ℕ) (xs : List ℕ). x ∷ xs) (sym low)
    (ap (λ (k : ℕ). drop k bs) on ∙ bytes_number n bs (i + 1) b (omega arith) ∙ ap₂ (λ (v k : ℕ). bytes_of n v ++ drop k bs) (sym high) all)

-- the number that the bytes of a number are
pub number_bytes : (n v : ℕ) (more : List ℕ) → v < 256 ^ n → number_at n (bytes_of n v ++ more) 0 ≡ v
unfolding number_at
number_bytes zero v more h = omega (arith, h)
number_bytes (suc n) v more h =
    let low = v % 256 in
    let high : number_at n (low ∷ (bytes_of n (v / 256) ++ more)) 1 ≡ v / 256 =
    sym (number_drop n (low ∷ (bytes_of n (v / 256) ++ more)) 1 0)
    ∙ number_bytes n (v / 256) more ((div-lt_iff_lt-mul (lit< tt)).1 (omega (arith, h, pow-suc 256 n))) in
    omega (arith, high)
