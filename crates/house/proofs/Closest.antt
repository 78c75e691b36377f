-- The whole number nearest to a / b, ties to even. Assumes nothing.
use Rattle.sequences.proofs.Basics.{◌≡◌, ◌∙◌, ℕ, ◌*◌, ◌/◌, ◌%◌, ◌^◌, ◌<◌, ◌≤◌, compare}
use Rattle.sequences.proofs.Basics.{mul-one, zero-lt-suc, div-one, mod-one, le_trans, div-lt_iff_lt-mul, le-div_iff_mul-le}
use Rattle.sequences.proofs.Basics.{pow_pos}
use lib.Ieee.Fits.{nearest-le}
use lib.Ieee.Nearest.{closest, closest_same, nearest-ge}

-- a whole number, and one times 2 ^ k divided by 2 ^ k
pub closest_one : (q : ℕ) → closest q 1 ≡ q
closest_one q = rw (div-one, mod-one)

pub closest_exact : (q k : ℕ) → closest (q * 2 ^ k) (2 ^ k) ≡ q
closest_exact q k = closest_same (q * 2 ^ k) (2 ^ k) q 1 (pow_pos k) (zero-lt-suc 0) (mul-one (q * 2 ^ k)) ∙ closest_one q

-- bounds of c / 2 ^ k are bounds of the nearest
pub closest_top : (c k m : ℕ) → c < m * 2 ^ k → closest c (2 ^ k) ≤ m
closest_top c k m h = le_trans (nearest-le (c / 2 ^ k) (compare (c % 2 ^ k * 2) (2 ^ k))) ((div-lt_iff_lt-mul (pow_pos k)).1 h)

pub closest_low : (c k m : ℕ) → m * 2 ^ k ≤ c → m ≤ closest c (2 ^ k)
closest_low c k m h = le_trans ((le-div_iff_mul-le (pow_pos k)).1 h) (nearest-ge (c / 2 ^ k) (compare (c % 2 ^ k * 2) (2 ^ k)))
