-- The house table by number, and its rule: the ends, strict order, the norm, and each entry turned on by entry 1. Assumes nothing.
use Rattle.std.specs.Prelude.{ℕ, suc, ◌+◌, ◌*◌, ◌^◌, ◌<◌, ◌≤◌, ◌≡◌, get_or}
use Rattle.house.specs.House.{cosines, sines}

-- c(b) and s(b), for b up to 840
abbrev pub cosine : ℕ → ℕ
cosine b = get_or cosines b 0

abbrev pub sine : ℕ → ℕ
sine b = get_or sines b 0

-- x and y are within d of each other
abbrev pub Within : (d x y : ℕ) → Type 0
Within d x y = (x ≤ y + d) × (y ≤ x + d)

-- the rule of entries 0 to n
pub record Rule (c s : ℕ → ℕ) (n : ℕ) : Type 0 where
  pub first : (c 0 ≡ 2 ^ 60) × (s 0 ≡ 0)
  pub last : c n ≡ s n
  pub falls : (b : ℕ) → b < n → c (suc b) < c b
  pub rises : (b : ℕ) → b < n → s b < s (suc b)
  pub norm : (b : ℕ) → b ≤ n → Within (2 ^ 61) (c b * c b + s b * s b) (2 ^ 120)
  -- angles add: c(b) c(1) - s(b) s(1) is within 2 ^ 61 of 2 ^ 60 c(b + 1), and s(b) c(1) + c(b) s(1) of 2 ^ 60 s(b + 1)
  pub next_cosine : (b : ℕ) → b < n → Within (2 ^ 61) (c b * c 1) (2 ^ 60 * c (suc b) + s b * s 1)
  pub next_sine : (b : ℕ) → b < n → Within (2 ^ 61) (s b * c 1 + c b * s 1) (2 ^ 60 * s (suc b))
