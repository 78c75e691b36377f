-- The rule of the house table at any scale, and 'to nearest'. Assumes nothing.
use Rattle.std.specs.Prelude.{ℕ, suc, ◌+◌, ◌*◌, ◌^◌, ◌<◌, ◌≤◌, ◌≡◌}
use Rattle.house.specs.Rule.{Within}

-- the rule of entries 0 to n, with G for 2 ^ 60: `Rule` of the turns is `RuleAt (2 ^ 60)`
pub record RuleAt (G : ℕ) (c s : ℕ → ℕ) (n : ℕ) : Type 0 where
  pub first : (c 0 ≡ G) × (s 0 ≡ 0)
  pub last : c n ≡ s n
  pub falls : (b : ℕ) → b < n → c (suc b) < c b
  pub rises : (b : ℕ) → b < n → s b < s (suc b)
  pub norm : (b : ℕ) → b ≤ n → Within (2 * G) (c b * c b + s b * s b) (G * G)
  pub next_cosine : (b : ℕ) → b < n → Within (2 * G) (c b * c 1) (G * c (suc b) + s b * s 1)
  pub next_sine : (b : ℕ) → b < n → Within (2 * G) (s b * c 1 + c b * s 1) (G * s (suc b))

-- x of scale G, brought to the scale 2 ^ 60, is within 4,095/8,192 of h: h is the nearest whole number, and x is no tie
abbrev pub Nearest : (G x h : ℕ) → Type 0
Nearest G x h = Within (4095 * G) (8192 * (2 ^ 60 * x)) (8192 * (G * h))
