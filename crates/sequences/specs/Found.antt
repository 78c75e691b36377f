-- What a search in a list answers: the first place where it finds, or none. Assumes nothing.
use Rattle.std.specs.Prelude.{ℕ, ◌≡◌, ◌<◌, ◌≤◌, Option, MatchOption}

-- the first place i of a list of n elements, or none where i is past its end
abbrev pub Found : (n i : ℕ) → Option ℕ → Type 0
Found n i r = MatchOption r (n ≤ i) (λ k. (k ≡ i) × (k < n))
