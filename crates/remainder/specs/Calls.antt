-- The calls in remainders: which are refused, what an accepted one leaves, and what each promises. Assumes nothing.
use Rattle.std.specs.Prelude.{ℕ, zero, suc, ◌%◌, ◌^◌, ◌<◌, ◌≡◌, Bool, true, false, not, ◌||◌, List, [], ◌∷◌, eqb, ltb, length}
use Rattle.refusal.specs.Refusal.{Row, ◌⇒◌, verdict, Settles}
use Rattle.refusal.specs.declared.Refusal.TheVariants.{NotPlanned, Length, Modulus, Base, Remainder, Stage}
use Rattle.refusal.specs.Refusal.{Verdict}
use Rattle.sequences.specs.Lists.{first_that}
use Rattle.plan.specs.Record.{is_planned}
use Rattle.plan.specs.declared.Record.{Record}
use Rattle.schedule.specs.Buffers.{Two}
use Rattle.residues.specs.Residues.{Under, stage_of, run_of}

-- the index of the first number not below m, or the length
unfoldable pub first_large : ℕ → List ℕ → ℕ
first_large m xs = first_that (λ x. not (ltb x m)) xs

-- refusals 11, 12, 8 and 13 of h cells xs and another buffer of `room` cells, in this order
abbrev pub lent_rows : (h m w : ℕ) → List ℕ → (room : ℕ) → List Row
lent_rows h m w xs room =
    ltb m 2 ⇒ Modulus
    ∷ (not (ltb w m) || not (eqb (w ^ h % m) 1)) ⇒ Base
    ∷ not (eqb (length xs) h) ⇒ Length 0
    ∷ not (eqb room h) ⇒ Length 2
    ∷ ltb (first_large m xs) (length xs) ⇒ Remainder (first_large m xs)
    ∷ []

-- the verdict by these alone
unfoldable pub lent_verdict : (h m w : ℕ) → List ℕ → (room : ℕ) → Verdict
lent_verdict h m w xs room = verdict (lent_rows h m w xs room)

-- a stage: refusals 5 and 15, then those
unfoldable pub stage_verdict : Record → (j m w : ℕ) → List ℕ → (room : ℕ) → Verdict
stage_verdict p j m w xs room = verdict (not (is_planned p) ⇒ NotPlanned 0 ∷ not (ltb j p.count) ⇒ Stage ∷ lent_rows p.half m w xs room)

-- a run: refusal 5, then those
unfoldable pub run_verdict : Record → (m w : ℕ) → List ℕ → (room : ℕ) → Verdict
run_verdict p m w xs room = verdict (not (is_planned p) ⇒ NotPlanned 0 ∷ lent_rows p.half m w xs room)

-- what `stage` promises of its answer r and of what is left in the other buffer
abbrev pub Stages : Record → (j m w : ℕ) → (input other : List ℕ) → Verdict → List ℕ → Type 0
Stages p j m w input other r after = Settles (stage_verdict p j m w input (length other)) (stage_of p j m w input) other r after

-- what `run` promises of its answer r and of what is left in its two buffers
abbrev pub Runs : Record → (m w : ℕ) → Two ℕ → Verdict → Two ℕ → Type 0
Runs p m w before r after = Settles (run_verdict p m w before.0 (length before.1)) (run_of p m w before) before r after

-- what a run or a chain of stages is lent: an accepted plan, a modulus, a base whose power h leaves 1, and h remainders
pub record Lent (p : Record) (m w : ℕ) (xs : List ℕ) : Type 0 where
  pub planned : is_planned p ≡ true
  pub modulus : 1 < m
  pub base : w < m
  pub circle : w ^ p.half % m ≡ 1
  pub long : length xs ≡ p.half
  pub cells : Under m (length xs) xs

-- zs is what stage calls 0 to j - 1 make of xs, each lent what the one before wrote and another buffer of h cells with anything in it
abbrev pub Chain : Record → (m w j : ℕ) → (xs zs : List ℕ) → Type 0
Chain p m w zero xs zs = xs ≡ zs
Chain p m w (suc j) xs zs =
    (ys : List ℕ) × ((old : List ℕ) × ((r : Verdict) × (Chain p m w j xs ys × ((length old ≡ p.half) × Stages p j m w ys old r zs))))

-- stage call k on two buffers, from Data to Scratchpad or back: r is its answer, and b what is left of them
abbrev pub Called : Bool → Record → (k m w : ℕ) → Two ℕ → Verdict → Two ℕ → Type 0
Called true p k m w c r b = (b.0 ≡ c.0) × Stages p k m w c.0 c.1 r b.1
Called false p k m w c r b = (b.1 ≡ c.1) × Stages p k m w c.1 c.0 r b.0

-- b is what stage calls 0 to k - 1, written alternately, leave of two buffers
abbrev pub Alternately : Record → (m w k : ℕ) → (before b : Two ℕ) → Type 0
Alternately p m w zero before b = before ≡ b
Alternately p m w (suc k) before b = (c : Two ℕ) × ((r : Verdict) × (Alternately p m w k before c × Called (eqb (k % 2) 0) p k m w c r b))
