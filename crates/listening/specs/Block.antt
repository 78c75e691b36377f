-- What is heard in a block: the window, the powers in the band and outside it, and what the call promises. Assumes nothing.
use Rattle.std.specs.Prelude.{◌≡◌, ℕ, ◌+◌, ◌-◌, false, cond, List, [], ◌∷◌, length, ◌==◌, from_bits, Float}
use Rattle.std.specs.Float.{binary32}
use Rattle.std.specs.Float.Ieee.{add, sub, mul, round}
use Rattle.sequences.specs.Lists.{tabulate}
use Rattle.refusal.specs.Refusal.{left}
use Rattle.refusal.specs.Refusal.{Verdict}
use Rattle.refusal.specs.Refusal.{Accepted, Refused}
use Rattle.plan.specs.declared.Record.{Record}
use Rattle.turn.specs.Calls.{part}
use Rattle.turn.specs.Turns.{+0, one_half, turn_of, words_of}
use Rattle.transform.specs.Transforms.{Slices, forward_of}
use Rattle.power.specs.Power.{power_from}
use Rattle.hear.specs.Hear.{decided, hear_verdict}
use Rattle.hear.specs.declared.Decision.TheVariants.{Fanning}
use Rattle.listening.specs.declared.Block.{Block}

-- weight i of n: 1/2 - 1/2 cos(2 pi i / n), in f32
abbrev pub weight : (n i : ℕ) → Float
weight n i = sub binary32 one_half (mul binary32 one_half (words_of (turn_of (part i n))).0)

-- Hann's window of n weights
unfoldable pub hann : (n : ℕ) → List Float
hann n = tabulate n 0 (weight n)

-- each sample times its weight
unfoldable pub weighed : List Float → List Float → List Float
weighed [] ws = []
weighed (x ∷ xs) [] = x ∷ xs
weighed (x ∷ xs) (w ∷ ws) = mul binary32 x w ∷ weighed xs ws

-- the power of a tone of full scale, in the three bins that the window gives it: 3 n^2 / 32
unfoldable pub full_scale : (n : ℕ) → Float
full_scale n = mul binary32 (mul binary32 (round binary32 false n 1) (round binary32 false n 1)) (from_bits binary32 1035993088)

-- the power of the bins from 1 on that are not in the band: below it and above it
unfoldable pub besides : List Float → (lo hi half : ℕ) → Float
besides sp lo hi half =
    cond (lo == 0) (power_from sp (hi + 1) (half - hi)) (add binary32 (power_from sp 1 (lo - 1)) (power_from sp (hi + 1) (half - hi)))

-- the powers of a spectrum and the decision; beside a refusal +0 and fanning
abbrev pub block_of : Verdict → List Float → (lo hi half : ℕ) → (threshold : Float) → Block
block_of Accepted sp lo hi half threshold =
    record {
      verdict = Accepted;
      band = power_from sp lo (hi + 1 - lo);
      outside = besides sp lo hi half;
      decision = decided (power_from sp lo (hi + 1 - lo)) threshold;
    }
block_of (Refused why) sp lo hi half threshold = record { verdict = Refused why; band = +0; outside = +0; decision = Fanning }

-- what `listen` promises of its answer r, of the samples and of spectrum and scratch: what `hear` does of the weighed samples, with the power outside the band
pub record Listens (p : Record) (W : ℕ) (xs weights stage end : List Float) (lo hi : ℕ) (threshold : Float) (before : Slices) (r : Block) (ys : List Float)
    (after : Slices) : Type 0 where
  pub samples : ys ≡ weighed xs weights
  pub answer : r ≡ block_of (hear_verdict p W ys (length before.0) (length before.1) stage end lo hi) (forward_of p W stage end ys before.1).0 lo hi
      p.half threshold
  pub cells : after ≡ left (hear_verdict p W ys (length before.0) (length before.1) stage end lo hi) (forward_of p W stage end ys before.1) before
