-- Both directions, step by step: what they leave in the output and in the scratch, of which nothing is written past the Scratchpad. h is a
-- plan's half. Assumes nothing.
use Rattle.std.specs.Prelude.{ℕ, ◌+◌, ◌-◌, ◌*◌, List, ◌++◌, Float, drop}
use Rattle.counts.specs.Counts.{result_in}
use Rattle.counts.specs.declared.Buffer.{Buffer}
use Rattle.counts.specs.declared.Buffer.TheVariants.{Data, Scratchpad}
use Rattle.plan.specs.declared.Record.{Record}
use Rattle.schedule.specs.Buffers.{Two, held_in}
use Rattle.stage.specs.Runs.{run_of}
use Rattle.ends.specs.Ends.{postprocess_fft, preprocess_ifft, conjugated, zeros}
use Rattle.scratch.specs.Scratch.{data_of, pad_of, with_both}

-- the output and the scratch
abbrev pub Slices : Type 0
Slices = List Float × List Float

-- ---- forward

-- what the stages make of the samples xs, taken in pairs
unfoldable pub forward_run : Record → (W : ℕ) → (stage xs scratch : List Float) → Two Float
forward_run p W stage xs scratch = run_of p W stage (xs, pad_of p.half scratch)

-- from the buffer with the result to bins
unfoldable pub forward_of : Record → (W : ℕ) → (stage end xs scratch : List Float) → Slices
forward_of p W stage end xs scratch =
    let b = forward_run p W stage xs scratch in
    (postprocess_fft p.half end (held_in (result_in p.count) b), with_both p.half b scratch)

-- ---- inverse

-- the scratch with the bins xs copied into it and prepared
unfoldable pub prepared_of : (h : ℕ) → (end xs scratch : List Float) → List Float
prepared_of h end xs scratch = preprocess_ifft h end xs ++ drop (2 * (h + 1)) scratch

-- what the stages make of the conjugates
unfoldable pub inverse_run : Record → (W : ℕ) → (stage end xs scratch : List Float) → Two Float
inverse_run p W stage end xs scratch =
    let q = prepared_of p.half end xs scratch in
    run_of p W stage (conjugated p.half (data_of p.half q), pad_of p.half q)

-- the result is conjugated where it stands, and copied to Data if it is not there
abbrev pub restored : (h : ℕ) → Buffer → Two Float → Two Float
restored h Data b = (conjugated h b.0, b.1)
restored h Scratchpad b = (conjugated h b.1, conjugated h b.1)

-- Data is copied to an output of so many words, which is +0 beyond
unfoldable pub inverse_of : Record → (W : ℕ) → (stage end xs scratch : List Float) → (room : ℕ) → Slices
inverse_of p W stage end xs scratch room =
    let b = restored p.half (result_in p.count) (inverse_run p W stage end xs scratch) in
    (b.0 ++ zeros (room - 2 * p.half), with_both p.half b scratch)
