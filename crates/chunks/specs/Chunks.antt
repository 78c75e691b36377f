-- The walk over a recording's chunks: where it stands, what each chunk does, and where it ends. Assumes nothing.
use Rattle.std.specs.Prelude.{ℕ, zero, suc, ◌+◌, ◌-◌, ◌/◌, cond, ◌&&◌, List, [], ◌∷◌, eqb, ltb, length, drop, Option, Some, None, Result, Ok, Err, is_none}
use Rattle.refusal.specs.Refusal.{◌⇒◌, verdict}
use Rattle.refusal.specs.declared.Refusal.{Refusal}
use Rattle.refusal.specs.declared.Refusal.TheVariants.{Wav}
use Rattle.refusal.specs.Refusal.{Verdict}
use Rattle.refusal.specs.Refusal.{Accepted, Refused}
use Rattle.little.specs.Numbers.{number_at}
use Rattle.fields.specs.Fields.{mark, padded, head_rows, format_rows, data_rows, other_rows}
use Rattle.chunks.specs.declared.inner.walk.Walk.{Walk}
use Rattle.chunks.specs.declared.inner.walk.Walk.TheVariants.{Chunk, End}
use Rattle.chunks.specs.declared.inner.walk.Samples.{Samples}

-- A walk stands at a chunk, with the rate of the first format, or none before there was one; or it has ended, at samples or at a refusal.
abbrev pub Walking : Type 0
Walking = Result Walk Refusal

-- n samples begin at `at`
abbrev pub samples_from : (at rate n : ℕ) → Samples
samples_from at rate n = record { at = at; rate = rate; count = n }

-- by a verdict: on to what follows, or the end
abbrev pub going : Verdict → Walking → Walking
going Accepted next = next
going (Refused why) next = Err why

-- the walk begins after the mark
unfoldable pub begun : (w : List ℕ) (L : ℕ) → Walking
begun w L = going (verdict (head_rows w 0 L L)) (Ok (Chunk 12 None))

-- a chunk of samples, which stands after a format
unfoldable pub at_data : (w : List ℕ) (at : ℕ) (rate : Option ℕ) (L : ℕ) → Walking
at_data w at None L = Err (Wav at)
at_data w at (Some rate) L = going (verdict (data_rows w at (L - at) L)) (Ok (End (samples_from (at + 8) rate (number_at 4 w 4 / 2))))

-- the first format
unfoldable pub at_format : (w : List ℕ) (at L : ℕ) → Walking
at_format w at L = going (verdict (format_rows w at (L - at) L)) (Ok (Chunk (at + 24) (Some (number_at 4 w 12))))

-- any other chunk, which is skipped, and so is a second format
unfoldable pub at_other : (w : List ℕ) (at : ℕ) (rate : Option ℕ) (L : ℕ) → Walking
at_other w at rate L = going (verdict (other_rows w at (L - at) L)) (Ok (Chunk (at + 8 + padded (number_at 4 w 4)) rate))

-- one chunk, by its id
unfoldable pub stepped : (w : List ℕ) (at : ℕ) (rate : Option ℕ) (L : ℕ) → Walking
stepped w at rate L = going (verdict (ltb (L - at) 4 ⇒ Wav L ∷ []))
    (cond (eqb (number_at 4 w 0) (mark "data")) (at_data w at rate L)
    (cond (eqb (number_at 4 w 0) (mark "fmt ") && is_none rate) (at_format w at L) (at_other w at rate L)))

-- the walk over a file of L bytes, up to k chunks more: `see` gives what the window holds from a place on
abbrev pub on_by : (see : ℕ → List ℕ) (L : ℕ) → Walking → Walking
on_by see L (Ok (Chunk at rate)) = stepped (see at) at rate L
on_by see L (Ok (End samples)) = Ok (End samples)
on_by see L (Err why) = Err why

unfoldable pub walked : (k : ℕ) (see : ℕ → List ℕ) (L : ℕ) → Walking → Walking
walked zero see L walk = walk
walked (suc k) see L walk = walked k see L (on_by see L walk)

-- where it has ended; at a chunk no walk over a file ends, as `walk_ends` shows
abbrev pub ended : Walking → Result Samples Refusal
ended (Ok (Chunk at rate)) = Err (Wav at)
ended (Ok (End samples)) = Ok samples
ended (Err why) = Err why

-- a walk that begins with what is seen at the start; each chunk takes 8 bytes at least, so that it ends within as many chunks as there are bytes
unfoldable pub walk_in : (see : ℕ → List ℕ) (L : ℕ) → Result Samples Refusal
walk_in see L = ended (walked L see L (begun (see 0) L))

-- the walk over a whole file
unfoldable pub walk_of : (file : List ℕ) → Result Samples Refusal
unfolding walk_in
walk_of file = walk_in (λ at. drop at file) (length file)
