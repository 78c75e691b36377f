-- Where a walk goes after a verdict, and what holds of it where it stands. Assumes nothing.
use Rattle.sequences.proofs.Basics.{◌≡◌, refl, ℕ}
use Rattle.std.specs.Prelude.{Ok, Err}
use Rattle.refusal.specs.declared.Refusal.{Refusal}
use Rattle.refusal.specs.Refusal.{Verdict}
use Rattle.refusal.specs.Refusal.{Accepted, Refused}
use Rattle.chunks.specs.Chunks.{Walking, ended, going}
use Rattle.chunks.specs.declared.inner.walk.Walk.TheVariants.{Chunk, End}
use Rattle.chunks.specs.declared.inner.walk.Samples.{Samples}

-- whatever holds after both verdicts holds
pub going_cases : (P : Walking → Type 0) (v : Verdict) (next : Walking) → (v ≡ Accepted → P next) → ((why : Refusal) → v ≡ Refused why → P (Err why))
    → P (going v next)
going_cases P Accepted next f g = f refl
going_cases P (Refused why) next f g = g why refl

-- the place of the chunk that a walk stands at is such
abbrev pub AtChunk : (ℕ → Type 0) → Walking → Type 0
AtChunk P (Ok (Chunk at rate)) = P at
AtChunk P (Ok (End samples)) = Unit {0}
AtChunk P (Err why) = Unit {0}

pub at_chunk : (P Q : ℕ → Type 0) → ((at : ℕ) → P at → Q at) → (r : Walking) → AtChunk P r → AtChunk Q r
at_chunk P Q f (Ok (Chunk at rate)) p = f at p
at_chunk P Q f (Ok (End samples)) p = tt
at_chunk P Q f (Err why) p = tt

-- the samples that a walk has ended at are such
abbrev pub AtEnd : (Samples → Type 0) → Walking → Type 0
AtEnd P (Ok (Chunk at rate)) = Unit {0}
AtEnd P (Ok (End samples)) = P samples
AtEnd P (Err why) = Unit {0}

pub at_end : (P Q : Samples → Type 0) → ((s : Samples) → P s → Q s) → (r : Walking) → AtEnd P r → AtEnd Q r
at_end P Q f (Ok (Chunk at rate)) p = tt
at_end P Q f (Ok (End samples)) p = f samples p
at_end P Q f (Err why) p = tt

pub found_such : (P : Samples → Type 0) (r : Walking) (s : Samples) → ended r ≡ Ok s → AtEnd P r → P s
found_such P (Ok (Chunk at rate)) s e p = cc
found_such P (Ok (End samples)) s e p = let same : samples ≡ s = cc in rw (← same) p
found_such P (Err why) s e p = cc
