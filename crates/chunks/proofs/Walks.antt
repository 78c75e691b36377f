-- The walk: each chunk takes 8 bytes at least and stays inside the file, so that it ends, and more steps than that change nothing. Assumes nothing.
use Rattle.sequences.proofs.Basics.{◌≡◌, refl, sym, ap, ◌∙◌, ℕ, zero, suc, ◌+◌, ◌-◌, ◌*◌, ◌≤◌, ◌<◌, arith, List, length}
use Rattle.std.specs.Prelude.{Option, None, Result, Ok, Err}
use Rattle.refusal.specs.Refusal.{verdict}
use Rattle.refusal.specs.declared.Refusal.{Refusal}
use Rattle.fields.specs.Fields.{head_rows}
use Rattle.chunks.specs.Chunks.{Walking, begun, stepped, on_by, walked, ended, walk_in, walk_of}
use Rattle.chunks.specs.declared.inner.walk.Walk.{Walk}
use Rattle.chunks.specs.declared.inner.walk.Walk.TheVariants.{Chunk, End}
use Rattle.chunks.specs.declared.inner.walk.Samples.{Samples}
use Rattle.fields.proofs.Told.{head_told, format_told, data_told, other_told}
use Rattle.chunks.proofs.Going.{going_cases, AtChunk, at_chunk, AtEnd, found_such}
use Rattle.chunks.proofs.Steps.{step_cases}

-- a walk that goes on is within the file
abbrev pub Within : (L : ℕ) → Walking → Type 0
Within L r = AtChunk (λ at. at ≤ L) r

-- and 8 bytes further at least
abbrev pub Further : (at L : ℕ) → Walking → Type 0
Further at L r = AtChunk (λ on. (at + 8 ≤ on) × (on ≤ L)) r

pub step_further : (w : List ℕ) (at : ℕ) (rate : Option ℕ) (L : ℕ) → Further at L (stepped w at rate L)
step_further w at rate L =
    step_cases (Further at L) w at rate L (λ why. tt) (λ r e d a. tt) (λ e f a. (omega arith, omega (arith, (format_told w at L _ refl a).0)))
    (λ a. let told = other_told w at L _ refl a in (omega arith, omega (arith, told.0, told.1)))

pub step_within : (w : List ℕ) (at : ℕ) (rate : Option ℕ) (L : ℕ) → Within L (stepped w at rate L)
step_within w at rate L = at_chunk (λ on. (at + 8 ≤ on) × (on ≤ L)) (λ on. on ≤ L) (λ on f. f.1) (stepped w at rate L) (step_further w at rate L)

-- the first chunk is within the file
pub begun_within : (w : List ℕ) (L : ℕ) → Further 4 L (begun w L)
unfolding begun
begun_within w L = going_cases (Further 4 L) (verdict (head_rows w 0 L L)) (Ok (Chunk 12 None)) (λ e. (omega arith, head_told w L e)) (λ why e. tt)

-- and where there is one the file has its mark
pub begun_marked : (w : List ℕ) (L : ℕ) (walk : Walk) → begun w L ≡ Ok walk → 12 ≤ L
unfolding begun
begun_marked w L walk =
    going_cases (λ r. r ≡ Ok walk → 12 ≤ L) (verdict (head_rows w 0 L L)) (Ok (Chunk 12 None)) (λ a e. head_told w L a) (λ why a e. absurd (cc e))

-- a walk that has ended
abbrev pub stands : Result Samples Refusal → Walking
stands (Ok samples) = Ok (End samples)
stands (Err why) = Err why

module _ (see : ℕ → List ℕ) (L : ℕ) where
  -- stays
  pub walked_ended : (k : ℕ) (samples : Samples) → walked k see L (Ok (End samples)) ≡ Ok (End samples)
  unfolding walked
  walked_ended zero samples = refl
  walked_ended (suc k) samples = walked_ended k samples

  pub walked_refused : (k : ℕ) (why : Refusal) → walked k see L (Err why) ≡ Err why
  unfolding walked
  walked_refused zero why = refl
  walked_refused (suc k) why = walked_refused k why

  -- one that has not ended makes a step
  pub walked_on : (k at : ℕ) (rate : Option ℕ) → walked (suc k) see L (Ok (Chunk at rate)) ≡ walked k see L (stepped (see at) at rate L)
  unfolding walked
  walked_on k at rate = refl

  -- any number of steps above that of the bytes left leads to the same end
  enough : (k j : ℕ) (r : Walking) → AtChunk (λ at. (at ≤ L) × (L - at < k) × (L - at < j)) r → walked k see L r ≡ walked j see L r
  unfolding walked
  enough k j (Ok (End samples)) h = walked_ended k samples ∙ sym (walked_ended j samples)
  enough k j (Err why) h = walked_refused k why ∙ sym (walked_refused j why)
  enough zero j (Ok (Chunk at rate)) h = absurd (omega (arith, h.1))
  enough (suc k) zero (Ok (Chunk at rate)) h = absurd (omega (arith, h.2))
  enough (suc k) (suc j) (Ok (Chunk at rate)) h =
      enough k j (stepped (see at) at rate L) (at_chunk (λ on. (at + 8 ≤ on) × (on ≤ L)) (λ on. (on ≤ L) × (L - on < k) × (L - on < j))
      (λ on f. (f.1, omega (arith, h.0, h.1, f.0, f.1), omega (arith, h.0, h.2, f.0, f.1))) (stepped (see at) at rate L)
      (step_further (see at) at rate L))

  -- as many steps as bytes are left lead to an end
  walked_ends : (k : ℕ) (r : Walking) → AtChunk (λ at. (at ≤ L) × (L - at < k)) r → walked k see L r ≡ stands (ended (walked k see L r))
  unfolding walked
  walked_ends k (Ok (End samples)) h = rw (walked_ended k samples)
  walked_ends k (Err why) h = rw (walked_refused k why)
  walked_ends zero (Ok (Chunk at rate)) h = absurd (omega (arith, h.1))
  walked_ends (suc k) (Ok (Chunk at rate)) h =
      walked_ends k (stepped (see at) at rate L) (at_chunk (λ on. (at + 8 ≤ on) × (on ≤ L)) (λ on. (on ≤ L) × (L - on < k))
      (λ on f. (f.1, omega (arith, h.0, h.1, f.0, f.1))) (stepped (see at) at rate L) (step_further (see at) at rate L))

  -- so every walk ends, at samples or at a refusal
  pub walk_ends : walked L see L (begun (see 0) L) ≡ stands (walk_in see L)
  unfolding walk_in
  walk_ends =
      walked_ends L (begun (see 0) L) (at_chunk (λ on. (4 + 8 ≤ on) × (on ≤ L)) (λ on. (on ≤ L) × (L - on < L))
      (λ on f. (f.1, omega (arith, f.0, f.1))) (begun (see 0) L) (begun_within (see 0) L))

  -- how many steps are enough
  abbrev pub room : Walking → ℕ
  room (Ok (Chunk at rate)) = suc (L - at)
  room (Ok (End samples)) = 0
  room (Err why) = 0

  -- from where it stands a walk comes to this end
  abbrev pub Leads : Result Samples Refusal → Walking → Type 0
  Leads end r = ended (walked (room r) see L r) ≡ end

  -- a chunk behind this place leaves steps enough
  roomy : (k at : ℕ) (r : Walking) → L - at ≤ k → Further at L r → walked (room r) see L r ≡ walked k see L r
  roomy k at (Ok (Chunk on rate)) h f = enough (suc (L - on)) k (Ok (Chunk on rate)) (f.1, omega arith, omega (arith, h, f.0, f.1))
  roomy k at (Ok (End samples)) h f = walked_ended 0 samples ∙ sym (walked_ended k samples)
  roomy k at (Err why) h f = walked_refused 0 why ∙ sym (walked_refused k why)

  -- at the start
  pub leads_begun : Leads (walk_in see L) (begun (see 0) L)
  unfolding walk_in
  leads_begun = ap ended (roomy L 4 (begun (see 0) L) (omega arith) (begun_within (see 0) L))

  -- and after a step
  pub leads_on : (end : Result Samples Refusal) (at : ℕ) (rate : Option ℕ) → at ≤ L → Leads end (Ok (Chunk at rate))
      → Leads end (stepped (see at) at rate L)
  leads_on end at rate l e =
      ap ended (roomy (L - at) at (stepped (see at) at rate L) (omega arith) (step_further (see at) at rate L)
      ∙ sym (walked_on (L - at) at rate)) ∙ e

  -- which takes room away
  pub room_less : (at : ℕ) (rate : Option ℕ) → at ≤ L → room (stepped (see at) at rate L) < suc (L - at)
  room_less at rate l = go (stepped (see at) at rate L) (step_further (see at) at rate L)
    where
      go : (r : Walking) → Further at L r → room r < suc (L - at)
      go (Ok (Chunk on rate)) f = omega (arith, f.0, f.1)
      go (Ok (End samples)) f = omega arith
      go (Err why) f = omega arith

-- ---- where the samples are

-- they are within the file
abbrev pub Inside : (L : ℕ) → Samples → Type 0
Inside L s = s.at + 2 * s.count ≤ L

step_inside : (w : List ℕ) (at : ℕ) (rate : Option ℕ) (L : ℕ) → AtEnd (Inside L) (stepped w at rate L)
step_inside w at rate L =
    step_cases (AtEnd (Inside L)) w at rate L (λ why. tt)
    (λ r e d a. let told = data_told w at L _ refl a in omega (arith, told.0, told.1)) (λ e f a. tt) (λ a. tt)

walked_inside : (k : ℕ) (see : ℕ → List ℕ) (L : ℕ) (r : Walking) → AtEnd (Inside L) r → AtEnd (Inside L) (walked k see L r)
unfolding walked
walked_inside zero see L r h = h
walked_inside (suc k) see L r h = walked_inside k see L (on_by see L r) (on r h)
  where
    on : (r : Walking) → AtEnd (Inside L) r → AtEnd (Inside L) (on_by see L r)
    on (Ok (Chunk at rate)) h = step_inside (see at) at rate L
    on (Ok (End samples)) h = h
    on (Err why) h = h

begun_inside : (w : List ℕ) (L : ℕ) → AtEnd (Inside L) (begun w L)
unfolding begun
begun_inside w L = going_cases (AtEnd (Inside L)) (verdict (head_rows w 0 L L)) (Ok (Chunk 12 None)) (λ e. tt) (λ why e. tt)

pub walk_inside : (file : List ℕ) (s : Samples) → walk_of file ≡ Ok s → Inside (length file) s
unfolding walk_of walk_in
walk_inside file s e =
    found_such (Inside (length file)) _ s e (walked_inside (length file) _ (length file) (begun file (length file)) (begun_inside file (length file)))
