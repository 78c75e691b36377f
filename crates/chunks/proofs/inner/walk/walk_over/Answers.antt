-- `walk_over` steps over the chunks of a file; the walk that is left leads to the same end. Assumes nothing.
use Rattle.std.proofs.lemmas.Result.{err_from_is_err_and}
use Rattle.sequences.proofs.Basics.{◌≡◌, sym, ap, ◌∙◌, subst, ℕ, ◌+◌, ◌<◌, ◌≤◌, ◌-◌, List, length, drop, take}
use Rattle.sequences.proofs.Pasted.{take_rest}
use Rattle.std.specs.Prelude.{Option, Ok}
use Rattle.chunks.specs.Chunks.{Walking, begun, stepped, walked, walk_of}
use Rattle.chunks.specs.declared.inner.walk.Walk.{Walk}
use Rattle.chunks.specs.declared.inner.walk.Walk.TheVariants.{Chunk}
use Rattle.chunks.proofs.Going.{at_chunk}
use Rattle.chunks.proofs.Walks.{Within, begun_within, step_within, Leads, leads_begun, leads_on, room, room_less}
use Rattle.chunks.proofs.inner.walk.walk_over.Goals as goal

-- what a whole file shows
abbrev rest : List ℕ → ℕ → List ℕ
rest file at = drop at file

-- a walk that comes to the file's end
abbrev Leading : List ℕ → Walking → Type 0
Leading file r = Within (length file) r × Leads (rest file) (length file) (walk_of file) r

-- its beginning is one
begins : (file : List ℕ) (r s : Walking) → r ≡ begun file (length file) → r ≡ s → Leading file s
unfolding walk_of
begins file r s e f =
    let first = begun file (length file) in
    subst (Leading file) (sym e ∙ f) (
      at_chunk (λ on. (4 + 8 ≤ on) × (on ≤ length file)) (λ on. on ≤ length file) (λ on f. f.1) first (begun_within file (length file)),
      leads_begun (rest file) (length file),
    )

-- and so is each step, which leaves less room
steps : (file : List ℕ) (w : Walk) (at : ℕ) (rate : Option ℕ) (r s : Walking) → Leading file (Ok w) → w ≡ Chunk at rate
    → r ≡ stepped (take (length file - at) (drop at file)) at rate (length file) → r ≡ s
    → Leading file s × (room (rest file) (length file) s < room (rest file) (length file) (Ok w))
steps file w at rate r s l e f g =
    let on : Leading file (Ok (Chunk at rate)) = subst (λ (v : Walk). Leading file (Ok v)) e l in
    let is : stepped (drop at file) at rate (length file) ≡ s
    = sym (f ∙ ap (λ (bs : List ℕ). stepped bs at rate (length file)) (take_rest at file)) ∙ g in
    subst (λ (x : Walking). Leading file x × (room (rest file) (length file) x < room (rest file) (length file) (Ok w))) is (
      (step_within (drop at file) at rate (length file), leads_on (rest file) (length file) (walk_of file) at rate on.0 on.1),
      rw e (room_less (rest file) (length file) at rate on.0),
    )

pub returns-in_err-walk : goal.returns-in_err-walk
unfolding walked
returns-in_err-walk c = let p = err_from_is_err_and c.from_residual.result c.from_residual.ensures.1 in
    let end = (begins c.args.file.now _ _ c.begin.ensures c.in_err-walk.was).1 in rw (p.1, p.2) end

pub loop-walk-init : goal.loop-walk-init
loop-walk-init c = begins c.args.file.now _ _ c.begin.ensures c.in_ok-walk.was

pub returns-in_err-walk-in-Chunk : goal.returns-in_err-walk-in-Chunk
unfolding walked
returns-in_err-walk-in-Chunk c = let p = err_from_is_err_and c.from_residual-in_err-walk-in-Chunk.result c.from_residual-in_err-walk-in-Chunk.ensures.1 in
    let end = (steps c.args.file.now _ _ _ _ _ c.loop-walk.invariant c.in-Chunk.is c.step.ensures c.in_err-walk-in-Chunk.was).0.1 in rw (p.1, p.2) end

pub loop-walk-smaller : goal.loop-walk-smaller
loop-walk-smaller c = (steps c.args.file.now _ _ _ _ _ c.loop-walk.invariant c.in-Chunk.is c.step.ensures c.in_ok-walk-in-Chunk.was).1

pub loop-walk-preserved : goal.loop-walk-preserved
loop-walk-preserved c = (steps c.args.file.now _ _ _ _ _ c.loop-walk.invariant c.in-Chunk.is c.step.ensures c.in_ok-walk-in-Chunk.was).0

pub returns-in-End : goal.returns-in-End
unfolding walked
returns-in-End c = (subst (λ (v : Walk). Leading c.args.file.now (Ok v)) c.in-End.is c.loop-walk.invariant).1
