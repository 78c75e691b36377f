-- Where a walk over chunks that goes on stands. Assumes nothing.
use Rattle.sequences.proofs.Basics.{◌≡◌, sym, ap, ◌∙◌, subst, ℕ, ◌≤◌, ◌<◌, arith, List}
use Rattle.std.specs.Prelude.{Option, Ok}
use Rattle.chunks.specs.Chunks.{Walking, begun, stepped}
use Rattle.chunks.specs.declared.inner.walk.Walk.{Walk}
use Rattle.chunks.specs.declared.inner.walk.Walk.TheVariants.{Chunk}
use Rattle.chunks.proofs.Walks.{Further, begun_marked, step_further}

-- behind the chunk that it was at, and within the file
pub goes_on : (w : List ℕ) (at : ℕ) (rate : Option ℕ) (L on : ℕ) (next : Option ℕ) (walk : Walk) {r : Walking} → r ≡ stepped w at rate L
    → r ≡ Ok walk → walk ≡ Chunk on next → (at < on) × (on ≤ L)
goes_on w at rate L on next walk e f g =
    let far : Further at L (Ok (Chunk on next)) = subst (Further at L) (sym e ∙ f ∙ ap (λ (x : Walk). Ok x) g) (step_further w at rate L) in
    (omega (arith, far.0), far.1)

-- at the start the file has its mark
pub has_mark : (w : List ℕ) (L : ℕ) (walk : Walk) {r : Walking} → r ≡ begun w L → r ≡ Ok walk → 12 ≤ L
has_mark w L walk e f = begun_marked w L walk (sym e ∙ f)
