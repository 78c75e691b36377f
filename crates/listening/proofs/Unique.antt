-- Two outcomes that meet a promise are equal. Assumes nothing.
use Rattle.sequences.proofs.Basics.{◌≡◌, ap, ◌∙◌, ℕ, List, length}
use lib.Ieee.{Float}
use Rattle.refusal.specs.Refusal.{left}
use Rattle.refusal.specs.Refusal.{Verdict}
use Rattle.refusal.proofs.Unique.{agree}
use Rattle.plan.specs.declared.Record.{Record}
use Rattle.transform.specs.Transforms.{Slices, forward_of}
use Rattle.hear.specs.Hear.{hear_verdict}
use Rattle.listening.specs.Block.{block_of, Listens}
use Rattle.listening.specs.declared.Block.{Block}

module _ (p : Record) (W : ℕ) (xs weights stage end : List Float) (lo hi : ℕ) (threshold : Float) (before : Slices) where
  -- the verdict on samples that are weighed, and the slices of their spectrum
  abbrev told : List Float → Verdict
  told ys = hear_verdict p W ys (length before.0) (length before.1) stage end lo hi

  abbrev made : List Float → Slices
  made ys = forward_of p W stage end ys before.1

  pub Listens_one : {r s : Block} {ys zs : List Float} {x y : Slices} → Listens p W xs weights stage end lo hi threshold before r ys x
      → Listens p W xs weights stage end lo hi threshold before s zs y
      → (r ≡ s) × (ys ≡ zs) × (x ≡ y)
  Listens_one a b =
      let same = agree a.samples b.samples in (
        agree (a.answer ∙ ap (λ (l : List Float). block_of (told l) (made l).0 lo hi p.half threshold) same) b.answer,
        same,
        agree (a.cells ∙ ap (λ (l : List Float). left (told l) (made l) before) same) b.cells,
      )
