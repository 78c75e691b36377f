-- Laws of an accepted plan's stages: their radices and strides, and the cells as whole blocks at each. Assumes nothing.
use Rattle.sequences.proofs.Basics.{◌≡◌, sym, ap, ◌∙◌, ℕ, suc, ◌*◌, ◌/◌, ◌≤◌, ◌<◌, le_of_lt, mul-div_left, arith, true, List, length, get_or, drop, get_or-take}
use Rattle.sequences.proofs.Basics.{take-take, length-take-le}
use Rattle.plan.specs.declared.Record.{Record}
use Rattle.radices.specs.Lists.{product}
use Rattle.plan.specs.Record.{is_planned}
use Rattle.counts.specs.Counts.{radix, stride}
use Rattle.radices.proofs.Lists.{get_d_any}
use Rattle.plan.proofs.Bounds.{plan_sized, plan_half, plan_long, plan_radix_bounds}
use Rattle.schedule.specs.Parts.{Done}
use Rattle.schedule.specs.Plans.{in_use}
use Rattle.schedule.specs.Stage.{Kernel, Arith, output, stage}
use Rattle.schedule.proofs.Cells.{pos_left, pos_right, by_radix, by_both}
use Rattle.schedule.proofs.Fill.{done_stage}
use Rattle.schedule.proofs.Strides.{stage_parts}

module _ (p : Record) (e : is_planned p ≡ true) where
  pub use-length : length (in_use p) ≡ p.count
  unfolding in_use
  use-length = length-take-le p.count p.radices (plan_long p e)

  pub use-product : p.half ≡ product (in_use p)
  unfolding in_use
  use-product = sym (plan_sized p e).made

  pub use-stride : (j : ℕ) → j ≤ p.count → stride (in_use p) j ≡ stride p.radices j
  unfolding in_use stride
  use-stride j l = ap product (take-take j p.count p.radices l)

  pub use-radix : (j : ℕ) → j < p.count → radix (in_use p) j ≡ get_or p.radices j 0
  unfolding in_use radix
  use-radix j l = get_or-take p.count p.radices j 1 l ∙ get_d_any p.radices j 1 0 (omega (arith, plan_long p e))

  -- the cells are whole blocks at stage j
  pub use-parts : (j : ℕ) → j < p.count → p.half ≡ product (drop (suc j) (in_use p)) * (stride (in_use p) j * radix (in_use p) j)
  use-parts j l = use-product ∙ stage_parts (in_use p) j (rw use-length l)

  pub use-radix-some : (j : ℕ) → j < p.count → 0 < radix (in_use p) j
  use-radix-some j l = rw (use-radix j l) (omega (arith, plan_radix_bounds p e j l))

  pub use-radix-few : (j : ℕ) → j < p.count → radix (in_use p) j ≤ 8
  use-radix-few j l = rw (use-radix j l) (omega (arith, plan_radix_bounds p e j l))

  pub use-stride-some : (j : ℕ) → j < p.count → 0 < stride (in_use p) j
  use-stride-some j l = pos_left (stride (in_use p) j) (radix (in_use p) j)
      (pos_right (product (drop (suc j) (in_use p))) (stride (in_use p) j * radix (in_use p) j) (rw (← use-parts j l) (plan_half p e).0))

-- stage j by the radix and the stride that the code finds in the record
module _ (p : Record) (e : is_planned p ≡ true) (j : ℕ) (l : j < p.count) where
  abbrev r : ℕ
  r = get_or p.radices j 0

  abbrev s : ℕ
  s = stride p.radices j

  same_stride : stride (in_use p) j ≡ s
  same_stride = use-stride p e j (le_of_lt l)

  same_radix : radix (in_use p) j ≡ r
  same_radix = use-radix p e j l

  pub found_some : 0 < r
  found_some = omega (arith, plan_radix_bounds p e j l)

  pub found_stride : 0 < s
  found_stride = rw (← same_stride) (use-stride-some p e j l)

  pub found_parts : p.half ≡ product (drop (suc j) (in_use p)) * (s * r)
  found_parts = rw (← same_stride, ← same_radix) (use-parts p e j l)

  -- the iterations are whole blocks
  pub found_whole : p.half / r ≡ p.half / r / s * s
  found_whole = rw (by_radix p.half _ s r found_parts found_stride found_some, mul-div_left (product (drop (suc j) (in_use p))) found_stride)

  pub found_blocks : p.half / r / s ≡ p.half / (s * r)
  found_blocks = rw (by_radix p.half _ s r found_parts found_stride found_some, by_both p.half _ s r found_parts found_stride found_some)
      (mul-div_left (product (drop (suc j) (in_use p))) found_stride)

  -- and fill the cells
  pub found_size : p.half / r * r ≡ p.half
  found_size = rw (by_radix p.half _ s r found_parts found_stride found_some) (omega (arith, found_parts))

  -- all outputs in their cells make the stage
  pub found_stage : {A : Type 0} (kernel : Kernel A) (a : Arith A) (xs ys : List A) → length ys ≡ p.half
      → Done s r (output kernel a j (p.half / r) s r (λ q. get_or xs q a.blank)) (λ k. get_or ys k a.blank) (λ i q. i < p.half / r)
      → ys ≡ stage kernel a p.half (in_use p) j xs
  unfolding stage
  found_stage kernel a xs ys long done =
      rw (same_stride, same_radix) (done_stage kernel a j p.half _ s r found_parts found_stride found_some xs ys long done)
