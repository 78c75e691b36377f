-- Laws of an accepted plan: its order, its sizes, and bounds of its radices. Assumes nothing.
use Rattle.sequences.proofs.Basics.{◌≡◌, refl, sym, ap, ◌∙◌, ℕ, zero, suc, ◌*◌, ◌<◌, ◌≤◌, arith, true, List, [], ◌∷◌, ◌++◌, append-nil, length, get_or, take}
use Rattle.sequences.proofs.Basics.{replicate, get_or-take, length-take-le}
use Rattle.radices.specs.Lists.{is_radix}
use Rattle.merging.specs.Merging.{tally, sorted}
use Rattle.merging.specs.declared.inner.merging.Tally.{Tally}
use Rattle.plan.specs.Record.{in_order, sized, is_planned}
use Rattle.plan.specs.declared.Record.{Record}
use Rattle.radices.proofs.Products.{Radical, radix_least, product_positive}
use Rattle.merging.proofs.Merging.{both}
use Rattle.merging.proofs.Weights.{radical_sorted}
use Rattle.plan.proofs.Records.{InOrder, in_order_lem, Sized, well_sized, order_fits}

-- an entry of a list of radices is a radix
radical_at : (xs : List ℕ) (j : ℕ) → Radical xs → j < length xs → is_radix (get_or xs j 0) ≡ true
unfolding Radical
radical_at [] j r h = absurd (omega arith)
radical_at (b ∷ bs) zero r h = r.0
radical_at (b ∷ bs) (suc j) r h = radical_at bs j r.1 (omega arith)

-- no entry is a 2
abbrev Twoless : List ℕ → Type 0
Twoless xs = (j : ℕ) → get_or xs j 0 ≡ 2 → ⊥

twoless_after : (k v : ℕ) (xs : List ℕ) → (v ≡ 2 → ⊥) → Twoless xs → Twoless (replicate k v ++ xs)
twoless_after zero v xs n t j = t j
twoless_after (suc k) v xs n t zero = n
twoless_after (suc k) v xs n t (suc j) = twoless_after k v xs n t j

-- in ascending order a single 2 stands first
two_first : (t : Tally) → t.twos ≤ 1 → (j : ℕ) → get_or (sorted t) (suc j) 0 ≡ 2 → ⊥
unfolding sorted
two_first t one j = go t.twos _ one (twoless_after t.threes 3 _ (λ e. omega arith) (twoless_after t.fours 4 _ (λ e. omega arith)
    (twoless_after t.fives 5 _ (λ e. omega arith) (twoless_after t.sevens 7 _ (λ e. omega arith)
    (rw append-nil at (twoless_after t.eights 8 [] (λ e. omega arith) (λ i e. omega arith)))))))
  where
    go : (k : ℕ) (xs : List ℕ) → k ≤ 1 → Twoless xs → get_or (replicate k 2 ++ xs) (suc j) 0 ≡ 2 → ⊥
    go zero xs l t = t (suc j)
    go (suc zero) xs l t = t j
    go (suc (suc k)) xs l t = absurd (omega arith)

module _ (p : Record) (e : is_planned p ≡ true) where
  pub plan_order : InOrder p.count p.radices
  unfolding is_planned
  plan_order = in_order_lem p.count p.radices (both (in_order p.count p.radices) (sized p) e).0

  pub plan_sized : Sized p
  unfolding is_planned
  plan_sized = well_sized p (both (in_order p.count p.radices) (sized p) e).1

  pub plan_radical : Radical (take p.count p.radices)
  plan_radical = rw plan_order.used (radical_sorted (tally (take p.count p.radices)))

  -- n is twice half, between 2 and the largest length
  pub plan_half : (0 < p.half) × (p.half ≤ 4096)
  plan_half = let s = plan_sized in omega (arith, s.small, s.twice, s.made, product_positive _ plan_radical)

  pub plan_long : p.count ≤ length p.radices
  unfolding is_planned
  plan_long = order_fits p.count p.radices (both (in_order p.count p.radices) (sized p) e).0

  -- each radix in use
  pub plan_radix : (j : ℕ) → j < p.count → is_radix (get_or p.radices j 0) ≡ true
  plan_radix j h = ap is_radix (sym (get_or-take p.count p.radices j 0 h))
      ∙ radical_at (take p.count p.radices) j plan_radical (omega (arith, length-take-le p.count p.radices plan_long))

  pub plan_radix_bounds : (j : ℕ) → j < p.count → (2 ≤ get_or p.radices j 0) × (get_or p.radices j 0 ≤ 8)
  plan_radix_bounds j h = radix_least (get_or p.radices j 0) (plan_radix j h)

  -- only the first stage can have radix 2
  pub plan_later : (j : ℕ) → (j ≡ 0 → ⊥) → j < p.count → 3 ≤ get_or p.radices j 0
  plan_later zero n h = absurd (n refl)
  plan_later (suc j) n h =
      let t = tally (take p.count p.radices) in
      let two : get_or p.radices (suc j) 0 ≡ 2 → ⊥ = λ e. two_first t (omega (arith, plan_order.one)) j
      (ap (λ xs. get_or xs (suc j) 0) (sym plan_order.used) ∙ get_or-take p.count p.radices (suc j) 0 h ∙ e) in
      omega (arith, plan_radix_bounds (suc j) h, two)

  pub plan_twice : p.n ≡ 2 * p.half
  plan_twice = plan_sized.twice

  pub plan_some : 0 < p.n
  plan_some = omega (arith, plan_half, plan_twice)

  pub plan_few : p.n ≤ 8192
  plan_few = plan_sized.small
