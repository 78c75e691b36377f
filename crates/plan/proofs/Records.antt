-- Laws of plan records: what an accepted list is, that the record depends on n alone, and which records planning gives. Assumes nothing.
use lib.Pointwise.{pointwise}
use Rattle.sequences.proofs.Basics.{◌≡◌, refl, sym, ap, ◌∙◌, ℕ, zero, suc, ◌+◌, ◌-◌, ◌*◌, ◌/◌, ◌%◌, ◌<◌, ◌≤◌, one-mul, arith, true, false}
use Rattle.sequences.proofs.Basics.{Bool, ◌&&◌, false≢true, List, [], ◌∷◌, eqb, length, take, replicate, length-take, take_at}
use Rattle.sequences.proofs.Basics.{eqb-true, eq-eqb, ne_eqb, lt-ltb, le-leb, lt-leb, leb-true}
use Rattle.refusal.proofs.Rows.{deciding, accepted}
use Rattle.refusal.specs.Refusal.{Accepted}
use Rattle.radices.specs.Lists.{product, is_radix, index_of, first_bad, first_over, largest, padded, eq_list}
use Rattle.sequences.specs.Lists.{first_that}
use Rattle.halving.specs.Half.{half, halving, halved}
use Rattle.merging.specs.Merging.{tally, total, merged, sorted}
use Rattle.plan.specs.Record.{plan_verdict, factors, record_of, Plannable, in_order, sized, is_planned}
use Rattle.plan.specs.declared.Record.{Record}
use Rattle.merging.specs.declared.inner.merging.Tally.{Tally}
use Rattle.radices.proofs.Lists.{length_padded}
use Rattle.merging.proofs.Merging.{and_false, both, low, Keeps, length_sorted, merged_leaves, closed, none_at, merged_stop}
use Rattle.radices.proofs.Products.{Radical, radical, radical_none_bad, over_none_small, small_over_none, entries_few, bad_none, over_large, over_none_at}
use Rattle.halving.proofs.Half.{Halved, half_halves}
use Rattle.merging.proofs.Weights.{radical_sorted, weight, product_sorted, product_tally, tally_sorted, total_few, weight_tells}

-- radices only, at most the largest length, not empty, even
pub record Good (xs : List ℕ) : Type 0 where
  pub some : 0 < length xs
  pub radices : Radical xs
  pub small : product xs ≤ largest
  pub even : product xs % 2 ≡ 0

pub accepted_good : (xs : List ℕ) → plan_verdict xs ≡ Accepted → Good xs
unfolding plan_verdict
accepted_good xs e =
    let none : length xs ≡ 0 → ⊥ = search accepted in let bad : length xs ≤ first_bad xs = search accepted in
    let over : length xs ≤ first_over 1 xs = search accepted in
    let odd : product xs % 2 ≡ 1 → ⊥ = search accepted depth 8 in
    record {
      some = positive (length xs) none;
      radices = radical xs (bad_none xs bad);
      small = rw one-mul at (over_none_small 1 xs (omega arith) (over_none_at xs over));
      even = even_or_odd (product xs) odd;
    }
  where
    positive : (n : ℕ) → (n ≡ 0 → ⊥) → 0 < n
    positive n h = omega arith

    even_or_odd : (n : ℕ) → (n % 2 ≡ 1 → ⊥) → n % 2 ≡ 0
    even_or_odd n h = omega arith

pub good_accepted : (xs : List ℕ) → Good xs → plan_verdict xs ≡ Accepted
unfolding plan_verdict
good_accepted xs g =
    let some : length xs ≡ 0 → ⊥ = λ e. omega (arith, g.some) in
    let bad : length xs ≤ first_bad xs = omega (arith, radical_none_bad xs g.radices) in
    let over : length xs ≤ first_over 1 xs = omega (arith, small_over_none 1 xs g.radices (rw one-mul g.small)) in
    let even : product xs % 2 ≡ 1 → ⊥ = λ e. omega (arith, g.even) in
    sym (search deciding depth 8)

pub good_few : (xs : List ℕ) → Good xs → length xs ≤ 13
good_few xs g = entries_few xs g.radices g.small

pub good_halved : (xs : List ℕ) → Good xs → Halved xs (half xs)
good_halved xs g = half_halves xs g.radices g.even

-- ---- the radices of the stages

-- counted
abbrev pub stages : List ℕ → Tally
stages xs = merged (tally (half xs))

pub weight_keeps : {t u : Tally} → Keeps t u → weight u ≡ weight t
unfolding weight
weight_keeps k = rw (k.exponents, k.threes, k.fives, k.sevens)

-- merging keeps the product
pub merged_product : (xs : List ℕ) → Radical xs → product (sorted (merged (tally xs))) ≡ product xs
merged_product xs r = product_sorted (merged (tally xs)) ∙ weight_keeps (merged_leaves (tally xs)).keeps ∙ sym (product_tally xs r)

pub factors_product : (xs : List ℕ) → Good xs → 2 * product (factors xs) ≡ product xs
unfolding factors
factors_product xs g =
    let h = good_halved xs g in
    ap (λ (n : ℕ). 2 * n) (merged_product (half xs) h.radices) ∙ h.twice

pub factors_few : (xs : List ℕ) → Good xs → total (stages xs) ≤ 13
factors_few xs g =
    let h = good_halved xs g in let k = (merged_leaves (tally (half xs))).keeps in
    omega (arith, k.fewer, total_few (half xs), h.fewer, good_few xs g)

-- ---- the record depends on n alone

low_same : (a b c d : ℕ) → a + b ≤ 1 → c + d ≤ 1 → a + 2 * b ≡ c + 2 * d → (a ≡ c) × (b ≡ d)
low_same a zero c zero p q e = (omega arith, refl)
low_same a zero c (suc d) p q e = absurd (omega arith)
low_same a (suc b) c zero p q e = absurd (omega arith)
low_same a (suc b) c (suc d) p q e = (omega arith, omega arith)

-- the same exponents, and at most one 2 or 4 in each: the same counts
same_tally : (t u : Tally) → low t ≤ 1 → low u ≤ 1 → weight t ≡ weight u → t ≡ u
same_tally t u p q e =
    let w = weight_tells t u e in let a = closed t p in let b = closed u q in
    let l = low_same t.twos t.fours u.twos u.fours p q (a.rest ∙ ap (λ (n : ℕ). n % 3) w.0 ∙ sym b.rest) in
    let g = a.eights ∙ ap (λ (n : ℕ). n / 3) w.0 ∙ sym b.eights in
    λ i. record { twos = l.0 i; threes = w.1.0 i; fours = l.1 i; fives = w.1.1.0 i; sevens = w.1.1.1 i; eights = g i }

stages_weight : (xs : List ℕ) → Good xs → 2 * weight (stages xs) ≡ product xs
unfolding factors
stages_weight xs g = ap (λ (n : ℕ). 2 * n) (sym (product_sorted (stages xs))) ∙ factors_product xs g

pub stages_by_n : (xs ys : List ℕ) → Good xs → Good ys → product xs ≡ product ys → stages xs ≡ stages ys
stages_by_n xs ys g h e = same_tally (stages xs) (stages ys) (merged_leaves (tally (half xs))).one (merged_leaves (tally (half ys))).one
    (omega (arith, stages_weight xs g, stages_weight ys h, e))

pub record_by_n : (xs ys : List ℕ) → Good xs → Good ys → product xs ≡ product ys → record_of xs ≡ record_of ys
unfolding record_of factors
record_by_n xs ys g h e = rw (stages_by_n xs ys g h e, e)

-- ---- the test of a record

list_same : (xs ys : List ℕ) → eq_list xs ys ≡ true → xs ≡ ys
unfolding eq_list
list_same [] [] e = refl
list_same [] (y ∷ ys) e = absurd (false≢true e)
list_same (x ∷ xs) [] e = absurd (false≢true e)
list_same (x ∷ xs) (y ∷ ys) e =
    let b = both (eqb x y) (eq_list xs ys) e in
    rw (eqb-true x y b.0, list_same xs ys b.1)

pub list_refl : (xs : List ℕ) → eq_list xs xs ≡ true
unfolding eq_list
list_refl [] = refl
list_refl (x ∷ xs) = simp (eq-eqb x x refl) (list_refl xs)

pub take_padded : (xs : List ℕ) (n : ℕ) → length xs ≡ n → take n (padded xs) ≡ xs
unfolding padded
take_padded xs n e = take_at xs (replicate (13 - length xs) 0) n e

-- the radices of a record in order, as counts
module _ (t : Tally) (few : total t ≤ 13) (one : low t ≤ 1) where
  order_sorted : (k : ℕ) → total t ≡ k → in_order k (padded (sorted t)) ≡ true
  unfolding in_order
  order_sorted k e =
      let used : take k (padded (sorted t)) ≡ sorted t = take_padded (sorted t) k (length_sorted t ∙ e) in
      rw (used, tally_sorted t) (simp (le-leb k 13 (omega arith), eq-eqb (total t) k e, le-leb (low t) 1 one) (list_refl (padded (sorted t))))

-- what the test of the radices tells
pub record InOrder (k : ℕ) (rs : List ℕ) : Type 0 where
  pub few : k ≤ 13
  pub counted : total (tally (take k rs)) ≡ k
  pub one : low (tally (take k rs)) ≤ 1
  pub array : rs ≡ padded (sorted (tally (take k rs)))
  pub used : take k rs ≡ sorted (tally (take k rs))

pub in_order_lem : (k : ℕ) (rs : List ℕ) → in_order k rs ≡ true → InOrder k rs
unfolding in_order
in_order_lem k rs e =
    let a = both _ _ e in let b = both _ _ a.0 in let c = both _ _ b.0 in let t = tally (take k rs) in
    let counted : total t ≡ k = eqb-true (total t) k c.1 in
    let array : rs ≡ padded (sorted t) = list_same rs (padded (sorted t)) a.1 in
    record {
      few = leb-true k 13 c.0;
      counted = counted;
      one = leb-true (low t) 1 b.1;
      array = array;
      used = ap (take k) array ∙ take_padded (sorted t) k (length_sorted t ∙ counted);
    }

-- planning gives only records that pass
pub planned_passes : (xs : List ℕ) → Good xs → is_planned (record_of xs) ≡ true
unfolding is_planned record_of sized factors
planned_passes xs g =
    let t = stages xs in let p = factors_product xs g in
    let used : take (length (sorted t)) (padded (sorted t)) ≡ sorted t = take_padded (sorted t) (length (sorted t)) refl in
    rw (order_sorted t (factors_few xs g) (merged_leaves (tally (half xs))).one (length (sorted t)) (sym (length_sorted t)), used)
    (simp (
      le-leb (product xs) largest g.small,
      eq-eqb (product xs) (2 * (product xs / 2)) (omega (arith, g.even)),
      eq-eqb (product (sorted t)) (product xs / 2) (omega (arith, p)),
    ))

-- what the test of the sizes tells
pub record Sized (p : Record) : Type 0 where
  pub small : p.n ≤ largest
  pub twice : p.n ≡ 2 * p.half
  pub made : product (take p.count p.radices) ≡ p.half

pub well_sized : (p : Record) → sized p ≡ true → Sized p
unfolding sized
well_sized p e =
    let a = both _ _ e in let b = both _ _ a.0 in
    record { small = leb-true p.n largest b.0; twice = eqb-true p.n (2 * p.half) b.1; made = eqb-true _ p.half a.1 }

-- a 2 in front of a list goes
half_two : (xs : List ℕ) → half (2 ∷ xs) ≡ xs
unfolding half halving halved index_of first_that
half_two xs = simp (lt-ltb 0 (suc (length xs)) (omega arith))

module _ (p : Record) (o : InOrder p.count p.radices) (s : Sized p) where
  -- the radices in use, with a 2 in front
  front : List ℕ
  front = 2 ∷ take p.count p.radices

  front_product : product front ≡ p.n
  unfolding front product
  front_product = ap (λ (n : ℕ). 2 * n) s.made ∙ sym s.twice

  front_good : Good front
  unfolding front Radical is_radix
  front_good =
      record {
        some = omega arith;
        radices = (refl, rw o.used (radical_sorted (tally (take p.count p.radices))));
        small = rw front_product s.small;
        even = rw front_product (omega (arith, s.twice));
      }

  front_factors : factors front ≡ take p.count p.radices
  unfolding front factors
  front_factors =
      let t = tally (take p.count p.radices) in
      rw (half_two (take p.count p.radices), merged_stop t (none_at t o.one)) (sym o.used)

  front_record : record_of front ≡ p
  unfolding record_of
  front_record =
      let rs = take p.count p.radices in
      let counts : length (factors front) ≡ p.count = ap length (front_factors ∙ o.used) ∙ length_sorted (tally rs) ∙ o.counted in
      let arrays : padded (factors front) ≡ p.radices = ap padded (front_factors ∙ o.used) ∙ sym o.array in
      let halves : product front / 2 ≡ p.half = omega (arith, front_product, s.twice) in
      λ i. record { n = front_product i; half = halves i; count = counts i; radices = arrays i }

-- every record that passes is planned by its own radices with a 2 in front
pub passes_plannable : (p : Record) → is_planned p ≡ true → Plannable p
unfolding is_planned
passes_plannable p e =
    let a = both (in_order p.count p.radices) (sized p) e in let o = in_order_lem p.count p.radices a.0 in
    let s = well_sized p a.1 in
    (front p o s, good_accepted (front p o s) (front_good p o s), front_record p o s)

-- and planning gives no other
pub plannable_passes : (p : Record) → Plannable p → is_planned p ≡ true
plannable_passes p (xs, e, f) = rw f at (planned_passes xs (accepted_good xs e))

-- two arrays compared, as std has it
pub same_arrays : (xs ys : List ℕ) → pointwise eqb xs ys ≡ eq_list xs ys
unfolding eq_list
same_arrays [] [] = refl
same_arrays [] (y ∷ ys) = refl
same_arrays (x ∷ xs) [] = refl
same_arrays (x ∷ xs) (y ∷ ys) = ap (λ (t : Bool). eqb x y && t) (same_arrays xs ys)

-- the product that `running_product` finds is not half, or it is
pub made_not : (xs : List ℕ) (half : ℕ) → first_bad xs ≡ length xs → half ≤ 4096 → first_over 1 xs < length xs → false ≡ eqb (product xs) half
made_not xs half b h l = sym (ne_eqb (product xs) half (λ (e : product xs ≡ half). omega (arith, over_large xs (radical xs b) l)))

-- ---- the test of the radices, as the code makes it

module _ (k : ℕ) (rs : List ℕ) where
  pub order_long : 13 < k → false ≡ in_order k rs
  unfolding in_order
  order_long h = simp (lt-leb k 13 h)

  module _ (t : Tally) (e : t ≡ tally (take k rs)) (few : k ≤ 13) where
    pub counted_few : total t ≤ 13
    counted_few = rw e (omega (arith, total_few (take k rs), length-take k rs))

    pub order_uncounted : (n : ℕ) → n ≡ length (sorted t) → (n ≡ k → ⊥) → false ≡ in_order k rs
    unfolding in_order
    order_uncounted n f h = simp (← e, le-leb k 13 few, ne_eqb (total t) k (λ (g : total t ≡ k). h (f ∙ length_sorted t ∙ g)))

    module _ (n : ℕ) (f : n ≡ length (sorted t)) (g : n ≡ k) where
      pub order_low : 1 < low t → false ≡ in_order k rs
      unfolding in_order
      order_low h = simp (← e, le-leb k 13 few, eq-eqb (total t) k (sym (length_sorted t) ∙ sym f ∙ g), lt-leb (low t) 1 h)

      pub order_same : low t ≤ 1 → (a : List ℕ) → a ≡ padded (sorted t) → eq_list rs a ≡ in_order k rs
      unfolding in_order
      order_same h a p = simp (← e, p, le-leb k 13 few, eq-eqb (total t) k (sym (length_sorted t) ∙ sym f ∙ g), le-leb (low t) 1 h)

-- ---- the test of a record, as the code makes it

pub order_radical : (k : ℕ) (rs : List ℕ) → in_order k rs ≡ true → first_bad (take k rs) ≡ length (take k rs)
order_radical k rs e =
    let o = in_order_lem k rs e in
    radical_none_bad (take k rs) (rw o.used (radical_sorted (tally (take k rs))))

pub order_fits : (k : ℕ) (rs : List ℕ) → in_order k rs ≡ true → k ≤ length rs
order_fits k rs e =
    let o = in_order_lem k rs e in let t = tally (take k rs) in
    let n : length (sorted t) ≤ 13 = omega (arith, length_sorted t, o.counted, o.few) in
    omega (arith, o.few, ap length o.array ∙ length_padded (sorted t) n)

module _ (p : Record) where
  pub planned_disordered : in_order p.count p.radices ≡ false → false ≡ is_planned p
  unfolding is_planned
  planned_disordered e = rw e

  pub planned_large : largest < p.n → false ≡ is_planned p
  unfolding is_planned sized
  planned_large h = simp (lt-leb p.n largest h) (sym (and_false (in_order p.count p.radices)))

  pub planned_not_twice : p.n ≤ largest → (p.n ≡ 2 * p.half → ⊥) → false ≡ is_planned p
  unfolding is_planned sized
  planned_not_twice h n = simp (le-leb p.n largest h, ne_eqb p.n (2 * p.half) n) (sym (and_false (in_order p.count p.radices)))

  pub planned_made : in_order p.count p.radices ≡ true → p.n ≤ largest → p.n ≡ 2 * p.half
      → eqb (product (take p.count p.radices)) p.half ≡ is_planned p
  unfolding is_planned sized
  planned_made e h t = simp (e, le-leb p.n largest h, eq-eqb p.n (2 * p.half) t)
