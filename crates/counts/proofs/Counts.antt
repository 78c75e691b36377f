-- Laws of an accepted plan's stages: bounds of its radices, strides and counts, and sums over stages. Assumes nothing.
use Rattle.sequences.proofs.Basics.{◌≡◌, refl, sym, ap, ◌∙◌, ℕ, zero, suc, ◌+◌, ◌-◌, ◌*◌, ◌/◌, ◌<◌, ◌≤◌, ◌%◌, mul-le-mul, mul-le-mul_left, mul-one, div-le_self}
use Rattle.sequences.proofs.Basics.{add-zero, add-one, arith, true, false, Bool, cond, List, eqb, get_or, take, drop, take-append-drop, take-take, eqb-false}
use Rattle.sequences.proofs.Basics.{eqb-true, le_of_eq, one-mul, length}
use Rattle.radices.specs.Lists.{product, first_over}
use Rattle.plan.specs.Record.{is_planned}
use Rattle.counts.specs.Counts.{radix, stride, twiddle_count, twiddle_start, record_verdict, end_count}
use Rattle.plan.specs.declared.Record.{Record}
use Rattle.radices.proofs.Lists.{product_append, get_d_any}
use Rattle.radices.proofs.Products.{Radical, radical_parts, product_positive, small_over_none}
use Rattle.refusal.specs.declared.Refusal.TheVariants.{NotPlanned}
use Rattle.refusal.specs.Refusal.{Accepted, Refused}
use Rattle.plan.proofs.Bounds.{plan_order, plan_sized, plan_half, plan_long, plan_radical, plan_radix_bounds}

product_prefix : (xs : List ℕ) (i : ℕ) → Radical xs → product (take i xs) ≤ product xs
product_prefix xs i r =
    let whole = take-append-drop i xs in let parts = radical_parts (take i xs) (drop i xs) (rw whole r) in
    let one : product (take i xs) * 1 ≤ product (take i xs) * product (drop i xs) =
    mul-le-mul_left (product (take i xs)) (product_positive (drop i xs) parts.1) in
    omega (arith, mul-one (product (take i xs)), sym (product_append (take i xs) (drop i xs)) ∙ ap product whole)

pub count_first : (h : ℕ) (rs : List ℕ) (j : ℕ) → j ≡ 0 → 0 ≡ twiddle_count h rs j
unfolding twiddle_count
count_first h rs j e = rw e

pub start_next : (h : ℕ) (rs : List ℕ) (i : ℕ) → twiddle_start h rs (i + 1) ≡ twiddle_start h rs i + twiddle_count h rs i
unfolding twiddle_start
start_next h rs i = rw add-one

pub start_none : (h : ℕ) (rs : List ℕ) → 0 ≡ twiddle_start h rs 0
unfolding twiddle_start
start_none h rs = refl

pub stride_none : (rs : List ℕ) → 1 ≡ stride rs 0
unfolding stride product
stride_none rs = refl

-- later stages start later
pub start_up : (h : ℕ) (rs : List ℕ) (j d : ℕ) → twiddle_start h rs j ≤ twiddle_start h rs (j + d)
start_up h rs j zero = rw add-zero (omega arith)
start_up h rs j (suc d) =
    let same : j + suc d ≡ j + d + 1 = omega arith in
    rw same (omega (arith, start_up h rs j d, start_next h rs (j + d)))

-- there is an end twiddle for every pair
pub pairs_lent : (h k : ℕ) → 2 * k < h → k ≤ end_count (2 * h)
unfolding end_count
pairs_lent h k l = go (eqb (2 * h % 4) 0) refl
  where
    go : (b : Bool) → eqb (2 * h % 4) 0 ≡ b → k ≤ cond b (2 * h / 4 - 1) (2 * h / 4)
    go true e = let z = eqb-true (2 * h % 4) 0 e in omega arith
    go false e = omega arith

-- all of them are less than a quarter of the circle
pub end_few : (n : ℕ) → 0 < n → 4 * end_count n < n
unfolding end_count
end_few n l = go (eqb (n % 4) 0) refl
  where
    go : (b : Bool) → eqb (n % 4) 0 ≡ b → 4 * cond b (n / 4 - 1) (n / 4) < n
    go true e = omega arith
    go false e = over (eqb-false (n % 4) 0 e)
      where
        over : (n % 4 ≡ 0 → ⊥) → 4 * (n / 4) < n
        over z = omega arith

module _ (p : Record) (e : is_planned p ≡ true) where
  pub stride_small : (i : ℕ) → i ≤ p.count → stride p.radices i ≤ 4096
  unfolding stride
  stride_small i h =
      let cut = take-take i p.count p.radices h in
      let b : product (take i p.radices) ≤ product (take p.count p.radices) =
      rw (← cut) (product_prefix (take p.count p.radices) i (plan_radical p e)) in
      omega (arith, plan_half p e, (plan_sized p e).made)

  -- the radices before stage i stay within the largest length
  pub stride_within : (i : ℕ) → i ≤ p.count → length (take i p.radices) ≤ first_over 1 (take i p.radices)
  unfolding stride
  stride_within i h =
      let cut = take-take i p.count p.radices h in
      let used = take p.count p.radices in
      let rest = radical_parts (take i used) (drop i used) (rw (take-append-drop i used) (plan_radical p e)) in
      le_of_eq (sym (small_over_none 1 (take i p.radices) (rw cut at rest.0) (rw one-mul (omega (arith, stride_small i h)))))

  -- ---- twiddles

  pub count_later : (j : ℕ) → (j ≡ 0 → ⊥) → j < p.count → p.half / get_or p.radices j 0 * (get_or p.radices j 0 - 1) ≡ twiddle_count p.half p.radices j
  unfolding twiddle_count radix
  count_later zero n h = absurd (n refl)
  count_later (suc j) n h = rw (get_d_any p.radices (suc j) 0 1 (omega (arith, plan_long p e)))

  pub count_small : (j : ℕ) → j < p.count → twiddle_count p.half p.radices j ≤ 28672
  unfolding twiddle_count
  count_small zero h = omega arith
  count_small (suc j) h =
      let b = plan_radix_bounds p e (suc j) h in let r = get_or p.radices (suc j) 0 in
      let q : p.half / r * (r - 1) ≤ 4096 * 7 = mul-le-mul {n₂ = 4096} {m₂ = 7} (omega (arith, div-le_self p.half r, plan_half p e)) (omega (arith, b)) in
      omega (arith, q, count_later (suc j) (λ (z : suc j ≡ 0). omega arith) h)

  start_small : (j : ℕ) → j ≤ p.count → twiddle_start p.half p.radices j ≤ 28672 * j
  unfolding twiddle_start
  start_small zero l = omega arith
  start_small (suc j) l = omega (arith, start_small j (omega arith), count_small j l)

  pub start_few : (j : ℕ) → j ≤ p.count → twiddle_start p.half p.radices j ≤ 400000
  start_few j l = omega (arith, start_small j l, (plan_order p e).few)

-- ---- the verdict on a record

pub record_refused : (p : Record) → is_planned p ≡ false → record_verdict p ≡ Refused (NotPlanned 0)
unfolding record_verdict
record_refused p e = rw e

pub record_accepted : (p : Record) → is_planned p ≡ true → record_verdict p ≡ Accepted
unfolding record_verdict
record_accepted p e = rw e
