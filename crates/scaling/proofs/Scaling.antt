-- Laws of scaling: the smallest power of two that reaches the target, the radices that it adds, and how many fit. Assumes nothing.
use Rattle.sequences.proofs.Basics.{◌≡◌, refl, sym, ap, ◌∙◌, ℕ, zero, suc, ◌+◌, ◌-◌, ◌*◌, ◌/◌, ◌%◌, ◌^◌, ◌<◌, ◌≤◌, one-mul, mul-one, mul_assoc, mul-le-mul}
use Rattle.sequences.proofs.Basics.{mul-le-mul_left, pow-succ', mul_comm, lt_of_not-le, add-one, arith, dec_le, Bool, true, false, cond}
use Rattle.sequences.proofs.Basics.{dite, List, []}
use Rattle.sequences.proofs.Basics.{◌∷◌, ◌++◌, append-nil, eqb, ltb, length, replicate, length-append, length-replicate, pow-add}
use Rattle.sequences.proofs.Basics.{pow-lt}
use Rattle.sequences.proofs.Basics.{pow_mono, eq-eqb, ne_eqb, le-leb, lt-leb, lt-ltb, le-ltb}
use Rattle.refusal.specs.Refusal.{Row, ◌⇒◌, verdict}
use Rattle.refusal.specs.declared.Refusal.{Refusal}
use Rattle.refusal.specs.declared.Refusal.TheVariants.{TooLarge}
use Rattle.refusal.specs.Refusal.{Verdict}
use Rattle.refusal.specs.Refusal.{Accepted, Refused}
use Rattle.refusal.proofs.Rows.{accepted, refused_on, accepted_on}
use Rattle.radices.specs.declared.Radices.{Radices}
use Rattle.radices.specs.Lists.{product, largest, is_radix, first_bad, first_over, listed}
use Rattle.scaling.specs.Parts.{Scalable}
use Rattle.std.specs.Prelude.{Ok, Err}
use Rattle.refusal.specs.Refusal.{granted}
use Rattle.scaling.specs.Scaling.{gain_from, gain, over, gained, list_rows, scale_verdict, accepted_scaling, scaled}
use Rattle.radices.proofs.Lists.{product_append}
use Rattle.radices.proofs.Products.{Radical, radical_append, radical_replicate, radical, product_replicate, product_positive, over_none_small, pow_eight}
use Rattle.radices.proofs.Products.{entries_few, bad_none, over_none_at}

-- ---- the smallest power of two

-- once more
pub twice_more : (g b : ℕ) → 2 ^ (g + 1) * b ≡ 2 * (2 ^ g * b)
twice_more g b = ap (λ (n : ℕ). n * b) (ap (λ (n : ℕ). 2 ^ n) (add-one g) ∙ pow-succ' 2 g) ∙ mul_assoc 2 (2 ^ g) b

module _ (t b : ℕ) where
  pub gain_start : gain t b ≡ gain_from (t - 0) 0 t b
  unfolding gain
  gain_start = ap (λ (k : ℕ). gain_from k 0 t b) {x = t} {y = t - 0} (omega arith)

  pub gain_skip : (g : ℕ) → 2 ^ g * b < t → g < t → gain t b ≡ gain_from (t - g) g t b → gain t b ≡ gain_from (t - (g + 1)) (g + 1) t b
  unfolding gain_from
  gain_skip g h l e = e ∙ ap (λ (k : ℕ). gain_from k g t b) {x = t - g} {y = suc (t - (g + 1))} (omega arith) ∙ simp (lt-leb t (2 ^ g * b) h, add-one)

  gain_here : (k g : ℕ) → t ≤ 2 ^ g * b → gain_from k g t b ≡ g
  unfolding gain_from
  gain_here zero g h = refl
  gain_here (suc k) g h = simp (le-leb t (2 ^ g * b) h)

  gain_past : (k g : ℕ) → 2 ^ g * b < t → gain_from (suc k) g t b ≡ gain_from k (suc g) t b
  unfolding gain_from
  gain_past k g h = simp (lt-leb t (2 ^ g * b) h)

  pub gain_stop : (g : ℕ) → t ≤ 2 ^ g * b → gain t b ≡ gain_from (t - g) g t b → gain t b ≡ g
  gain_stop g h e = e ∙ gain_here (t - g) g h

  gain_none : (g : ℕ) → gain_from zero g t b ≡ g
  unfolding gain_from
  gain_none g = refl

  -- the scaled product: below twice the target, or the base itself
  small_from : (k g : ℕ) → t ≤ 4096 → 2 ^ g * b ≤ largest → 2 ^ gain_from k g t b * b ≤ largest
  small_from zero g h s = rw (gain_none g) s
  small_from (suc k) g h s = dite (dec_le t (2 ^ g * b)) (λ (p : t ≤ 2 ^ g * b). rw (gain_here (suc k) g p) s) (λ (n : t ≤ 2 ^ g * b → ⊥).
      let l : 2 ^ g * b < t = lt_of_not-le n in
      rw (gain_past k g l) (small_from k (suc g) h (rw (← add-one g, twice_more g b) (omega arith))))

  -- it reaches the target
  reaches_from : (k g : ℕ) → t ≤ g + k → g < 2 ^ g * b → t ≤ 2 ^ gain_from k g t b * b
  reaches_from zero g h s = rw (gain_none g) (omega arith)
  reaches_from (suc k) g h s = dite (dec_le t (2 ^ g * b)) (λ (p : t ≤ 2 ^ g * b). rw (gain_here (suc k) g p) p) (λ (n : t ≤ 2 ^ g * b → ⊥).
      let l : 2 ^ g * b < t = lt_of_not-le n in
      rw (gain_past k g l) (reaches_from k (suc g) (omega arith) (rw (← add-one g, twice_more g b) (omega arith))))

  -- and no smaller one does
  least_from : (k g : ℕ) → ((j : ℕ) → j < g → 2 ^ j * b < t) → (j : ℕ) → j < gain_from k g t b → 2 ^ j * b < t
  least_from zero g f j h = f j (rw (gain_none g) at h)
  least_from (suc k) g f j h = dite (dec_le t (2 ^ g * b)) (λ (p : t ≤ 2 ^ g * b). f j (rw (gain_here (suc k) g p) at h)) (λ (n : t ≤ 2 ^ g * b → ⊥).
      let l : 2 ^ g * b < t = lt_of_not-le n in
      least_from k (suc g) (below_next g l f) j (rw (gain_past k g l) at h))
    where
      below_next : (g : ℕ) → 2 ^ g * b < t → ((j : ℕ) → j < g → 2 ^ j * b < t) → (j : ℕ) → j < suc g → 2 ^ j * b < t
      below_next g l f j h = dite (dec_le g j) (λ (p : g ≤ j). let e : j ≡ g = omega arith in rw e l) (λ (n : g ≤ j → ⊥). f j (lt_of_not-le n))

-- the smallest power of two with which the base reaches the target
pub gain_reaches : (t b : ℕ) → 0 < b → t ≤ 2 ^ gain t b * b
unfolding gain
gain_reaches t b h = reaches_from t b t 0 (omega arith) (rw one-mul h)

pub gain_least : (t b j : ℕ) → j < gain t b → 2 ^ j * b < t
unfolding gain
gain_least t b j h = least_from t b t 0 (λ (i : ℕ) (l : i < 0). absurd (omega arith)) j h

pub gain_small : (t b : ℕ) → t ≤ 4096 → b ≤ largest → 2 ^ gain t b * b ≤ largest
unfolding gain
gain_small t b h s = small_from t b t 0 h (rw one-mul s)

pub gain_few : (t b : ℕ) → t ≤ 4096 → 0 < b → b ≤ largest → gain t b ≤ 13
gain_few t b h p s =
    let w : 2 ^ gain t b * 1 ≤ 2 ^ gain t b * b = mul-le-mul_left (2 ^ gain t b) p in let q = gain_small t b h s in
    dite (dec_le (gain t b) 13) (λ (l : gain t b ≤ 13). l)
    (λ (n : gain t b ≤ 13 → ⊥). let m = pow-lt {i = 13} (lt_of_not-le n) in absurd (omega (arith, mul-one (2 ^ gain t b))))

-- ---- the radices that it adds

rest_below : (k : ℕ) → k % 3 < 3
rest_below k = omega arith

product_over : (k : ℕ) → k < 3 → product (over k) ≡ 2 ^ k
unfolding product
product_over zero h = refl
product_over (suc zero) h = refl
product_over (suc (suc zero)) h = refl
product_over (suc (suc (suc k))) h = absurd (omega arith)

pub product_gained : (g : ℕ) → product (gained g) ≡ 2 ^ g
unfolding gained
product_gained g = product_append (replicate (g / 3) 8) (over (g % 3))
    ∙ ap (λ (n : ℕ). n * product (over (g % 3))) (product_replicate (g / 3) 8 ∙ pow_eight (g / 3))
    ∙ ap (λ (n : ℕ). 2 ^ (3 * (g / 3)) * n) (product_over (g % 3) (rest_below g)) ∙ sym (pow-add 2 (3 * (g / 3)) (g % 3))
    ∙ ap (λ (n : ℕ). 2 ^ n) {x = 3 * (g / 3) + g % 3} {y = g} (omega arith)

radical_over : (k : ℕ) → k < 3 → Radical (over k)
unfolding Radical is_radix
radical_over zero h = tt
radical_over (suc zero) h = (refl, tt)
radical_over (suc (suc zero)) h = (refl, tt)
radical_over (suc (suc (suc k))) h = absurd (omega arith)

pub radical_gained : (g : ℕ) → Radical (gained g)
unfolding gained is_radix
radical_gained g = radical_append (replicate (g / 3) 8) (over (g % 3)) (radical_replicate (g / 3) 8 refl) (radical_over (g % 3) (rest_below g))

-- what is scaled to within the largest length has at most 13 entries
pub scaled_few : (xs : List ℕ) (g : ℕ) → Radical xs → 2 ^ g * product xs ≤ largest → length (xs ++ gained g) ≤ 13
scaled_few xs g r h = entries_few (xs ++ gained g) (radical_append xs (gained g) r (radical_gained g))
    (rw (product_append xs (gained g), product_gained g, mul_comm (product xs) (2 ^ g)) h)

-- nothing over, one, or two
pub gained_none : (g : ℕ) → g % 3 ≡ 0 → gained g ≡ replicate (g / 3) 8
unfolding gained
gained_none g e = simp (eq-eqb (g % 3) 0 e) (append-nil (replicate (g / 3) 8))

pub gained_one : (g : ℕ) → (g % 3 ≡ 0 → ⊥) → g % 3 ≡ 1 → gained g ≡ replicate (g / 3) 8 ++ (2 ∷ [])
unfolding gained
gained_one g n e = simp (ne_eqb (g % 3) 0 n, eq-eqb (g % 3) 1 e)

pub gained_two : (g : ℕ) → (g % 3 ≡ 0 → ⊥) → (g % 3 ≡ 1 → ⊥) → gained g ≡ replicate (g / 3) 8 ++ (4 ∷ [])
unfolding gained
gained_two g n m = simp (ne_eqb (g % 3) 0 n, ne_eqb (g % 3) 1 m)

length_gained : (g : ℕ) → length (gained g) ≡ g / 3 + length (over (g % 3))
unfolding gained
length_gained g = simp (length-append, length-replicate)

over_some : (k : ℕ) → (k ≡ 0 → ⊥) → length (over k) ≡ 1
over_some k n = simp (ne_eqb k 0 n) (go (eqb k 1))
  where
    go : (t : Bool) → length {A = ℕ} (cond t (2 ∷ []) (4 ∷ [])) ≡ 1
    go true = refl
    go false = refl

module _ (xs : List ℕ) (g : ℕ) (few : length (xs ++ gained g) ≤ 13) where
  pub grown_front : length xs + g / 3 ≤ 13
  grown_front = omega (arith, few, length-append xs (gained g), length_gained g)

  pub grown_room : (g % 3 ≡ 0 → ⊥) → length xs + g / 3 < 13
  grown_room n = omega (arith, few, length-append xs (gained g), length_gained g, over_some (g % 3) n)

pub power_small : (i : ℕ) → i ≤ 13 → 2 ^ i ≤ 8192
power_small i h = pow_mono {j = 13} h

-- ---- an accepted list

-- what it is
pub record Base (xs : List ℕ) : Type 0 where
  pub radices : Radical xs
  pub whole : first_over 1 xs ≡ length xs
  pub small : product xs ≤ largest

check_base : (from : ℕ) (xs : List ℕ) → verdict (list_rows from xs) ≡ Accepted → Base xs
check_base from xs e =
    let bad : length xs ≤ first_bad xs = search accepted in let over : length xs ≤ first_over 1 xs = search accepted in
    record {
      radices = radical xs (bad_none xs bad);
      whole = over_none_at xs over;
      small = rw one-mul at (over_none_small 1 xs (omega arith) (over_none_at xs over));
    }

-- n is its product
module _ {xs : List ℕ} (b : Base xs) {n : ℕ} (e : n ≡ product xs) where
  base_bounds : (0 < n) × (n ≤ 8192)
  base_bounds = rw e (product_positive xs b.radices, b.small)

  base_fits : (g : ℕ) → 2 ^ g * n ≤ largest → length (xs ++ gained g) ≤ 13
  base_fits g h = scaled_few xs g b.radices (rw e at h)

-- a power of two of at most 13 and a product within the largest length
power_fits : (g p n : ℕ) → p ≡ 2 ^ g → g ≤ 13 → n ≤ 8192 → p * n < 2 ^ 64
power_fits g p n e h l =
    let x : p * n ≤ 8192 * 8192 = mul-le-mul {n₂ = 8192} {m₂ = 8192} (rw e (power_small g h)) l in
    omega arith

-- ---- the answer

module _ (target : ℕ) (ins outs : List ℕ) where
  abbrev last : List Row
  last = ltb largest (2 ^ gain target (product ins) * product outs) ⇒ TooLarge (length ins + length outs) ∷ []

  by_verdict : (v : Verdict) → scale_verdict target ins outs ≡ v → granted v (accepted_scaling (gain target (product ins)) ins outs) ≡ scaled target ins outs
  unfolding scaled
  by_verdict v e = ap (λ (x : Verdict). granted x (accepted_scaling (gain target (product ins)) ins outs)) (sym e)

  pub scale_in : (why : Refusal) → verdict (list_rows 0 ins) ≡ Refused why → Err why ≡ scaled target ins outs
  unfolding scale_verdict
  scale_in why e = by_verdict (Refused why) (refused_on (list_rows 0 ins) (list_rows (length ins) outs ++ last) why e)

  module _ (a : verdict (list_rows 0 ins) ≡ Accepted) where
    pub scale_out : (why : Refusal) → verdict (list_rows (length ins) outs) ≡ Refused why → Err why ≡ scaled target ins outs
    unfolding scale_verdict
    scale_out why e = by_verdict (Refused why)
        (accepted_on (list_rows 0 ins) (list_rows (length ins) outs ++ last) a ∙ refused_on (list_rows (length ins) outs) last why e)

-- with i and o the products of both lists, g the gain and p its power
module _ {target : ℕ} {ins outs : List ℕ} (h : Scalable target ins outs) {i : ℕ} (ei : i ≡ product ins) where
  in-base : Base ins
  in-base = check_base 0 ins h.ins

  pub in_bounds : (0 < i) × (i ≤ 8192)
  in_bounds = base_bounds in-base ei

  module _ {g : ℕ} (eg : g ≡ gain target i) where
    pub in_few : g ≤ 13
    in_few = rw eg (gain_few target i h.low in_bounds.0 in_bounds.1)

    pub in_fits : length (ins ++ gained g) ≤ 13
    in_fits = base_fits in-base ei g (rw eg (gain_small target i h.low in_bounds.1))

    module _ {p : ℕ} (ep : p ≡ 2 ^ g) where
      pub in_power : p * i < 2 ^ 64
      in_power = power_fits g p _ ep in_few in_bounds.1

      module _ {o : ℕ} (eo : o ≡ product outs) where
        out_base : Base outs
        out_base = check_base (length ins) outs h.outs

        pub out_power : p * o < 2 ^ 64
        out_power = power_fits g p _ ep in_few (base_bounds out_base eo).1

        pub out_fits : p * o ≤ largest → length (outs ++ gained g) ≤ 13
        out_fits l = base_fits out_base eo g (rw ep at l)

        on_last : scale_verdict target ins outs ≡ verdict (last target ins outs)
        unfolding scale_verdict
        on_last = accepted_on (list_rows 0 ins) (list_rows (length ins) outs ++ last target ins outs) h.ins
            ∙ accepted_on (list_rows (length ins) outs) (last target ins outs) h.outs

        same_gain : g ≡ gain target (product ins)
        same_gain = eg ∙ ap (gain target) ei

        scaled_out : p * o ≡ 2 ^ gain target (product ins) * product outs
        scaled_out = rw (ep, same_gain, eo)

        pub scale_large : largest < p * o → Err (TooLarge (length ins + length outs)) ≡ scaled target ins outs
        scale_large l = by_verdict target ins outs (Refused (TooLarge (length ins + length outs)))
            (on_last ∙ simp (lt-ltb largest _ (rw scaled_out at l)))

        pub scale_accepted : p * o ≤ largest → {x y : Radices} → x ≡ listed (ins ++ gained g) → y ≡ listed (outs ++ gained g)
            → Ok (record { p = p; in_product = p * i; out_product = p * o; in_list = x; out_list = y }) ≡ scaled target ins outs
        unfolding accepted_scaling
        scale_accepted l u v = rw (u, v, scaled_out, ep, ei, same_gain)
            (by_verdict target ins outs Accepted (on_last ∙ simp (le-ltb largest _ (rw scaled_out at l))))
