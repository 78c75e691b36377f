-- Laws of places: the twiddles k from 1 to r - 1 of the iterations i below M stand at the places below M * (r - 1), each at one of its own, at any width.
-- Assumes nothing.
use Rattle.sequences.proofs.Basics.{◌≡◌, refl, sym, ap, ◌∙◌, ℕ, suc, ◌+◌, ◌-◌, ◌*◌, ◌/◌, ◌%◌, ◌≤◌, ◌<◌, mod-lt, div-add-mod', div-lt_iff_lt-mul}
use Rattle.sequences.proofs.Basics.{le-div_iff_mul-le, mul-le-mul_right, mod-mod_of_dvd, dvd-mul_right, mul-pos, arith, Bool, true, false, ltb, digits_div}
use Rattle.sequences.proofs.Basics.{digits_mod, digits_lt, lt-ltb, le-ltb, ltb-true, ltb-false, div-one, mod-one, dec_le, ◌⊎◌, ⊎_elim}
use Rattle.schedule.proofs.Cells.{pos_right}
use Rattle.packing.specs.Places.{in_lanes, place, iteration_at, number_at, Stands, Found}

-- whether a number is below another
below_or_not : {P : Type 0} (i n : ℕ) → (i < n → P) → (n ≤ i → P) → P
below_or_not {P} i n f g = go (ltb i n) refl
  where
    go : (b : Bool) → ltb i n ≡ b → P
    go true e = f (ltb-true i n e)
    go false e = g (ltb-false i n e)

pub suc_less : (n : ℕ) → suc n - 1 ≡ n
suc_less n = omega arith

-- where the twiddles of an iteration in a whole lane stand
pub lane_place : (M r W i k : ℕ) → i < in_lanes M W → place M r W i k ≡ i / W * (W * (r - 1)) + ((k - 1) * W + i % W)
unfolding place
lane_place M r W i k l = simp (lt-ltb i (in_lanes M W) l) (omega arith)

-- and those of one after the lanes
pub lone_place : (M r W i k : ℕ) → in_lanes M W ≤ i → place M r W i k ≡ i * (r - 1) + (k - 1)
unfolding place
lone_place M r W i k l = simp (le-ltb i (in_lanes M W) l)

module _ (M r W : ℕ) (width : 0 < W) where
  lanes_few : in_lanes M W * (r - 1) ≤ M * (r - 1)
  lanes_few = mul-le-mul_right (r - 1) (omega (arith, div-add-mod' M W))

  module _ (i k : ℕ) (first : 1 ≤ k) (last : k < r) where
    in_lane : (k - 1) * W + i % W < W * (r - 1)
    in_lane = omega (arith, digits_lt {q = k - 1} {m = r - 1} (omega arith) (mod-lt i width))

    -- an iteration in a lane
    module _ (l : i < in_lanes M W) where
      lane_under : i / W * (W * (r - 1)) + ((k - 1) * W + i % W) < in_lanes M W * (r - 1)
      lane_under = omega (arith, digits_lt {q = i / W} {m = M / W} ((div-lt_iff_lt-mul width).1 l) in_lane)

      lane_stands : Stands M r W i k (place M r W i k)
      unfolding iteration_at number_at
      lane_stands =
          let at = i / W * (W * (r - 1)) + ((k - 1) * W + i % W) in
          let rest : at % W ≡ i % W
          = sym (mod-mod_of_dvd W at (dvd-mul_right W (r - 1))) ∙ ap (λ (n : ℕ). n % W) (digits_mod (i / W) in_lane) ∙ digits_mod (k - 1) (mod-lt i width) in
          rw (lane_place M r W i k l)
          (record {
            inside = omega (arith, lane_under, lanes_few);
            iteration = simp (lt-ltb _ _ lane_under, digits_div (i / W) in_lane, rest) (div-add-mod' i W);
            number = simp (lt-ltb _ _ lane_under, digits_mod (i / W) in_lane, digits_div (k - 1) (mod-lt i width)) (omega arith);
          })

    -- one of those after the lanes
    module _ (l : in_lanes M W ≤ i) where
      lone_over : in_lanes M W * (r - 1) ≤ i * (r - 1) + (k - 1)
      lone_over = omega (arith, mul-le-mul_right (r - 1) l)

      lone_stands : i < M → Stands M r W i k (place M r W i k)
      unfolding iteration_at number_at
      lone_stands li =
          let small : k - 1 < r - 1 = omega arith in
          rw (lone_place M r W i k l)
          (record {
            inside = digits_lt li small;
            iteration = simp (le-ltb _ _ lone_over, digits_div i small);
            number = simp (le-ltb _ _ lone_over, digits_mod i small) (omega arith);
          })

    -- each twiddle stands at a place of its own
    pub stands : i < M → Stands M r W i k (place M r W i k)
    stands li = below_or_not i (in_lanes M W) lane_stands (λ l. lone_stands l li)

  -- so two that stand at the same place are the same
  pub place_one : (i k i' k' : ℕ) → i < M → i' < M → 1 ≤ k → k < r → 1 ≤ k' → k' < r → place M r W i k ≡ place M r W i' k' → (i ≡ i') × (k ≡ k')
  place_one i k i' k' li li' f l f' l' e =
      let a = stands i k f l li in let b = stands i' k' f' l' li' in
      (sym a.iteration ∙ ap (iteration_at M r W) e ∙ b.iteration, sym a.number ∙ ap (number_at M r W) e ∙ b.number)

  module _ (p : ℕ) (inside : p < M * (r - 1)) where
    some : 0 < r - 1
    some = pos_right M (r - 1) (omega arith)

    rows : 0 < W * (r - 1)
    rows = mul-pos width some

    lane_found : p < in_lanes M W * (r - 1) → Found M r W (iteration_at M r W p) (number_at M r W p) p
    unfolding place iteration_at number_at
    lane_found l =
        let lane : p / (W * (r - 1)) < M / W = (div-lt_iff_lt-mul rows).1 (omega arith) in
        let early : p / (W * (r - 1)) * W + p % W < in_lanes M W = digits_lt lane (mod-lt p width) in
        let number : p % (W * (r - 1)) / W < r - 1 = (div-lt_iff_lt-mul width).1 (omega (arith, mod-lt p rows)) in
        simp (lt-ltb p (in_lanes M W * (r - 1)) l)
        (record {
          early = omega (arith, early, div-add-mod' M W);
          first = omega arith;
          last = omega (arith, number);
          here = simp (lt-ltb _ _ early, digits_div (p / (W * (r - 1))) (mod-lt p width), digits_mod (p / (W * (r - 1))) (mod-lt p width), suc_less)
              (omega (arith, div-add-mod' p (W * (r - 1)), div-add-mod' (p % (W * (r - 1))) W, mod-mod_of_dvd W p (dvd-mul_right W (r - 1))));
        })

    lone_found : in_lanes M W * (r - 1) ≤ p → Found M r W (iteration_at M r W p) (number_at M r W p) p
    unfolding place iteration_at number_at
    lone_found l =
        let late : in_lanes M W ≤ p / (r - 1) = (le-div_iff_mul-le some).1 l in
        simp (le-ltb p (in_lanes M W * (r - 1)) l)
        (record {
          early = (div-lt_iff_lt-mul some).1 inside;
          first = omega arith;
          last = omega (arith, mod-lt p some);
          here = simp (le-ltb _ _ late) (omega (arith, div-add-mod' p (r - 1)));
        })

    -- at each place stands a twiddle
    pub found : Found M r W (iteration_at M r W p) (number_at M r W p) p
    found = below_or_not p (in_lanes M W * (r - 1)) lane_found lone_found

-- a place is one of those of the stage
pub place_lt : (M r W i q : ℕ) → 0 < W → i < M → 0 < q → q < r → place M r W i q < M * (r - 1)
place_lt M r W i q width li first last = (stands M r W width i q first last li).inside

-- ---- the widths one by one

-- at width 1 they stand one after the other
one_place : (M r i q : ℕ) → place M r 1 i q ≡ i * (r - 1) + (q - 1)
one_place M r i q = pick (dec_le (M / 1 * 1) i)
  where
    pick : Dec (M / 1 * 1 ≤ i) → place M r 1 i q ≡ i * (r - 1) + (q - 1)
    pick (yes l) = lone_place M r 1 i q l
    pick (no l) = lane_place M r 1 i q (omega (arith, l)) ∙ rw (div-one i, mod-one i) (omega arith)

-- at width 2 those of one iteration are evenly spaced: in whole lanes, and after them
pub place_in : (M r W i u : ℕ) → W ≡ 2 → i - i % 2 + W ≤ M → place M r W i (u + 1) ≡ (i - i % 2) * (r - 1) + i % 2 + u * W
place_in M r W i u two l =
    let e : u + 1 - 1 ≡ u = omega arith in let b : i - i % 2 ≡ i / 2 * 2 = omega arith in
    rw (two, b) (lane_place M r 2 i (u + 1) (omega (arith, two)) ∙ rw e (omega arith))

pub place_past : (M r W i u : ℕ) → W ≡ 2 → M < i - i % 2 + W → place M r W i (u + 1) ≡ i * (r - 1) + u * 1
place_past M r W i u two l = rw two (lone_place M r 2 i (u + 1) (omega (arith, two)) ∙ omega arith)

-- side by side: at width 1, and at width 4 after the whole lanes
pub beside : (M r W i q : ℕ) → (W ≡ 1) ⊎ (W ≡ 4) → (W ≡ 4 → M / 4 * 4 ≤ i) → place M r W i q ≡ i * (r - 1) + (q - 1)
beside M r W i q which past = ⊎_elim (λ one. rw one (one_place M r i q)) (λ four. rw four (lone_place M r 4 i q (past four))) which
