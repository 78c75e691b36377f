-- Where the twiddles of a stage stand at any width, and that sixteen iterations of them are fetched.
-- Assumes nothing.
use Rattle.sequences.proofs.Basics.{◌≡◌, refl, sym, ap, ◌∙◌, ℕ, ◌+◌, ◌-◌, ◌*◌, ◌/◌, ◌%◌, ◌≤◌, ◌<◌, mul-le-mul, mul-le-mul_right, arith, ℕ_discrete, true}
use Rattle.sequences.proofs.Basics.{false, true≢false, ◌⊎◌, List, eqb, length, take, drop, length-drop, take_all, digits_lt, eqb-false}
use lib.Ieee.{Float}
use Rattle.packing.specs.Places.{is_width}
use Rattle.packing.specs.Places.{place}
use Rattle.packing.proofs.Places.{lane_place, beside}
use Rattle.packing.proofs.Widths.{no_width}
use Rattle.floats.specs.declared.complex.Complex.{Complex}
use Rattle.floats.specs.Complexes.{cell}
use Rattle.floats.proofs.Flat.{cell_drop}
use Rattle.kernel.specs.Floats.{lent_at}
use Rattle.lanes.specs.Parts.{Fetched, Fetched4}
use Rattle.storing.specs.Parts.{Wrote}
use Rattle.float_stage.specs.declared.inner.lent.Layout.{Layout}
use Rattle.float_stage.specs.declared.inner.lent.Layout.TheVariants.{Beside, Apart}

-- a width that is neither 1 nor 4 is 2
pub two_left : (W : ℕ) → is_width W ≡ true → (W ≡ 1 → ⊥) → eqb W 4 ≡ false → W ≡ 2
two_left W is not-one not-four = pick (ℕ_discrete W 2)
  where
    pick : Dec (W ≡ 2) → W ≡ 2
    pick (yes e) = e
    pick (no f) = absurd (true≢false (sym is ∙ sym (no_width W not-one f (eqb-false W 4 not-four))))

-- the number of a place is small
pub small_past : (M r i : ℕ) → M ≤ 4096 → r ≤ 8 → i < M → i * (r - 1) ≤ 4096 * 7
small_past M r i lM lr li =
    let a : i ≤ 4096 = omega arith in let b : r - 1 ≤ 7 = omega arith in
    mul-le-mul a b

-- lane j has room among the fetched
pub small_lane : (j r : ℕ) → j < 16 → r ≤ 8 → j * (r - 1) ≤ 15 * 7
small_lane j r lj lr =
    let a : j ≤ 15 = omega arith in let b : r - 1 ≤ 7 = omega arith in
    mul-le-mul a b

pub small_lanes : (n r : ℕ) → n ≤ 16 → r ≤ 8 → n * (r - 1) ≤ 16 * 7
small_lanes n r ln lr =
    let b : r - 1 ≤ 7 = omega arith in
    mul-le-mul ln b

-- one more iteration
pub fetched_step : (i j r : ℕ) (lent : ℕ → ℕ → Complex) (t t' : List Float) → Wrote (λ u. lent (i + j) (u + 1)) (j * (r - 1)) (r - 1) t t'
    → Fetched i j r lent t → Fetched i (j + 1) r lent t'
fetched_step i j r lent t t' w before j' q lj l lq = pick (ℕ_discrete j' j)
  where
    lq' : q - 1 < r - 1
    lq' = omega arith

    pick : Dec (j' ≡ j) → cell t' (j' * (r - 1) + (q - 1)) ≡ lent (i + j') q
    pick (yes e) = rw e (w.cells.inside (q - 1) lq' ∙ ap (lent (i + j)) (omega arith))
    pick (no f) =
        let m : j' * (r - 1) + (q - 1) < j * (r - 1) = digits_lt (omega (arith, f)) lq' in
        w.cells.outside (j' * (r - 1) + (q - 1)) (λ u lu e. omega arith) ∙ before j' q (omega (arith, f)) l lq

-- ---- twiddles read where they stand, from the first of iteration i on

pub rest : (n : ℕ) (xs : List Float) → take (length xs - n) (drop n xs) ≡ drop n xs
rest n xs = take_all (length xs - n) (drop n xs) (omega (arith, length-drop n xs))

pub past_room : (i M r n : ℕ) → i ≤ M → 2 * (M * (r - 1)) ≤ n → 2 * (i * (r - 1)) ≤ n
past_room i M r n l room = omega (arith, mul-le-mul_right (r - 1) l)

pub here_room : (i n M r : ℕ) (tw : List Float) → i + n ≤ M → 2 * (M * (r - 1)) ≤ length tw → 2 * (n * (r - 1)) ≤ length (drop (2 * (i * (r - 1))) tw)
here_room i n M r tw l room = omega (arith, mul-le-mul_right (r - 1) l, length-drop (2 * (i * (r - 1))) tw)

-- .. side by side: at width 1, and at width 4 after the whole lanes
fetched_here : (i n M r W : ℕ) (tw : List Float) → (W ≡ 1) ⊎ (W ≡ 4) → (W ≡ 4 → M / 4 * 4 ≤ i) → Fetched i n r (lent_at M r W tw) (drop (2 * (i * (r - 1))) tw)
fetched_here i n M r W tw which past j q lj l lq =
    let e : i * (r - 1) + (j * (r - 1) + (q - 1)) ≡ (i + j) * (r - 1) + (q - 1) = omega arith in
    cell_drop tw (i * (r - 1)) (j * (r - 1) + (q - 1)) ∙ ap (cell tw) (e ∙ sym (beside M r W (i + j) q which (λ four. omega (arith, past four))))

-- in whole lanes of 4
fetched4_here : (i n M r : ℕ) (tw : List Float) → i % 4 ≡ 0 → n ≤ 4 → i + n ≤ M / 4 * 4 → Fetched4 i n r (lent_at M r 4 tw) (drop (2 * (i * (r - 1))) tw)
fetched4_here i n M r tw whole few inside j q lj l lq =
    let d : (i + j) / 4 ≡ i / 4 = omega arith in let m : (i + j) % 4 ≡ j = omega arith in
    let b : i ≡ i / 4 * 4 = omega arith in
    let c : i * (r - 1) ≡ i / 4 * (4 * (r - 1)) = ap (λ (k : ℕ). k * (r - 1)) b ∙ omega arith in
    let p : place M r 4 (i + j) q ≡ i / 4 * (4 * (r - 1)) + ((q - 1) * 4 + j) = lane_place M r 4 (i + j) q (omega arith) ∙ rw (d, m) refl in
    let e : i * (r - 1) + (j * 1 + (q - 1) * 4) ≡ i / 4 * (4 * (r - 1)) + ((q - 1) * 4 + j) = omega (arith, c) in
    cell_drop tw (i * (r - 1)) (j * 1 + (q - 1) * 4) ∙ ap (cell tw) (e ∙ sym p)

pub four_part : (i n M r : ℕ) (tw p : List Float) {from : ℕ} → from ≡ 2 * (i * (r - 1)) → p ≡ drop from tw → i % 4 ≡ 0 → n ≡ 4 → i + n ≤ M / 4 * 4
    → 2 * (M * (r - 1)) ≤ length tw → Fetched4 i n r (lent_at M r 4 tw) p × (2 * (4 * (r - 1)) ≤ length p)
four_part i n M r tw p at is whole four inside room = rw (is, at)
    (fetched4_here i n M r tw whole (omega arith) inside, here_room i 4 M r tw (omega arith) room)

pub unlike : {l : Layout} → l ≡ Beside → l ≡ Apart → ⊥
unlike p q = let z : ◌≡◌ {A = ℕ} 0 1 = cc in omega arith

-- read where they stand or fetched
pub lent_part : (layout : Layout) (i n M r W : ℕ) (tw t p : List Float) {from : ℕ} → from ≡ 2 * (i * (r - 1)) → (layout ≡ Beside → (W ≡ 1) ⊎ (W ≡ 4))
    → (W ≡ 4 → M / 4 * 4 ≤ i) → i + n ≤ M → n ≤ 16 → r ≤ 8 → 2 * (M * (r - 1)) ≤ length tw → length t ≡ 224
    → (layout ≡ Beside → p ≡ drop from tw) × (layout ≡ Apart → p ≡ t) → (layout ≡ Apart → Fetched i n r (lent_at M r W tw) t)
    → Fetched i n r (lent_at M r W tw) p × (2 * (n * (r - 1)) ≤ length p)
lent_part Beside i n M r W tw t p at which past l ln lr room lt is f =
    rw (is.0 refl, at) (fetched_here i n M r W tw (which refl) past, here_room i n M r tw l room)
lent_part Apart i n M r W tw t p at which past l ln lr room lt is f = rw (is.1 refl) (f refl, omega (arith, small_lanes n r ln lr, lt))
