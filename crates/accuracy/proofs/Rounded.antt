-- The words of a turn, against the house table's numbers: each is one of them, rounded to f32; and half of it. Assumes nothing.
use Rattle.sequences.proofs.Basics.{◌≡◌, refl, sym, ap, ◌∙◌, subst, subst₂, ℕ, zero, suc, ◌+◌, ◌-◌, ◌*◌, ◌/◌, ◌%◌, ◌^◌, ◌≤◌, ◌<◌, zero-le, compare, le_refl}
use Rattle.sequences.proofs.Basics.{le_trans, le_of_eq, lt_of_le_of_lt, lt_of_lt_of_le, mul-le-mul_right, mul-le-mul_left, pow-suc, div-div-eq-div-mul}
use Rattle.sequences.proofs.Basics.{le-div_iff_mul-le, not-le_of_lt, mod-eq_of_lt, mod-lt, zero-lt-suc, arith, dec_le, Bool, true, false, dite, lit≤, lit<}
use Rattle.sequences.proofs.Basics.{pow_pos, pow_mono}
use lib.Ieee.{Float, binary32, round, mul, unlike, size, of_bits}
use lib.Ieee.Digits.{size-lt}
use lib.Ieee.Fits.{kept-lt, nearest-le}
use lib.Ieee.Exact.{HasValue, round_exact}
use lib.Ieee.Order.{drop, kept}
use lib.Ieee.Scale.{grid, round_same}
use Rattle.schedule.specs.Stage.{Part}
use Rattle.house.specs.Entries.{entry_of}
use Rattle.turn.specs.Turns.{one_half, index_of, rounded, quarters_on, numbers_at, quarters, turn_at, turn_of, words_of}
use Rattle.turn.proofs.Lookup.{turn_whole, turn_numbers}
use Rattle.turn.proofs.Theorems.{words_are}
use Rattle.floats.specs.Complexes.{cx}
use Rattle.floats.specs.declared.complex.Complex.{Complex}
use Rattle.finite.proofs.Rounding.{grid_bound}
use Rattle.accuracy.specs.Gauss.{Gauss, scale_g, Disc, val_c}
use Rattle.accuracy.specs.House.{exact_at, house}
use Rattle.accuracy.specs.Value.{Near, Signed, signed, scale, abs_z, NearZ, val, Held}
use Rattle.accuracy.proofs.Circle.{below, spin}
use Rattle.accuracy.proofs.Complexes.{part_re, part_im, near_abs}
use Rattle.fractions.proofs.Fractions.{mul_at}
use Rattle.accuracy.proofs.House.{turns, house_whole}
use Rattle.accuracy.proofs.Plane.{triangle, disc_more, off_same}
use Rattle.accuracy.proofs.Rounding.{grid_near}
use Rattle.accuracy.proofs.Turning.{same_self}
use Rattle.accuracy.proofs.Turns.{Close, Faithful, HalfClose}
use Rattle.accuracy.proofs.Values.{round_grid, val_is, held_is, carry}

-- ---- q * 2 ^ k with k above 0 and q up to 2 ^ 24 is twice a number that an f32 holds

pub record Halved (g : ℕ) : Type 0 where
  pub v : ℕ
  pub twice : g ≡ 2 * v
  pub q : ℕ
  pub j : ℕ
  pub small : q < 2 ^ 24
  pub same : v ≡ q * 2 ^ j

kept_le : (p n den : ℕ) → kept p n den ≤ 2 ^ p
kept_le p n den =
    let k = drop p n den in let u = den * 2 ^ k in
    le_trans (nearest-le (n / u) (compare (n % u * 2) u)) (subst (λ (x : ℕ). x < 2 ^ p) (div-div-eq-div-mul n den (2 ^ k)) (kept-lt p (n / den)))

halved : (c k : ℕ) → c ≤ 2 ^ 24 → 0 < k → Halved (c * 2 ^ k)
halved c zero l p = absurd (not-le_of_lt p (le_refl 0))
halved c (suc k) l p = dite (dec_le c (2 ^ 24 - 1))
    (λ (g : c ≤ 2 ^ 24 - 1).
    record { v = c * 2 ^ k; twice = ap (λ (x : ℕ). c * x) (pow-suc 2 k) ∙ order c (2 ^ k); q = c; j = k; small = omega arith; same = refl })
    (λ (g : c ≤ 2 ^ 24 - 1 → ⊥).
    let e : c ≡ 2 ^ 24 = omega arith in
    record { v = 2 ^ 23 * 2 ^ suc k; twice = ap (λ (x : ℕ). x * 2 ^ suc k) e ∙ full (2 ^ suc k); q = 2 ^ 23; j = suc k; small = lit< tt; same = refl })
  where
    order : (c x : ℕ) → c * (x * 2) ≡ 2 * (c * x)
    order c x = omega arith

    full : (x : ℕ) → 2 ^ 24 * x ≡ 2 * (2 ^ 23 * x)
    full x = omega arith

-- a whole number of 2 ^ -60 above 0, rounded, is so large that digits are dropped
grid_halved : (a : ℕ) → Halved (grid binary32 (suc a) (2 ^ 60))
unfolding size
grid_halved a = halved (kept 24 (suc a * 2 ^ 149) (2 ^ 60)) (drop 24 (suc a * 2 ^ 149) (2 ^ 60)) (kept_le 24 (suc a * 2 ^ 149) (2 ^ 60)) positive
  where
    w : ℕ
    w = suc a * 2 ^ 149 / 2 ^ 60

    large : 2 ^ 24 ≤ w
    large = (le-div_iff_mul-le (pow_pos 60)).1 (le_trans (lit≤ tt) (mul-le-mul_right (2 ^ 149) (one a)))
      where
        one : (a : ℕ) → 1 ≤ suc a
        one a = omega arith

    positive : 0 < size w - 24
    positive = dite (dec_le (size w) 24) (λ (g : size w ≤ 24). absurd (not-le_of_lt (lt_of_lt_of_le (size-lt w) (pow_mono g)) large))
        (λ (g : size w ≤ 24 → ⊥). omega arith)

-- ---- one word of a turn: plus or minus a / 2 ^ 60, rounded to g units

record Word (m : Bool) (a : ℕ) (x : Float) : Type 0 where
  s : Bool
  g : ℕ
  has : HasValue x s g (2 ^ 149)
  signs : NearZ 0 (signed m a) (signed s a)
  near : Near (a * 2 ^ 149 + 2 ^ 23 * 2 ^ 60) (2 ^ 24 * 2 ^ 60 * g) (2 ^ 24 * 2 ^ 149 * a)
  stays : g ≤ 2 * 2 ^ 149
  parts : Halved g

reshaped : (k c l g a d : ℕ) → Near d (k * (g * c)) (k * (a * l)) → Near d (k * c * g) (k * l * a)
reshaped k c l g a d h = omega arith

nothing : (m : Bool) → NearZ 0 (signed m 0) (signed false 0)
nothing false = omega arith
nothing true = omega arith

same : (z : Signed) → NearZ 0 z z
same z = omega arith

word : (m : Bool) (a : ℕ) → a ≤ 2 ^ 61 → Word m a (rounded m a)
unfolding rounded of_bits
word m zero small = record {
  s = false;
  g = 0;
  has = (refl, refl);
  signs = nothing m;
  near = (lit≤ tt, lit≤ tt);
  stays = zero-le;
  parts = record { v = 0; twice = refl; q = 0; j = 0; small = lit< tt; same = refl };
}
word m (suc a) small =
    let stays : grid binary32 (suc a) (2 ^ 60) ≤ 2 * 2 ^ 149 = grid_bound binary32 (suc a) (2 ^ 60) (pow_pos 60) 2 149 (lit≤ tt)
    (le_trans (mul-le-mul_right (2 ^ 149) small) (lit≤ tt)) in
    record {
      s = m;
      g = grid binary32 (suc a) (2 ^ 60);
      has = round_grid binary32 m (suc a) (2 ^ 60) (lt_of_le_of_lt stays (lit< tt));
      signs = same (signed m (suc a));
      near = reshaped (2 ^ 24) (2 ^ 60) (2 ^ 149) (grid binary32 (suc a) (2 ^ 60)) (suc a) _ (grid_near binary32 (suc a) (2 ^ 60) (pow_pos 60));
      stays = stays;
      parts = grid_halved a;
    }

size_of : (m : Bool) (a L : ℕ) → abs_z (signed m a) ≤ L → a ≤ L
size_of false a L h = omega arith
size_of true a L h = omega arith

size_is : (m : Bool) (a : ℕ) → a ≡ abs_z (signed m a)
size_is false a = omega arith
size_is true a = omega arith

-- x is z, of 2 ^ 60 parts, rounded
Rounded : Float → Signed → Type 0
Rounded x z = Held binary32 x × NearZ (abs_z z * 2 ^ 149 + 2 ^ 23 * 2 ^ 60) (scale (2 ^ 24 * 2 ^ 60) (val binary32 x)) (scale (2 ^ 24 * 2 ^ 149) z)

part_rounded : (m : Bool) (a : ℕ) → abs_z (signed m a) ≤ 2 ^ 61 → Rounded (rounded m a) (signed m a)
unfolding Rounded
part_rounded m a small =
    let x = rounded m a in
    let w = word m a (size_of m a (2 ^ 61) small) in (
      held_is binary32 x w.s w.g w.has,
      subst (λ (b : ℕ). NearZ (b * 2 ^ 149 + 2 ^ 23 * 2 ^ 60) (scale (2 ^ 24 * 2 ^ 60) (val binary32 x)) (scale (2 ^ 24 * 2 ^ 149) (signed m a))) (size_is m a)
          (subst (λ (v : Signed). NearZ (a * 2 ^ 149 + 2 ^ 23 * 2 ^ 60) (scale (2 ^ 24 * 2 ^ 60) v) (scale (2 ^ 24 * 2 ^ 149) (signed m a)))
          (sym (val_is binary32 x w.s w.g w.has))
          (carry (2 ^ 24 * 2 ^ 60) (2 ^ 24 * 2 ^ 149) _ w.g a w.s (signed m a) w.near w.signs)),
    )

-- and half of it is exactly that
HalfOf : Float → Type 0
HalfOf x = Held binary32 (mul binary32 one_half x) × NearZ 0 (scale 2 (val binary32 (mul binary32 one_half x))) (val binary32 x)

part_halved : (m : Bool) (a : ℕ) → abs_z (signed m a) ≤ 2 ^ 61 → HalfOf (rounded m a)
unfolding HalfOf of_bits
part_halved m a small =
    let x = rounded m a in let w = word m a (size_of m a (2 ^ 61) small) in let s = w.s in let g = w.g in
    let H = w.parts in let v = H.v in
    let is : mul binary32 one_half x ≡ round binary32 (unlike false s) v (2 ^ 149) =
    mul_at binary32 one_half x false s 1 g 2 (2 ^ 149) (lit< tt) (pow_pos 149) (refl, refl) w.has
    ∙ round_same binary32 (unlike false s) (1 * g) (2 * 2 ^ 149) v (2 ^ 149) (lit< tt) (pow_pos 149)
    (ap (λ (n : ℕ). 1 * n * 2 ^ 149) H.twice ∙ order v (2 ^ 149)) in
    let le : v ≤ 2 * 2 ^ 149 = le_trans (less v g H.twice) w.stays in
    let r : HasValue (round binary32 (unlike false s) v (2 ^ 149)) (unlike false s) v (2 ^ 149) =
    round_exact binary32 (unlike false s) v (2 ^ 149) H.q H.j (pow_pos 149) H.small (lt_of_le_of_lt (le_trans (le_of_eq (sym H.same)) le) (lit< tt))
    (ap (λ (n : ℕ). n * 2 ^ 149) H.same) in
    let z = mul binary32 one_half x in
    let r' : HasValue z (unlike false s) v (2 ^ 149) = subst (λ (f : Float). HasValue f (unlike false s) v (2 ^ 149)) (sym is) r in (
      held_is binary32 z (unlike false s) v r',
      subst₂ (λ (i k : Signed). NearZ 0 (scale 2 i) k) (sym (val_is binary32 z (unlike false s) v r'))
          (sym (val_is binary32 x s g w.has)) (double s v g H.twice),
    )
  where
    order : (v u : ℕ) → 1 * (2 * v) * u ≡ v * (2 * u)
    order v u = omega arith

    less : (v g : ℕ) → g ≡ 2 * v → v ≤ g
    less v g e = omega arith

    double : (s : Bool) (v g : ℕ) → g ≡ 2 * v → NearZ 0 (scale 2 (signed (unlike false s) v)) (signed s g)
    double false v g e = omega arith
    double true v g e = omega arith

-- ---- both words at an index

pair : (P : Float → Signed → Type 0) → ((m : Bool) (a : ℕ) → abs_z (signed m a) ≤ 2 ^ 61 → P (rounded m a) (signed m a)) → (q c s : ℕ)
    → abs_z (quarters_on signed q c s).0 ≤ 2 ^ 61 → abs_z (quarters_on signed q c s).1 ≤ 2 ^ 61
    → P (quarters_on rounded q c s).0 (quarters_on signed q c s).0 × P (quarters_on rounded q c s).1 (quarters_on signed q c s).1
pair P f zero c s u v = (f false c u, f true s v)
pair P f (suc zero) c s u v = (f true s u, f true c v)
pair P f (suc (suc zero)) c s u v = (f true c u, f false s v)
pair P f (suc (suc (suc q))) c s u v = (f false s u, f false c v)

scaled : (a b U E : ℕ) → a * a + b * b ≤ E * E → a * U * (a * U) + b * U * (b * U) ≤ U * E * (U * E)
scaled a b U E h = omega (arith, mul-le-mul_right (U * U) h)

pub corner : (ε : ℕ) → ε * ε + ε * ε ≤ 2 * ε * (2 * ε)
corner ε = omega arith

both_close : (w : Gauss) (t : Complex) → Disc (2 ^ 60 + 1) w → Rounded t.re w.re → Rounded t.im w.im → Close w t
unfolding Rounded
both_close w t d re im =
    record {
      re = re.0;
      im = im.0;
      off = disc_more (2 ^ 149 * (2 ^ 60 + 1) + 2 * (2 ^ 23 * 2 ^ 60)) (2 ^ 149 * (2 ^ 60 + 2)) _ (lit≤ tt)
          (record {
            inside =
                triangle (abs_z w.re * 2 ^ 149) (abs_z w.im * 2 ^ 149) (2 ^ 23 * 2 ^ 60) (2 ^ 23 * 2 ^ 60) (2 ^ 149 * (2 ^ 60 + 1))
                (2 * (2 ^ 23 * 2 ^ 60)) _ _
                (scaled (abs_z w.re) (abs_z w.im) (2 ^ 149) (2 ^ 60 + 1) d.inside) (corner (2 ^ 23 * 2 ^ 60))
                (near_abs _ (scale (2 ^ 24 * 2 ^ 60) (val binary32 t.re)) (scale (2 ^ 24 * 2 ^ 149) w.re) re.1)
                (near_abs _ (scale (2 ^ 24 * 2 ^ 60) (val binary32 t.im)) (scale (2 ^ 24 * 2 ^ 149) w.im) im.1);
          });
    }

-- the two numbers of an index, and the halves of both
abbrev numbers : ℕ → Complex
numbers index = cx (numbers_at index).0 (numbers_at index).1

abbrev halves : Complex → Complex
halves t = cx (mul binary32 one_half t.re) (mul binary32 one_half t.im)

doubled : (K G : ℕ) (x y : Signed) → NearZ 0 (scale 2 x) y → NearZ 0 (scale (K * G) y) (scale (K * (2 * G)) x)
doubled K G x y e = omega (arith, mul-le-mul_left (K * G) e.0, mul-le-mul_left (K * G) e.1)

half_close : (w : Gauss) (t : Complex) → Close w t → HalfOf t.re → HalfOf t.im → HalfClose w (halves t)
unfolding HalfOf
half_close w t cl re im =
    record {
      re = re.0;
      im = im.0;
      off =
          off_same (2 ^ 149 * (2 ^ 60 + 2)) (scale_g (2 ^ 24 * 2 ^ 60) (val_c t)) (scale_g (2 ^ 24 * 2 ^ 149) w) (scale_g (2 ^ 24 * (2 * 2 ^ 60)) (val_c
          (halves t)))
          (scale_g (2 ^ 24 * 2 ^ 149) w) (
            doubled (2 ^ 24) (2 ^ 60) (val binary32 (mul binary32 one_half t.re)) (val binary32 t.re) re.1,
            doubled (2 ^ 24) (2 ^ 60) (val binary32 (mul binary32 one_half t.im)) (val binary32 t.im) im.1,
          )
          (same_self (scale_g (2 ^ 24 * 2 ^ 149) w)) cl.off;
    }

module _ (index : ℕ) (l : index < 6720) where
  here : house index ≡ record { re = (exact_at index).0; im = (exact_at index).1 }
  unfolding house
  here = ap (λ (n : ℕ). record { re = (exact_at n).0; im = (exact_at n).1 }) (mod-eq_of_lt l)

  disc : Disc (2 ^ 60 + 1) (record { re = (exact_at index).0; im = (exact_at index).1 })
  disc = subst (Disc (2 ^ 60 + 1)) here (turns.norm index)

  each : (P : Float → Signed → Type 0) → ((m : Bool) (a : ℕ) → abs_z (signed m a) ≤ 2 ^ 61 → P (rounded m a) (signed m a))
      → P (numbers_at index).0 (exact_at index).0 × P (numbers_at index).1 (exact_at index).1
  unfolding numbers_at
  each P f = pair P f (entry_of index).quarter (entry_of index).cosine (entry_of index).sine
      (le_trans (part_re (2 ^ 60 + 1) _ disc) (lit≤ tt)) (le_trans (part_im (2 ^ 60 + 1) _ disc) (lit≤ tt))

  pub numbers_close : Close (house index) (numbers index)
  numbers_close =
      let r = each Rounded part_rounded in
      subst (λ (w : Gauss). Close w (numbers index)) (sym here) (both_close (record { re = (exact_at index).0; im = (exact_at index).1 })
      (numbers index) disc r.0 r.1)

  numbers_halved : HalfClose (house index) (halves (numbers index))
  numbers_halved =
      let r = each (λ x z. HalfOf x) part_halved in
      half_close (house index) (numbers index) numbers_close r.0 r.1

-- ---- whole quarters are exactly that

whole_quarters : (q : ℕ) → q < 4 → (z : Gauss) → z ≡ spin q (below (2 ^ 60) 0) → Faithful z (quarters q)
unfolding spin
whole_quarters zero l z e = e
whole_quarters (suc zero) l z e = e
whole_quarters (suc (suc zero)) l z e = e
whole_quarters (suc (suc (suc zero))) l z e = e
whole_quarters (suc (suc (suc (suc q)))) l z e = absurd (none q l)
  where
    none : (q : ℕ) → suc (suc (suc (suc q))) < 4 → ⊥
    none q l = omega arith

at_faithful : (index : ℕ) → index < 6720 → Faithful (house index) (turn_at index)
at_faithful index l = dite (dec_le (index % 1680) 0) (λ (z : index % 1680 ≤ 0).
    let few : index / 1680 < 4 = omega arith in let same : index / 1680 % 4 ≡ index / 1680 = omega arith in
    subst (Faithful (house index)) (turn_whole index (omega arith))
    (whole_quarters (index / 1680) few (house index) (house_whole index (omega arith) ∙ ap (λ (q : ℕ). spin q (below (2 ^ 60) 0)) same)))
    (λ (z : index % 1680 ≤ 0 → ⊥). subst (Faithful (house index)) (turn_numbers index (λ (e : index % 1680 ≡ 0). z (omega arith))) (numbers_close index l))

-- ---- turns

module _ (a : Part) where
  inside : index_of a < 6720
  unfolding index_of
  inside = mod-lt (a.t * 6720 / a.L) (zero-lt-suc 6719)

  pub turn_faithful : Faithful (house (index_of a)) (turn_of a)
  unfolding turn_of
  turn_faithful = at_faithful (index_of a) inside

  -- the words that are filled for it
  pub words_close : Close (house (index_of a)) (cx (words_of (turn_of a)).0 (words_of (turn_of a)).1)
  words_close = subst (λ (w : Float × Float). Close (house (index_of a)) (cx w.0 w.1)) (sym (words_are a)) (numbers_close (index_of a) inside)

  -- and their halves
  pub words_halved : HalfClose (house (index_of a)) (cx (mul binary32 one_half (words_of (turn_of a)).0) (mul binary32 one_half (words_of (turn_of a)).1))
  words_halved = subst (λ (w : Float × Float). HalfClose (house (index_of a)) (cx (mul binary32 one_half w.0) (mul binary32 one_half w.1))) (sym (words_are a))
      (numbers_halved (index_of a) inside)
