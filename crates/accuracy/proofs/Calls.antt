-- The distances of accepted calls, for numbers of a size. Assumes nothing.
use Rattle.sequences.proofs.Basics.{◌≡◌, refl, sym, ap, ◌∙◌, subst, ℕ, zero, suc, ◌+◌, ◌-◌, ◌*◌, ◌^◌, ◌≤◌, ◌<◌, zero-le, le_trans, le_of_eq, le_of_lt}
use Rattle.sequences.proofs.Basics.{mul-le-mul, mul-le-mul_left, mul-le-mul_right, le_of_mul-le-mul_right, arith, List, [], ◌∷◌, T, lit≤, lit<, length, get_or}
use Rattle.sequences.proofs.Basics.{pow-add, pow_mono}
use lib.Ieee.{Float, nan, inf, fin, binary32, fits, down}
use lib.Ieee.Bits.{of_bits-fits}
use lib.Ieee.Fits.{down_pos}
use lib.Ieee.Scale.{finite}
use Rattle.counts.specs.Counts.{radix}
use Rattle.finite.specs.Bits.{HoldAll}
use Rattle.finite.specs.Sizes.{AtMost}
use Rattle.accuracy.specs.Gauss.{Disc}
use Rattle.accuracy.specs.Spectrum.{F32s, Sized, SixteenBit}
use Rattle.accuracy.specs.Value.{mag, abs_z, val, Held}
use Rattle.accuracy.proofs.Complexes.{mag_abs}
use Rattle.accuracy.proofs.Dft.{sum_n}
use Rattle.accuracy.proofs.Plane.{abs_scale}
use Rattle.accuracy.proofs.Stages.{error}
use Rattle.accuracy.proofs.Values.{fits_held}

-- ---- a number of a size

most_finite : (q k : ℕ) (x : Float) → AtMost q k x → T (finite x)
most_finite q k nan v = absurd v
most_finite q k (inf s) v = absurd v
most_finite q k (fin s m e) v = tt

pub word_held : (q k : ℕ) (x : Float) → T (fits binary32 x) → AtMost q k x → Held binary32 x
word_held q k x t v = fits_held binary32 x t (most_finite q k x v)

pub mag_most : (k : ℕ) (x : Float) → Held binary32 x → AtMost 1 k x → mag binary32 x ≤ 2 * 2 ^ (148 + k)
mag_most k nan h v = absurd v
mag_most k (inf s) h v = absurd v
mag_most k (fin s m e) h v = le_of_mul-le-mul_right {m = mag binary32 (fin s m e)}
    (le_trans (le_of_eq (sym h)) (le_trans (mul-le-mul_right (2 ^ 149) v)
    (le_of_eq (regroup (2 ^ k) (down e) (2 ^ 148) (2 ^ (148 + k)) (2 ^ 149) (pow-add 2 148 k) refl))))
    (down_pos e)
  where
    regroup : (u d t w z : ℕ) → w ≡ t * u → z ≡ 2 * t → 1 * u * d * z ≡ 2 * w * d
    regroup u d t w z e f = ap (λ (n : ℕ). 1 * u * d * n) f ∙ sym (ap (λ (n : ℕ). 2 * n * d) e ∙ order t u d)
      where
        order : (t u d : ℕ) → 2 * (t * u) * d ≡ 1 * u * d * (2 * t)
        order t u d = omega arith

-- the same as a size of 2 ^ (j + 1) parts of 2 ^ -109
pub mag_small : (k : ℕ) (x : Float) → Held binary32 x → AtMost 1 k x → mag binary32 x ≤ 2 * 2 ^ (40 + (108 + k))
mag_small k x h v =
    let e : 148 + k ≡ 40 + (108 + k) = omega arith in
    le_trans (mag_most k x h v) (le_of_eq (ap (λ (n : ℕ). 2 * 2 ^ n) e))

-- words of memory are f32s
pub bits_f32s : (bs : List ℕ) (xs : List Float) → HoldAll bs xs → F32s xs
unfolding HoldAll
bits_f32s [] [] h i l = absurd (omega arith)
bits_f32s [] (x ∷ xs) h i l = absurd h
bits_f32s (b ∷ bs) [] h i l = absurd h
bits_f32s (b ∷ bs) (x ∷ xs) h zero l = subst (λ (y : Float). T (fits binary32 y)) h.0.value (of_bits-fits binary32 b)
bits_f32s (b ∷ bs) (x ∷ xs) h (suc i) l = bits_f32s bs xs h.1 i (omega arith)

-- a pair of them, in the plane
pub pair_disc : (j : ℕ) (x y : Float) → mag binary32 x ≤ 2 * 2 ^ (40 + j) → mag binary32 y ≤ 2 * 2 ^ (40 + j)
    → Disc (2 ^ 20 * (3 * 2 ^ (20 + j))) (record { re = val binary32 x; im = val binary32 y })
pair_disc j x y a b =
    let e : 2 ^ 20 * (3 * 2 ^ (20 + j)) ≡ 3 * 2 ^ (40 + j) = same j in
    subst (λ (n : ℕ). Disc n (record { re = val binary32 x; im = val binary32 y })) (sym e)
    (record {
      inside = square (abs_z (val binary32 x)) (abs_z (val binary32 y)) (2 ^ (40 + j)) (le_trans (le_of_eq (sym (mag_abs binary32 x))) a)
          (le_trans (le_of_eq (sym (mag_abs binary32 y))) b);
    })
  where
    same : (j : ℕ) → 2 ^ 20 * (3 * 2 ^ (20 + j)) ≡ 3 * 2 ^ (40 + j)
    same j =
        let e : 2 ^ (20 + (20 + j)) ≡ 2 ^ 20 * 2 ^ (20 + j) = pow-add 2 20 (20 + j) in
        let f : 20 + (20 + j) ≡ 40 + j = omega arith in
        order (2 ^ 20) (2 ^ (20 + j)) ∙ ap (λ (n : ℕ). 3 * n) (sym e ∙ ap (λ (n : ℕ). 2 ^ n) f)
      where
        order : (a b : ℕ) → a * (3 * b) ≡ 3 * (a * b)
        order a b = omega arith

    square : (x y v : ℕ) → x ≤ 2 * v → y ≤ 2 * v → x * x + y * y ≤ 3 * v * (3 * v)
    square x y v a b = omega (arith, mul-le-mul a a, mul-le-mul b b)

pub constant : (n a : ℕ) → sum_n n (λ u. a) ≡ n * a
unfolding sum_n
constant zero a = omega arith
constant (suc n) a = omega (arith, constant n a)

pub weight_least : (j : ℕ) → 2 ^ 20 ≤ 3 * 2 ^ (20 + j)
weight_least j =
    let l : 2 ^ 20 ≤ 2 ^ (20 + j) = pow_mono {i = 20} {j = 20 + j} (omega arith) in
    le_trans (lit≤ tt) (mul-le-mul_left 3 l)

pub weight_most : (h j : ℕ) → h ≤ 4096 → j ≤ 164 → sum_n h (λ u. 3 * 2 ^ (20 + j)) ≤ 2 ^ 220
weight_most h j a b =
    let l : 2 ^ (20 + j) ≤ 2 ^ 184 = pow_mono {i = 20 + j} {j = 184} (omega arith) in
    le_trans (le_of_eq (constant h (3 * 2 ^ (20 + j)))) (le_trans (mul-le-mul a (mul-le-mul_left 3 l)) (lit≤ tt))

-- ---- the error of a run

pub error_stages : (rs : List ℕ) → ((j : ℕ) → j < length rs → radix rs j ≤ 8) → (j : ℕ) → j ≤ length rs → error rs j ≤ j * (15 * 2 ^ 56 + 2 ^ 51)
unfolding error
error_stages rs eight zero l = zero-le
error_stages rs eight (suc j) l = omega (arith, error_stages rs eight j (le_of_lt l), eight j l)

-- R for each weight, in the distance's terms
pub scaled : (R C h j : ℕ) → 3 * R ≤ 2 * C * 2 ^ 56 → R * (h * (3 * 2 ^ (20 + j))) ≤ C * (h * 2 ^ (77 + j))
scaled R C h j l =
    let e : 2 ^ (57 + (20 + j)) ≡ 2 ^ 57 * 2 ^ (20 + j) = pow-add 2 57 (20 + j) in
    let f : 57 + (20 + j) ≡ 77 + j = omega arith in
    le_trans (plain (2 ^ (20 + j))) (le_of_eq (ap (λ (n : ℕ). C * (h * n)) (sym e ∙ ap (λ (n : ℕ). 2 ^ n) f)))
  where
    plain : (y : ℕ) → R * (h * (3 * y)) ≤ C * (h * (2 ^ 57 * y))
    plain y = omega (arith, mul-le-mul_right (h * y) l)

-- 2829 / 2000 is more than a root of 2
pub root_of_two : (K E F : ℕ) → 2 ^ 20 ≤ K → 2829 * E ≤ 2000 * F → 2 * ((K + 1) * (K + 1) * (E * E)) ≤ K * K * (F * F)
root_of_two K E F k l =
    let a : K * K * (2829 * E * (2829 * E)) ≤ K * K * (2000 * F * (2000 * F)) = mul-le-mul_left (K * K) (mul-le-mul l l) in
    let b : 8000000 * ((K + 1) * (K + 1)) ≤ 8003241 * (K * K) = wider in
    let c : 8000000 * ((K + 1) * (K + 1)) * (E * E) ≤ 8003241 * (K * K) * (E * E) = mul-le-mul_right (E * E) b in
    le_of_mul-le-mul_right {k = 4000000} (join (K * K) ((K + 1) * (K + 1)) (E * E) (F * F) _ _ c a (order (K * K) E) (order' (K * K) F)) (lit< tt)
  where
    wider : 8000000 * ((K + 1) * (K + 1)) ≤ 8003241 * (K * K)
    wider = omega (arith, mul-le-mul_right K k)

    order : (n E : ℕ) → n * (2829 * E * (2829 * E)) ≡ 8003241 * n * (E * E)
    order n E = omega arith

    order' : (n F : ℕ) → n * (2000 * F * (2000 * F)) ≡ 4000000 * (n * (F * F))
    order' n F = omega arith

    join : (N M e f x y : ℕ) → 8000000 * M * e ≤ 8003241 * N * e → x ≤ y → x ≡ 8003241 * N * e → y ≡ 4000000 * (N * f) → 2 * (M * e) * 4000000 ≤ N * f * 4000000
    join N M e f x y c a p q = omega arith

-- ---- the same for the inverse

pub tenth : (b : ℕ) → 3 * 2 ^ (20 + b) ≡ 1024 * (3 * 2 ^ (10 + b))
tenth b =
    let e : 2 ^ (10 + (10 + b)) ≡ 2 ^ 10 * 2 ^ (10 + b) = pow-add 2 10 (10 + b) in
    let f : 10 + (10 + b) ≡ 20 + b = omega arith in
    ap (λ (n : ℕ). 3 * n) (ap (λ (n : ℕ). 2 ^ n) (sym f) ∙ e) ∙ order (2 ^ (10 + b))
  where
    order : (n : ℕ) → 3 * (2 ^ 10 * n) ≡ 1024 * (3 * n)
    order n = omega arith

pub tenth_least : (b : ℕ) → 2 ^ 10 ≤ 3 * 2 ^ (10 + b)
tenth_least b =
    let l : 2 ^ 10 ≤ 2 ^ (10 + b) = pow_mono {i = 10} {j = 10 + b} (omega arith) in
    le_trans (lit≤ tt) (mul-le-mul_left 3 l)

pub tenth_most : (h b : ℕ) → h ≤ 4096 → b ≤ 164 → h * (2898 * (3 * 2 ^ (10 + b))) ≤ 2 ^ 220
tenth_most h b k l =
    let m : 2 ^ (10 + b) ≤ 2 ^ 174 = pow_mono {i = 10 + b} {j = 174} (omega arith) in
    le_trans (mul-le-mul k (mul-le-mul_left 2898 (mul-le-mul_left 3 m))) (lit≤ tt)

pub inverse_total : (E j h b : ℕ) → E ≤ j * (15 * 2 ^ 56 + 2 ^ 51)
    → E * (h * (2898 * (3 * 2 ^ (10 + b)))) + h * ((2 ^ 60 + 2 ^ 51) * (1024 * (3 * 2 ^ (10 + b)))) ≤ (64 * j + 25) * (h * 2 ^ (77 + b))
inverse_total E j h b l =
    let e : 2 ^ (67 + (10 + b)) ≡ 2 ^ 67 * 2 ^ (10 + b) = pow-add 2 67 (10 + b) in
    let f : 67 + (10 + b) ≡ 77 + b = omega arith in
    le_trans (plain (2 ^ (10 + b))) (le_of_eq (ap (λ (n : ℕ). (64 * j + 25) * (h * n)) (sym e ∙ ap (λ (n : ℕ). 2 ^ n) f)))
  where
    plain : (y : ℕ) → E * (h * (2898 * (3 * y))) + h * ((2 ^ 60 + 2 ^ 51) * (1024 * (3 * y))) ≤ (64 * j + 25) * (h * (2 ^ 67 * y))
    plain y = omega (arith, mul-le-mul_right (h * y) l)

-- ---- one number by another

pub at_least : (T Z a S : ℕ) → 0 < Z → a ≤ Z * (S + 2) → T * Z + 200 * Z ≤ 100 * a → T ≤ 100 * S
at_least T Z a S pos l m = le_of_mul-le-mul_right {k = Z} (omega arith) pos

pub at_most : (T Y X n S : ℕ) → 0 < Y → 512 * (Y * S) ≤ 513 * (n * X) → 1800 * 513 * X ≤ 512 * Y * T → 1800 * S ≤ n * T
at_most T Y X n S pos l m = le_of_mul-le-mul_right {k = Y} (omega (arith, mul-le-mul_left n m)) pos

-- 16-bit samples divided by 32,768 are at most 1
pub sixteen_sized : (xs : List Float) → SixteenBit xs → Sized 108 xs
sixteen_sized xs s i l =
    let o = s i l in
    le_trans (le_of_eq (mag_abs binary32 (get_or xs i nan) ∙ ap abs_z o.2 ∙ abs_scale (2 ^ 134) o.0)) (le_trans (mul-le-mul_left (2 ^ 134) o.1) (lit≤ tt))
