-- The spectrum of real samples by its definition, over whole numbers: the samples in units of 2 ^ -149, the turns 2 ^ 60 times those of the circle, as
-- the house table has them. Assumes nothing.
use Rattle.std.specs.Prelude.{ℕ, zero, suc, ◌+◌, ◌-◌, ◌*◌, ◌/◌, ◌^◌, ◌≤◌, ◌<◌, ◌≡◌, false, cond, List, T, eqb, length, get_or, Float}
use Rattle.std.specs.Float.{nan, binary32}
use Rattle.std.specs.Float.Ieee.{fits}
use Rattle.floats.specs.Complexes.{cell}
use Rattle.floats.specs.declared.complex.Complex.{Complex}
use Rattle.accuracy.specs.Gauss.{Gauss, times_g, Disc, sum_g, val_c}
use Rattle.accuracy.specs.House.{house}
use Rattle.accuracy.specs.Value.{Signed, signed, zero_z, plus_z, minus_z, times_z, scale, abs_z, mag, val, Held}

-- a real number
abbrev pub real_g : Signed → Gauss
real_g x = record { re = x; im = zero_z }

-- sample i of a row of words, in units
abbrev pub sample : List Float → ℕ → Signed
sample xs i = val binary32 (get_or xs i nan)

-- bin k of 2 h samples y, times what W 0 is: sample i is turned by p * i * k parts of the circle of which W t is t parts; 2 h times p are all
unfoldable pub spectrum : (W : ℕ → Gauss) (p h : ℕ) → (ℕ → Signed) → ℕ → Gauss
spectrum W p h y k = sum_g (h * 2) (λ i. times_g (real_g (y i)) (W (p * (i * k))))

-- bin k of the n = 2 h words xs, with the house table's turns: 2 ^ 60 times the sum over i of x(i) (cos, -sin) of i k / n of a circle
abbrev pub exact_bin : (h : ℕ) → List Float → ℕ → Gauss
exact_bin h xs k = spectrum house (6720 / (2 * h)) h (sample xs) k

-- the words are f32s, as what is read from memory is
abbrev pub F32s : List Float → Type 0
F32s xs = (i : ℕ) → i < length xs → T (fits binary32 (get_or xs i nan))

-- they are at most B = 2 ^ (b - 108) in size, which is 2 ^ (41 + b) units
abbrev pub Sized : (b : ℕ) → List Float → Type 0
Sized b xs = (i : ℕ) → i < length xs → mag binary32 (get_or xs i nan) ≤ 2 * 2 ^ (40 + b)

-- they are 16-bit samples divided by 32,768
abbrev pub SixteenBit : List Float → Type 0
SixteenBit xs = (i : ℕ) → i < length xs → (s : Signed) × (abs_z s ≤ 32768) × (val binary32 (get_or xs i nan) ≡ scale (2 ^ 134) s)

-- how many times h B / 2 ^ 24 a bin is off at most
abbrev pub factor : (stages : ℕ) → ℕ
factor stages = 33 * stages + 20

-- (33 stages + 20) h B / 2 ^ 24 for such samples, in parts of 2 ^ -209, which exact bins are counted in
abbrev pub distance : (stages h b : ℕ) → ℕ
distance stages h b = factor stages * (h * 2 ^ (77 + b))

-- f 0 + .. + f (n - 1)
unfoldable pub sum_z : ℕ → (ℕ → Signed) → Signed
sum_z zero f = zero_z
sum_z (suc n) f = plus_z (sum_z n f) (f n)

-- the part of z along r, times r's size
abbrev pub along : Gauss → Gauss → Signed
along z r = plus_z (times_z z.re r.re) (times_z z.im r.im)

-- ---- back to samples

-- an end bin as the inverse takes it: real, less its imaginary part
abbrev pub folded : Complex → Gauss
folded z = real_g (minus_z (val binary32 z.re) (val binary32 z.im))

-- bin k of h + 1 cells: those at the ends folded
unfoldable pub bin_taken : (h : ℕ) → (ℕ → Complex) → ℕ → Gauss
bin_taken h c k = cond (eqb k 0) (folded (c 0)) (cond (eqb k h) (folded (c h)) (val_c (c k)))

-- sample j of 2 h from the bins b, times what W 0 is: bins 0 and h are counted once, any other twice, the second time for its mirror image
unfoldable pub synthesis : (W : ℕ → Gauss) (p h : ℕ) → (ℕ → Gauss) → ℕ → Signed
synthesis W p h b j = sum_z h (λ k. plus_z (along (b k) (W (p * (j * k)))) (along (b (h - k)) (W (p * (j * (h - k))))))

-- sample j of the inverse of the bins in the words xs, unscaled, with the house table's turns: 2 ^ 60 times it
abbrev pub exact_sample : (h : ℕ) → List Float → ℕ → Signed
exact_sample h xs j = synthesis house (6720 / (2 * h)) h (bin_taken h (cell xs)) j

-- (64 stages + 25) h B / 2 ^ 24 for numbers of such bins, in the same parts
abbrev pub inverse_distance : (stages h b : ℕ) → ℕ
inverse_distance stages h b = (64 * stages + 25) * (h * 2 ^ (77 + b))

-- ---- lines

-- sample i of a tone at k: r says its size and phase, in parts of what W 0 is
abbrev pub tone : (W : ℕ → Gauss) (p k : ℕ) → Gauss → ℕ → Signed
tone W p k r i = along (W (p * (i * k))) r

-- how large z is, squared
abbrev pub power : Gauss → ℕ
power z = abs_z z.re * abs_z z.re + abs_z z.im * abs_z z.im

-- the n = 2 h words go along a tone at k by C: r, the tone's size and phase, is at most A, and C / A is counted in parts of 2 ^ -209, as exact bins are
pub record Correlates (h : ℕ) (xs : List Float) (k : ℕ) (r : Gauss) (A C : ℕ) : Type 0 where
  pub size : Disc A r
  pub enough : C + (sum_z (h * 2) (λ i. times_z (sample xs i) (tone house (6720 / (2 * h)) k r i))).less
      ≤ (sum_z (h * 2) (λ i. times_z (sample xs i) (tone house (6720 / (2 * h)) k r i))).more

-- x is a number of S units of 2 ^ -149, with no minus sign
pub record IsUnits (S : ℕ) (x : Float) : Type 0 where
  pub held : Held binary32 x
  pub value : val binary32 x ≡ signed false S
