-- What becomes of a pair of cells with its end twiddle, of cells 0 and h, and of the centre, in either direction. Assumes nothing.
use Rattle.std.specs.Float.{binary32}
use Rattle.std.specs.Float.Ieee.{add, sub, mul, neg}
use Rattle.turn.specs.Turns.{+0, one_half}
use Rattle.floats.specs.Complexes.{cx, plus, minus, conjugate}
use Rattle.floats.specs.declared.complex.Complex.{Complex}

-- ---- a pair of cells a and b, with its end twiddle t

-- (R, I), from the sum S and the difference D
abbrev pub mixed : (S D t : Complex) → Complex
mixed S D t =
    cx (add binary32 (mul binary32 S.im t.re) (mul binary32 D.re t.im))
    (sub binary32 (mul binary32 S.im t.im) (mul binary32 D.re t.re))

-- bin k, and bin h - k
abbrev pub fft_near : (a b t : Complex) → Complex
fft_near a b t =
    let S = plus a b in
    let D = minus a b in
    let m = mixed S D t in
    cx (add binary32 (mul binary32 one_half S.re) m.re) (add binary32 (mul binary32 one_half D.im) m.im)

abbrev pub fft_far : (a b t : Complex) → Complex
fft_far a b t =
    let S = plus a b in
    let D = minus a b in
    let m = mixed S D t in
    cx (sub binary32 (mul binary32 one_half S.re) m.re) (sub binary32 m.im (mul binary32 one_half D.im))

-- cell k, and cell h - k
abbrev pub ifft_near : (a b t : Complex) → Complex
ifft_near a b t =
    let S = plus a b in
    let D = minus a b in
    let m = mixed S D t in
    cx (sub binary32 S.re m.re) (sub binary32 D.im m.im)

abbrev pub ifft_far : (a b t : Complex) → Complex
ifft_far a b t =
    let S = plus a b in
    let D = minus a b in
    let m = mixed S D t in
    cx (add binary32 S.re m.re) (sub binary32 (neg m.im) D.im)

-- ---- the steps of a direction

-- what becomes of cells 0 and h, of a pair, and of cell h / 2
pub record Steps : Type 0 where
  pub first : Complex → Complex → Complex
  pub last : Complex → Complex → Complex
  pub near : (a b t : Complex) → Complex
  pub far : (a b t : Complex) → Complex
  pub centre : Complex → Complex

-- bins 0 and h are real, bin h / 2 is conjugated; cell h, which the stages do not make, is not looked at
abbrev pub fft_steps : Steps
fft_steps =
    record {
      first = λ z y. cx (add binary32 z.re z.im) +0;
      last = λ z y. cx (sub binary32 z.re z.im) +0;
      near = fft_near;
      far = fft_far;
      centre = conjugate;
    }

-- cell 0 is made of bins 0 and h, bin h stays, bin h / 2 is doubled and conjugated
abbrev pub ifft_steps : Steps
ifft_steps =
    record {
      first = λ x y.
          let S = plus x y in
          let D = minus x y in
          cx (sub binary32 S.re S.im) (sub binary32 D.re D.im);
      last = λ x y. y;
      near = ifft_near;
      far = ifft_far;
      centre = λ c. conjugate (plus c c);
    }
