-- Sums of complex whole numbers. Assumes nothing.
use Rattle.sequences.proofs.Basics.{◌≡◌, refl, sym, ap, ap₂, ◌∙◌, ℕ, zero, suc, ◌+◌, ◌*◌, ◌≤◌, ◌<◌, le_refl, le_trans, le_step, add-zero, add-suc, suc-mul}
use Rattle.sequences.proofs.Basics.{zero-mul, arith}
use Rattle.accuracy.specs.Gauss.{Gauss, zero_g, plus_g, times_g, scale_g, Disc, Off, sum_g}
use Rattle.accuracy.specs.Value.{Signed}
use Rattle.accuracy.proofs.Dft.{sum_n}
use Rattle.accuracy.proofs.Plane.{off_zero, off_plus, disc_plus}
use Rattle.accuracy.proofs.Turning.{by_parts}

pub gauss : (z w : Gauss) → z.re.more ≡ w.re.more → z.re.less ≡ w.re.less → z.im.more ≡ w.im.more → z.im.less ≡ w.im.less → z ≡ w
gauss z w a b c d = ap₂ (λ (x y : Signed). record { re = x; im = y }) (by_parts z.re w.re a b) (by_parts z.im w.im c d)

pub plus_zero : (z : Gauss) → plus_g z zero_g ≡ z
plus_zero z = gauss (plus_g z zero_g) z (omega arith) (omega arith) (omega arith) (omega arith)

pub zero_plus : (z : Gauss) → plus_g zero_g z ≡ z
zero_plus z = gauss (plus_g zero_g z) z (omega arith) (omega arith) (omega arith) (omega arith)

pub plus_assoc : (a b c : Gauss) → plus_g (plus_g a b) c ≡ plus_g a (plus_g b c)
plus_assoc a b c = gauss (plus_g (plus_g a b) c) (plus_g a (plus_g b c)) (omega arith) (omega arith) (omega arith) (omega arith)

pub plus_swap : (a b c d : Gauss) → plus_g (plus_g a b) (plus_g c d) ≡ plus_g (plus_g a c) (plus_g b d)
plus_swap a b c d = gauss (plus_g (plus_g a b) (plus_g c d)) (plus_g (plus_g a c) (plus_g b d)) (omega arith) (omega arith) (omega arith) (omega arith)

pub plus_times : (a b t : Gauss) → times_g (plus_g a b) t ≡ plus_g (times_g a t) (times_g b t)
plus_times a b t = gauss (times_g (plus_g a b) t) (plus_g (times_g a t) (times_g b t)) (omega arith) (omega arith) (omega arith) (omega arith)

zero_times : (t : Gauss) → times_g zero_g t ≡ zero_g
zero_times t = gauss (times_g zero_g t) zero_g (omega arith) (omega arith) (omega arith) (omega arith)

pub plus_scale : (k : ℕ) (a b : Gauss) → scale_g k (plus_g a b) ≡ plus_g (scale_g k a) (scale_g k b)
plus_scale k a b = gauss (scale_g k (plus_g a b)) (plus_g (scale_g k a) (scale_g k b)) (omega arith) (omega arith) (omega arith) (omega arith)

zero_scale : (k : ℕ) → scale_g k zero_g ≡ zero_g
zero_scale k = gauss (scale_g k zero_g) zero_g (omega arith) (omega arith) (omega arith) (omega arith)

pub sum_times : (n : ℕ) (f : ℕ → Gauss) (t : Gauss) → times_g (sum_g n f) t ≡ sum_g n (λ u. times_g (f u) t)
unfolding sum_g
sum_times zero f t = zero_times t
sum_times (suc n) f t = plus_times (sum_g n f) (f n) t ∙ ap (λ (z : Gauss). plus_g z (times_g (f n) t)) (sum_times n f t)

pub sum_scale : (n : ℕ) (f : ℕ → Gauss) (k : ℕ) → scale_g k (sum_g n f) ≡ sum_g n (λ u. scale_g k (f u))
unfolding sum_g
sum_scale zero f k = zero_scale k
sum_scale (suc n) f k = plus_scale k (sum_g n f) (f n) ∙ ap (λ (z : Gauss). plus_g z (scale_g k (f n))) (sum_scale n f k)

pub sum_equal : (n : ℕ) (f g : ℕ → Gauss) → ((u : ℕ) → u < n → f u ≡ g u) → sum_g n f ≡ sum_g n g
unfolding sum_g
sum_equal zero f g h = refl
sum_equal (suc n) f g h = ap₂ plus_g (sum_equal n f g (λ u l. h u (le_step l))) (h n (le_refl (suc n)))

pub sum_plus : (n : ℕ) (f g : ℕ → Gauss) → plus_g (sum_g n f) (sum_g n g) ≡ sum_g n (λ u. plus_g (f u) (g u))
unfolding sum_g
sum_plus zero f g = plus_zero zero_g
sum_plus (suc n) f g = plus_swap (sum_g n f) (f n) (sum_g n g) (g n) ∙ ap (λ (z : Gauss). plus_g z (plus_g (f n) (g n))) (sum_plus n f g)

sum_none : (n : ℕ) → sum_g n (λ u. zero_g) ≡ zero_g
unfolding sum_g
sum_none zero = refl
sum_none (suc n) = ap (λ (z : Gauss). plus_g z zero_g) (sum_none n) ∙ plus_zero zero_g

sum_append : (n k : ℕ) (f : ℕ → Gauss) → sum_g (n + k) f ≡ plus_g (sum_g n f) (sum_g k (λ i. f (n + i)))
unfolding sum_g
sum_append n zero f = rw add-zero (sym (plus_zero (sum_g n f)))
sum_append n (suc k) f = rw add-suc (ap (λ (z : Gauss). plus_g z (f (n + k))) (sum_append n k f) ∙ plus_assoc (sum_g n f) (sum_g k (λ i. f (n + i))) (f (n
    + k)))

-- the numbers below s * r, each by its two digits
pub sum_digits : (s r : ℕ) (f : ℕ → Gauss) → sum_g (s * r) f ≡ sum_g r (λ q. sum_g s (λ u. f (u * r + q)))
unfolding sum_g
sum_digits zero r f = rw zero-mul (sym (sum_none r))
sum_digits (suc s) r f = rw (suc-mul, sum_append (s * r) r f, sum_digits s r f) (sum_plus r (λ q. sum_g s (λ u. f (u * r + q))) (λ q. f (s * r + q)))

-- ---- distances
pub off_sum : (n : ℕ) (E : ℕ → ℕ) (f g : ℕ → Gauss) → ((u : ℕ) → u < n → Off (E u) (f u) (g u)) → Off (sum_n n E) (sum_g n f) (sum_g n g)
unfolding sum_g sum_n
off_sum zero E f g h = off_zero zero_g zero_g (omega arith)
off_sum (suc n) E f g h = off_plus (sum_n n E) (E n) (sum_g n f) (sum_g n g) (f n) (g n) (off_sum n E f g (λ u l. h u (le_step l))) (h n (le_refl (suc n)))

pub disc_sum : (n : ℕ) (E : ℕ → ℕ) (f : ℕ → Gauss) → ((u : ℕ) → u < n → Disc (E u) (f u)) → Disc (sum_n n E) (sum_g n f)
unfolding sum_g sum_n
disc_sum zero E f h = record { inside = omega arith }
disc_sum (suc n) E f h = disc_plus (sum_n n E) (E n) (sum_g n f) (f n) (disc_sum n E f (λ u l. h u (le_step l))) (h n (le_refl (suc n)))

-- ---- sums of natural numbers
pub sum_n_times : (n : ℕ) (f : ℕ → ℕ) (k : ℕ) → sum_n n (λ u. k * f u) ≡ k * sum_n n f
unfolding sum_n
sum_n_times zero f k = omega arith
sum_n_times (suc n) f k = omega (arith, sum_n_times n f k)

pub sum_n_plus : (n : ℕ) (f g : ℕ → ℕ) → sum_n n f + sum_n n g ≡ sum_n n (λ u. f u + g u)
unfolding sum_n
sum_n_plus zero f g = refl
sum_n_plus (suc n) f g = omega (arith, sum_n_plus n f g)

sum_n_append : (n k : ℕ) (f : ℕ → ℕ) → sum_n (n + k) f ≡ sum_n n f + sum_n k (λ i. f (n + i))
unfolding sum_n
sum_n_append n zero f = rw add-zero (omega arith)
sum_n_append n (suc k) f = rw add-suc (omega (arith, sum_n_append n k f))

sum_n_none : (n : ℕ) → sum_n n (λ u. 0) ≡ 0
unfolding sum_n
sum_n_none zero = refl
sum_n_none (suc n) = omega (arith, sum_n_none n)

pub sum_n_digits : (s r : ℕ) (f : ℕ → ℕ) → sum_n (s * r) f ≡ sum_n r (λ q. sum_n s (λ u. f (u * r + q)))
unfolding sum_n
sum_n_digits zero r f = rw zero-mul (sym (sum_n_none r))
sum_n_digits (suc s) r f = rw (suc-mul, sum_n_append (s * r) r f, sum_n_digits s r f) (sum_n_plus r (λ q. sum_n s (λ u. f (u * r + q))) (λ q. f (s * r + q)))

pub sum_n_equal : (n : ℕ) (f g : ℕ → ℕ) → ((u : ℕ) → u < n → f u ≡ g u) → sum_n n f ≡ sum_n n g
unfolding sum_n
sum_n_equal zero f g h = refl
sum_n_equal (suc n) f g h = ap₂ ◌+◌ (sum_n_equal n f g (λ u l. h u (le_step l))) (h n (le_refl (suc n)))

-- at least one term's least
pub sum_n_least : (n : ℕ) (f : ℕ → ℕ) (k : ℕ) → 0 < n → ((u : ℕ) → u < n → k ≤ f u) → k ≤ sum_n n f
unfolding sum_n
sum_n_least zero f k p h = absurd (native.Mathlib.Nat.not-suc-le-zero p)
sum_n_least (suc n) f k p h = omega (arith, h n (le_refl (suc n)))

-- a part of a sum
pub sum_n_part : (k n : ℕ) (f : ℕ → ℕ) → k ≤ n → sum_n k f ≤ sum_n n f
sum_n_part k n f h = let d = (native.Mathlib.Nat.le_dest h).0 in let e : k + d ≡ n = (native.Mathlib.Nat.le_dest h).1 in rw (← e, sum_n_append k d f)
    (omega arith)

-- one term
sum_n_last : (k : ℕ) (f : ℕ → ℕ) → f k ≤ sum_n (suc k) f
unfolding sum_n
sum_n_last k f = omega arith

pub sum_n_term : (n : ℕ) (f : ℕ → ℕ) (k : ℕ) → k < n → f k ≤ sum_n n f
sum_n_term n f k h = le_trans (sum_n_last k f) (sum_n_part (suc k) n f h)
