-- Which lengths a block can have, and the bins of a band. Assumes nothing.
use Rattle.std.specs.Prelude.{ℕ, zero, suc, ◌+◌, ◌-◌, ◌*◌, ◌/◌, ◌%◌, Bool, cond, not, ◌&&◌, ◌==◌}
use Rattle.listening.specs.declared.Band.{Band}

-- filling serves blocks of so many samples: the even lengths that divide 6,720
unfoldable pub served : ℕ → Bool
served n = not (n == 0) && n % 2 == 0 && 6720 % n == 0

-- the first served length among n - d, n + d, n - d - 1, n + d + 1, .., of k such pairs; else 2
unfoldable pub served_from : (k d n : ℕ) → ℕ
served_from zero d n = 2
served_from (suc k) d n = cond (served (n - d)) (n - d) (cond (served (n + d)) (n + d) (served_from k (d + 1) n))

-- the served length that is nearest to n, the smaller of two
unfoldable pub nearest_served : ℕ → ℕ
nearest_served n = served_from n 0 n

-- the bins k from 1 on with lo n <= k rate <= hi n: those of a band from lo to hi hertz in blocks of n samples, `rate` of them a second
unfoldable pub band_of : (n rate lo hi : ℕ) → Band
band_of n rate lo hi = record { lo = cond ((lo * n + rate - 1) / rate == 0) 1 ((lo * n + rate - 1) / rate); hi = hi * n / rate }

-- how many parts of 2 ^ -57 rounding alone can bring to the power of so many bins: 513 / 512 of how far each is off, squared, which is
-- (33 stages + 20) half / 2 ^ 24 by the accuracy theorem, and 3 half / 2 ^ 24 by the window
unfoldable pub feigned : (stages half bins : ℕ) → ℕ
feigned stages half bins = 513 * bins * ((33 * stages + 23) * half) * ((33 * stages + 23) * half)
