-- One stage, from block sums of one stride to those of the next, within a little. Assumes nothing.
use Rattle.sequences.proofs.Basics.{◌≡◌, refl, sym, ap, ap₂, ◌∙◌, ℕ, zero, suc, ◌+◌, ◌-◌, ◌*◌, ◌/◌, ◌%◌, ◌^◌, ◌≤◌, ◌<◌, le_trans, le_of_eq, mul-le-mul_right}
use Rattle.sequences.proofs.Basics.{div-add-mod', arith}
use Rattle.accuracy.specs.Gauss.{Gauss, times_g, scale_g, Disc, Off, sum_g}
use Rattle.accuracy.proofs.Dft.{sum_n}
use Rattle.accuracy.proofs.Plane.{off_same, off_eq, off_more, off_trans, off_times, off_scale, off_unscale}
use Rattle.accuracy.proofs.Sums.{sum_times, sum_scale, off_sum, sum_n_times}
use Rattle.accuracy.proofs.Turning.{multiply, rotate, same_scale_left, same_scale_right, same_self}
use Rattle.accuracy.proofs.Turns.{Turns}

-- ---- from the sum over turned cells to the sum over turned block sums
radius : (G E ρ S : ℕ) → E ≤ 2 ^ 6 * G → G * (ρ * S) + E * (G + 1) * S + 2 ^ 39 * G * S ≤ G * ((E + ρ + (2 ^ 39 + 2 ^ 6)) * S)
radius G E ρ S h = omega (arith, mul-le-mul_right S h)

module _ (W : ℕ → Gauss) (G : ℕ) (pos : 0 < G) (norm : (t : ℕ) → Disc (G + 1) (W t)) (r : ℕ) (z T T' : ℕ → Gauss) (v A : ℕ → ℕ) (P : Gauss) (ρ E : ℕ)
    (fine : E ≤ 2 ^ 6 * G)
    (out : Off (ρ * sum_n r A) (scale_g G P) (sum_g r (λ q. times_g (z q) (W (v q)))))
    (before : (q : ℕ) → q < r → Off (E * A q) (scale_g G (z q)) (T q))
    (exact : (q : ℕ) → q < r → Off (2 ^ 39 * G * A q) (times_g (T q) (W (v q))) (scale_g G (T' q))) where
  pub step : Off ((E + ρ + (2 ^ 39 + 2 ^ 6)) * sum_n r A) (scale_g G P) (sum_g r T')
  step =
      let S = sum_n r A in
      let o₁ : Off (G * (ρ * S)) (scale_g G (scale_g G P)) (sum_g r (λ q. scale_g G (times_g (z q) (W (v q))))) =
      off_eq _ _ _ _ _ refl (sum_scale r (λ q. times_g (z q) (W (v q))) G) (off_scale G (ρ * S) (scale_g G P) (sum_g r (λ q. times_g (z q) (W (v q)))) out) in
      let o₂ : Off (sum_n r (λ q. E * (G + 1) * A q)) (sum_g r (λ q. scale_g G (times_g (z q) (W (v q))))) (sum_g r (λ q. times_g (T q) (W (v q)))) =
      off_sum r (λ q. E * (G + 1) * A q) _ _ (λ q l. off_more (E * A q * (G + 1)) (E * (G + 1) * A q) _ _ (le_of_eq (omega arith))
      (off_same _ _ _ _ _ (same_scale_right G (z q) (W (v q))) (same_self _)
      (off_times (E * A q) (G + 1) (scale_g G (z q)) (T q) (W (v q)) (before q l) (norm (v q))))) in
      let o₃ : Off (sum_n r (λ q. 2 ^ 39 * G * A q)) (sum_g r (λ q. times_g (T q) (W (v q)))) (scale_g G (sum_g r T')) =
      off_eq _ _ _ _ _ refl (sym (sum_scale r T' G)) (off_sum r (λ q. 2 ^ 39 * G * A q) (λ q. times_g (T q) (W (v q))) (λ q. scale_g G (T' q)) exact) in
      let o : Off (G * (ρ * S) + sum_n r (λ q. E * (G + 1) * A q) + sum_n r (λ q. 2 ^ 39 * G * A q)) (scale_g G (scale_g G P)) (scale_g G (sum_g r T')) =
      off_trans _ _ _ _ _ (off_trans _ _ _ _ _ o₁ o₂) o₃ in
      off_unscale G ((E + ρ + (2 ^ 39 + 2 ^ 6)) * S) (scale_g G P) (sum_g r T') pos
      (off_more _ _ _ _ (le_trans (le_of_eq (ap₂ (λ (i j : ℕ). G * (ρ * S) + i + j) (sum_n_times r A (E * (G + 1))) (sum_n_times r A (2 ^ 39 * G))))
      (radius G E ρ S fine)) o)

-- ---- a block sum turned
module _ (G N : ℕ) (W : ℕ → Gauss) (turns : Turns G N W) (s : ℕ) (x : ℕ → Gauss) (a e : ℕ → ℕ) (v : ℕ) (few : v ≤ 2 ^ 14) (room : 2 ^ 16 ≤ G)
    (sized : (u : ℕ) → u < s → Disc (2 ^ 20 * a u) (x u)) where
  pub one_turned : (u : ℕ) → u < s → Off (2 ^ 39 * G * a u) (times_g (times_g (x u) (W (e u))) (W v)) (scale_g G (times_g (x u) (W (e u + v))))
  one_turned u l = off_more (v * (32 * G) * (2 ^ 20 * a u)) (2 ^ 39 * G * a u) _ _ (bound (a u) v few)
      (off_same _ _ _ _ _ (rotate (x u) (W (e u)) (W v)) (same_scale_left G (x u) (W (e u + v)))
      (off_times (v * (32 * G)) (2 ^ 20 * a u) (times_g (W (e u)) (W v)) (scale_g G (W (e u + v))) (x u) (multiply G N W turns (e u) v (omega arith))
      (sized u l)))
    where
      bound : (b v : ℕ) → v ≤ 2 ^ 14 → v * (32 * G) * (2 ^ 20 * b) ≤ 2 ^ 39 * G * b
      bound b v h = omega (arith, mul-le-mul_right (G * b) h)

  pub block_turned : Off (2 ^ 39 * G * sum_n s a) (times_g (sum_g s (λ u. times_g (x u) (W (e u)))) (W v)) (scale_g G (sum_g s (λ u. times_g (x u) (W (e u
      + v)))))
  block_turned = off_more _ _ _ _ (le_of_eq (sum_n_times s a (2 ^ 39 * G)))
      (off_eq _ _ _ _ _ (sym (sum_times s (λ u. times_g (x u) (W (e u))) (W v))) (sym (sum_scale s (λ u. times_g (x u) (W (e u + v))) G))
      (off_sum s (λ u. 2 ^ 39 * G * a u) (λ u. times_g (times_g (x u) (W (e u))) (W v)) (λ u. scale_g G (times_g (x u) (W (e u + v)))) one_turned))

-- ---- whole circles do not count
pub circles : (G N : ℕ) (W : ℕ → Gauss) → Turns G N W → (t m : ℕ) → W (t + N * m) ≡ W t
circles G N W turns t zero = ap W (omega arith)
circles G N W turns t (suc m) = ap W (omega arith) ∙ turns.period (t + N * m) ∙ circles G N W turns t m

-- the exponents of a term add up, but for whole circles
exponents : (h n s r : ℕ) → h ≡ n * (s * r) → (k q u : ℕ)
    → n * (u * r + q) * k ≡ n * r * u * (k % s) + (k % s * q * n + k / s * q % r * (n * s)) + h * (k / s * q / r + u * (k / s))
exponents h n s r parts k q u =
    rw parts (omega (arith, ap (λ (y : ℕ). n * (u * r + q) * y) (div-add-mod' k s), ap (λ (y : ℕ). y * (n * s)) (div-add-mod' (k / s * q) r)))

pub indices : (G N : ℕ) (W : ℕ → Gauss) → Turns G N W → (p h n s r : ℕ) → h ≡ n * (s * r) → p * h ≡ N → (k q u : ℕ)
    → W (p * (n * r * u * (k % s)) + (p * (k % s * q * n) + p * (k / s * q % r * (n * s)))) ≡ W (p * (n * (u * r + q) * k))
indices G N W turns p h n s r parts circle k q u =
    let c = k / s * q / r + u * (k / s) in
    let e : p * (n * (u * r + q) * k) ≡ p * (n * r * u * (k % s)) + (p * (k % s * q * n) + p * (k / s * q % r * (n * s))) + N * c =
    ap (λ (y : ℕ). p * y) (exponents h n s r parts k q u) ∙ omega (arith, ap (λ (y : ℕ). y * c) circle) in
    sym (ap W e ∙ circles G N W turns _ c)
