-- Two numbers put together as the steps at the ends do it, exactly, and how far that is from 0: a root of 2 is saved by taking sum and difference
-- together. Assumes nothing.
use Rattle.sequences.proofs.Basics.{◌≡◌, ap, ap₂, ◌∙◌, ℕ, ◌+◌, ◌*◌, ◌≤◌, le_refl, le_trans, le_of_eq, mul-le-mul_left, arith}
use Rattle.accuracy.specs.Gauss.{Gauss, plus_g, minus_g, times_g, scale_g, Disc, Off}
use Rattle.accuracy.specs.Value.{Signed, NearZ, plus_z, minus_z, abs_z}
use Rattle.accuracy.proofs.Circle.{quarter}
use Rattle.accuracy.proofs.Conjugate.{conj_g}
use Rattle.accuracy.proofs.Plane.{abs_scale, Same, same_times, norm, norm_times, norm_both, disc_same, abs_flip}

-- a and its mirror image c, with the turn w
abbrev pub formed : (G : ℕ) (a c w : Gauss) → Gauss
formed G a c w = plus_g (scale_g G (plus_g a (conj_g c))) (times_g (quarter (minus_g a (conj_g c))) w)

norm_conj : (z : Gauss) → norm (conj_g z) ≡ norm z
norm_conj z = ap (λ (n : ℕ). abs_z z.re * abs_z z.re + n * n) (abs_flip z.im)

norm_quarter : (z : Gauss) → norm (quarter z) ≡ norm z
norm_quarter z = ap (λ (n : ℕ). abs_z z.im * abs_z z.im + n * n) (abs_flip z.re) ∙ order (abs_z z.re * abs_z z.re) (abs_z z.im * abs_z z.im)
  where
    order : (x y : ℕ) → y + x ≡ x + y
    order x y = omega arith

norm_scale : (k : ℕ) (z : Gauss) → norm (scale_g k z) ≡ k * k * norm z
norm_scale k z = ap₂ (λ (x y : ℕ). x * x + y * y) (abs_scale k z.re) (abs_scale k z.im) ∙ square (abs_z z.re) (abs_z z.im)
  where
    square : (a b : ℕ) → k * a * (k * a) + k * b * (k * b) ≡ k * k * (a * a + b * b)
    square a b = omega arith

pub formed_disc : (G E ρ : ℕ) (a c w : Gauss) → 8 * ((G + 1) * (G + 1) * (E * E)) ≤ ρ * ρ → Disc E a → Disc E c → Disc (G + 1) w → Disc ρ (formed G a c w)
formed_disc G E ρ a c w room p q d =
    let u = plus_g a (conj_g c) in let v = minus_g a (conj_g c) in let x = scale_g G u in let y = times_g (quarter v) w in
    record {
      inside =
          plain (norm u) (norm v) (norm x) (norm y) (norm (plus_g x y)) (norm (minus_g x y)) (norm a) (norm (conj_g c)) p.inside
          (le_trans (le_of_eq (norm_conj c)) q.inside) (norm_both a (conj_g c)) (norm_scale G u)
          (le_trans (norm_times (norm (quarter v)) ((G + 1) * (G + 1)) (quarter v) w (le_refl _) d.inside)
          (le_of_eq (ap (λ (n : ℕ). n * ((G + 1) * (G + 1))) (norm_quarter v))))
          (norm_both x y);
    }
  where
    plain : (U K X Y Z T A C : ℕ) → A ≤ E * E → C ≤ E * E → U + K ≡ 2 * A + 2 * C → X ≡ G * G * U → Y ≤ K * ((G + 1) * (G + 1)) → Z + T ≡ 2 * X + 2 * Y
        → Z ≤ ρ * ρ
    plain U K X Y Z T A C i j k l m n =
        let s : U + K ≤ 4 * (E * E) = omega arith in
        le_trans (between U K X Y Z T l m n (mul-le-mul_left ((G + 1) * (G + 1)) s)) room
      where
        between : (U K X Y Z T : ℕ) → X ≡ G * G * U → Y ≤ K * ((G + 1) * (G + 1)) → Z + T ≡ 2 * X + 2 * Y
            → (G + 1) * (G + 1) * (U + K) ≤ (G + 1) * (G + 1) * (4 * (E * E)) → Z ≤ 8 * ((G + 1) * (G + 1) * (E * E))
        between U K X Y Z T l m n o = omega arith

pub same_turned : (z z' t : Gauss) → Same z z' → Same (times_g z t) (times_g z' t)
same_turned z z' t e =
    let self : (x : Signed) → NearZ 0 x x = λ x. omega arith in
    together _ _ _ _ _ _ _ _ (same_times z.re z'.re t.re t.re e.0 (self t.re))
    (same_times z.im z'.im t.im t.im e.1 (self t.im))
    (same_times z.re z'.re t.im t.im e.0 (self t.im)) (same_times z.im z'.im t.re t.re e.1 (self t.re))
  where
    together : (a b c d a' b' c' d' : Signed) → NearZ 0 a a' → NearZ 0 b b' → NearZ 0 c c' → NearZ 0 d d'
        → NearZ 0 (minus_z a b) (minus_z a' b') × NearZ 0 (plus_z c d) (plus_z c' d')
    together a b c d a' b' c' d' p q r s = (omega arith, omega arith)

-- the same of a distance
pub formed_off : (G E ρ : ℕ) (a a' c c' w : Gauss) → 8 * ((G + 1) * (G + 1) * (E * E)) ≤ ρ * ρ → Off E a a' → Off E c c' → Disc (G + 1) w
    → Off ρ (formed G a c w) (formed G a' c' w)
formed_off G E ρ a a' c c' w room p q d =
    let s = quarter (minus_g a (conj_g c)) in let s' = quarter (minus_g a' (conj_g c')) in
    let r = quarter (minus_g (minus_g a a') (conj_g (minus_g c c'))) in
    let e = join (scale_g G (plus_g (minus_g a a') (conj_g (minus_g c c')))) (scale_g G (plus_g a (conj_g c))) (scale_g G (plus_g a' (conj_g c'))) (times_g r w)
    (times_g (minus_g s s') w) (times_g s w) (times_g s' w)
    (summed G a a' c c') (same_turned r (minus_g s s') w (apart a a' c c')) (product s s' w) in
    disc_same ρ (formed G (minus_g a a') (minus_g c c') w) (minus_g (formed G a c w) (formed G a' c' w)) e.0 e.1
    (formed_disc G E ρ (minus_g a a') (minus_g c c') w room p q d)
  where
    summed : (G : ℕ) (a a' c c' : Gauss) → Same (scale_g G (plus_g (minus_g a a') (conj_g (minus_g c c'))))
        (minus_g (scale_g G (plus_g a (conj_g c))) (scale_g G (plus_g a' (conj_g c'))))
    summed G a a' c c' = (omega arith, omega arith)

    apart : (a a' c c' : Gauss) → Same (quarter (minus_g (minus_g a a') (conj_g (minus_g c c'))))
        (minus_g (quarter (minus_g a (conj_g c))) (quarter (minus_g a' (conj_g c'))))
    apart a a' c c' = (omega arith, omega arith)

    product : (s s' w : Gauss) → Same (times_g (minus_g s s') w) (minus_g (times_g s w) (times_g s' w))
    product s s' w = (omega arith, omega arith)

    join : (x y y' z u v v' : Gauss) → Same x (minus_g y y') → Same z u → Same u (minus_g v v') → Same (plus_g x z) (minus_g (plus_g y v) (plus_g y' v'))
    join x y y' z u v v' e f g = (omega arith, omega arith)
