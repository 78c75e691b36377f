-- The exact inverse: what the stages make of exactly prepared bins is the sum over the bins, in pairs of samples. Assumes nothing.
use Rattle.sequences.proofs.Basics.{◌≡◌, refl, sym, ap, ap₂, ◌∙◌, subst, ℕ, zero, suc, ◌+◌, ◌-◌, ◌*◌, ◌^◌, ◌≤◌, ◌<◌, le_refl, le_step, le_of_lt}
use Rattle.sequences.proofs.Basics.{mul-le-mul_left, arith, lit≤, lit<}
use Rattle.accuracy.specs.Gauss.{Gauss, plus_g, minus_g, times_g, scale_g, Disc, Off, sum_g}
use Rattle.accuracy.specs.House.{house}
use Rattle.accuracy.specs.Spectrum.{real_g, sum_z, along, synthesis}
use Rattle.accuracy.specs.Value.{Signed, NearZ, zero_z, neg_z, plus_z, scale}
use Rattle.accuracy.proofs.Blocks.{circles, one_turned}
use Rattle.accuracy.proofs.Circle.{quarter, spin}
use Rattle.accuracy.proofs.Complexes.{part_im, abs_near}
use Rattle.accuracy.proofs.Conjugate.{conj_g}
use Rattle.accuracy.proofs.Dft.{dft}
use Rattle.accuracy.proofs.Ends.{neg_g}
use Rattle.accuracy.proofs.Formed.{formed, same_turned}
use Rattle.accuracy.proofs.House.{turns, house_conj, house_whole, house_mirror}
use Rattle.accuracy.proofs.Plane.{Same, off_same}
use Rattle.accuracy.proofs.Sums.{gauss, plus_times}
use Rattle.accuracy.proofs.Turning.{rotate, same_self, same_scale_right}

-- ---- sums of signed numbers

sum_re : (n : ℕ) (f : ℕ → Gauss) → (sum_g n f).re ≡ sum_z n (λ k. (f k).re)
unfolding sum_g sum_z
sum_re zero f = refl
sum_re (suc n) f = ap (λ (x : Signed). plus_z x (f n).re) (sum_re n f)

sum_im : (n : ℕ) (f : ℕ → Gauss) → (sum_g n f).im ≡ sum_z n (λ k. (f k).im)
unfolding sum_g sum_z
sum_im zero f = refl
sum_im (suc n) f = ap (λ (x : Signed). plus_z x (f n).im) (sum_im n f)

sum_near : (n e : ℕ) (f g : ℕ → Signed) → ((k : ℕ) → k < n → NearZ e (f k) (g k)) → NearZ (n * e) (sum_z n f) (sum_z n g)
unfolding sum_z
sum_near zero e f g h = omega arith
sum_near (suc n) e f g h = both (sum_z n f) (f n) (sum_z n g) (g n) (sum_near n e f g (λ k l. h k (le_step l))) (h n (le_refl (suc n)))
  where
    both : (a b c d : Signed) → NearZ (n * e) a c → NearZ e b d → NearZ (suc n * e) (plus_z a b) (plus_z c d)
    both a b c d u v = omega arith

sum_same : (n : ℕ) (f g : ℕ → Signed) → ((k : ℕ) → k < n → NearZ 0 (f k) (g k)) → NearZ 0 (sum_z n f) (sum_z n g)
sum_same n f g h = none (sum_z n f) (sum_z n g) (sum_near n 0 f g h)
  where
    none : (x y : Signed) → NearZ (n * 0) x y → NearZ 0 x y
    none x y u = omega arith

sum_scale : (n k : ℕ) (f : ℕ → Signed) → NearZ 0 (sum_z n (λ i. scale k (f i))) (scale k (sum_z n f))
unfolding sum_z
sum_scale zero k f = omega arith
sum_scale (suc n) k f = both (sum_z n (λ i. scale k (f i))) (sum_z n f) (f n) (sum_scale n k f)
  where
    both : (a b c : Signed) → NearZ 0 a (scale k b) → NearZ 0 (plus_z a (scale k c)) (scale k (plus_z b c))
    both a b c u = omega arith

sum_plus : (n : ℕ) (f g : ℕ → Signed) → NearZ 0 (plus_z (sum_z n f) (sum_z n g)) (sum_z n (λ k. plus_z (f k) (g k)))
unfolding sum_z
sum_plus zero f g = omega arith
sum_plus (suc n) f g = both (sum_z n f) (f n) (sum_z n g) (g n) (sum_z n (λ k. plus_z (f k) (g k))) (sum_plus n f g)
  where
    both : (a b c d s : Signed) → NearZ 0 (plus_z a c) s → NearZ 0 (plus_z (plus_z a b) (plus_z c d)) (plus_z s (plus_z b d))
    both a b c d s u = omega arith

sum_neg : (n : ℕ) (g : ℕ → Signed) → sum_z n (λ k. neg_z (g k)) ≡ neg_z (sum_z n g)
unfolding sum_z
sum_neg zero g = refl
sum_neg (suc n) g = ap (λ (x : Signed). plus_z x (neg_z (g n))) (sum_neg n g)

-- the first term apart
sum_front : (n : ℕ) (f : ℕ → Signed) → NearZ 0 (sum_z (suc n) f) (plus_z (f 0) (sum_z n (λ k. f (suc k))))
unfolding sum_z
sum_front zero f = omega arith
sum_front (suc n) f = both (sum_z (suc n) f) (f 0) (sum_z n (λ k. f (suc k))) (f (suc n)) (sum_front n f)
  where
    both : (a b c d : Signed) → NearZ 0 a (plus_z b c) → NearZ 0 (plus_z a d) (plus_z b (plus_z c d))
    both a b c d u = omega arith

-- from the last to the first
sum_back : (n : ℕ) (f : ℕ → Signed) → NearZ 0 (sum_z n (λ k. f (suc k))) (sum_z n (λ k. f (n - k)))
unfolding sum_z
sum_back zero f = omega arith
sum_back (suc n) f = both (sum_z n (λ k. f (suc k))) (f (suc n)) (sum_z n (λ k. f (n - k))) (sum_z (suc n) (λ k. f (suc n - k))) (sum_back n f)
    (subst (λ (s : Signed). NearZ 0 (sum_z (suc n) (λ k. f (suc n - k))) (plus_z (f (suc n)) s))
    (sum_equal n (λ k. f (suc n - suc k)) (λ k. f (n - k)) (λ k. ap f (less k n)))
    (subst (λ (i : ℕ). NearZ 0 (sum_z (suc n) (λ k. f (suc n - k))) (plus_z (f i) (sum_z n (λ k. f (suc n - suc k))))) (none (suc n))
    (sum_front n (λ k. f (suc n - k)))))
  where
    none : (n : ℕ) → n - 0 ≡ n
    none n = omega arith

    less : (k n : ℕ) → suc n - suc k ≡ n - k
    less k n = omega arith

    sum_equal : (n : ℕ) (f g : ℕ → Signed) → ((k : ℕ) → f k ≡ g k) → sum_z n f ≡ sum_z n g
    sum_equal zero f g e = refl
    sum_equal (suc n) f g e = ap₂ plus_z (sum_equal n f g e) (e n)

    both : (a b c d : Signed) → NearZ 0 a c → NearZ 0 d (plus_z b c) → NearZ 0 (plus_z a b) d
    both a b c d u v = omega arith

-- twice a sum whose end is its beginning
sum_twice : (n : ℕ) (f : ℕ → Signed) → NearZ 0 (f n) (f 0) → NearZ 0 (plus_z (sum_z n f) (sum_z n f)) (sum_z n (λ k. plus_z (f k) (f (n - k))))
unfolding sum_z
sum_twice n f e =
    join (sum_z n f) (sum_z n (λ k. f (suc k))) (sum_z n (λ k. f (n - k))) (f 0) (f n) (sum_z n (λ k. plus_z (f k) (f (n - k)))) (sum_front n f) e
    (sum_back n f)
    (sum_plus n f (λ k. f (n - k)))
  where
    join : (a b c x y s : Signed) → NearZ 0 (plus_z a y) (plus_z x b) → NearZ 0 y x → NearZ 0 b c → NearZ 0 (plus_z a c) s → NearZ 0 (plus_z a a) s
    join a b c x y s u v w z = omega arith

-- ---- a pair of bins

-- the mirror image of a turn in the other half of the circle
abbrev mirrored : Gauss → Gauss
mirrored w = record { re = neg_z w.re; im = w.im }

flipped : (G : ℕ) (A B w : Gauss) → Same (formed G B A (mirrored w)) (conj_g (minus_g (scale_g G (plus_g A (conj_g B))) (times_g (quarter (minus_g A
    (conj_g B))) w)))
flipped G A B w = (omega arith, omega arith)

-- one turned by v and the other back
over_sum : (G : ℕ) (q s v : Gauss) → Same (times_g (plus_g (scale_g G q) s) v) (plus_g (scale_g G (times_g q v)) (times_g s v))
over_sum G q s v =
    subst (λ (z : Gauss). Same z (plus_g (scale_g G (times_g q v)) (times_g s v))) (sym (plus_times (scale_g G q) s v))
    (carried (times_g (scale_g G q) v) (scale_g G (times_g q v)) (times_g s v) (same_scale_right G q v))
  where
    carried : (x x' y : Gauss) → Same x x' → Same (plus_g x y) (plus_g x' y)
    carried x x' y e = (omega arith, omega arith)

over_difference : (G : ℕ) (q s v : Gauss) → Same (times_g (minus_g (scale_g G q) s) v) (minus_g (scale_g G (times_g q v)) (times_g s v))
over_difference G q s v = subst (λ (z : Gauss). Same z (minus_g (scale_g G (times_g q v)) (times_g s v))) (sym (plus_times (scale_g G q) (neg_g s) v))
    (carried (times_g (scale_g G q) v) (scale_g G (times_g q v)) (times_g (neg_g s) v) (times_g s v) (same_scale_right G q v) (negated s v))
  where
    carried : (x x' y y' : Gauss) → Same x x' → Same y (neg_g y') → Same (plus_g x y) (minus_g x' y')
    carried x x' y y' e f = (omega arith, omega arith)

    negated : (s v : Gauss) → Same (times_g (neg_g s) v) (neg_g (times_g s v))
    negated s v = (omega arith, omega arith)

conj_times : (z v : Gauss) → Same (times_g (conj_g z) (conj_g v)) (conj_g (times_g z v))
conj_times z v = (omega arith, omega arith)

added : (G : ℕ) (q s v : Gauss) → Same (plus_g (times_g (plus_g (scale_g G q) s) v) (times_g (conj_g (minus_g (scale_g G q) s)) (conj_g v)))
    (record { re = scale (2 * G) (times_g q v).re; im = scale 2 (times_g s v).im })
added G q s v =
    join G (times_g q v) (times_g s v) (times_g (plus_g (scale_g G q) s) v) (times_g (minus_g (scale_g G q) s) v) (times_g (conj_g (minus_g (scale_g G q)
    s)) (conj_g v))
    (over_sum G q s v) (over_difference G q s v) (conj_times (minus_g (scale_g G q) s) v)
  where
    join : (G : ℕ) (x y a b c : Gauss) → Same a (plus_g (scale_g G x) y) → Same b (minus_g (scale_g G x) y) → Same c (conj_g b)
        → Same (plus_g a c) (record { re = scale (2 * G) x.re; im = scale 2 y.im })
    join G x y a b c e f g = (omega arith, omega arith)

in_pair : (G : ℕ) (A B w v : Gauss) → Same (plus_g (times_g (formed G A B w) v) (times_g (formed G B A (mirrored w)) (conj_g v)))
    (record { re = scale (2 * G) (times_g (plus_g A (conj_g B)) v).re; im = scale 2 (times_g (times_g (quarter (minus_g A (conj_g B))) w) v).im })
in_pair G A B w v =
    let q = plus_g A (conj_g B) in let s = times_g (quarter (minus_g A (conj_g B))) w in
    chain (times_g (plus_g (scale_g G q) s) v) _ _ _ (same_turned (formed G B A (mirrored w)) (conj_g (minus_g (scale_g G q) s)) (conj_g v) (flipped G A B w))
    (added G q s v)
  where
    chain : (x y y' z : Gauss) → Same y y' → Same (plus_g x y') z → Same (plus_g x y) z
    chain x y y' z e f = omega arith

-- what both give to an even sample
even_part : (b c v : Gauss) → NearZ 0 (times_g (plus_g (conj_g b) (conj_g (conj_g c))) v).re (plus_z (along b v) (along c (conj_g v)))
even_part b c v = omega arith

-- and, turned on, to the odd sample after it
odd_part : (b c z : Gauss) → NearZ 0 (times_g (quarter (minus_g (conj_g b) (conj_g (conj_g c)))) z).im (neg_z (plus_z (along b z) (along c (mirrored z))))
odd_part b c z = omega arith

times_comm : (x y : Gauss) → times_g x y ≡ times_g y x
times_comm x y = gauss (times_g x y) (times_g y x) (omega arith) (omega arith) (omega arith) (omega arith)

exchanged : (x w v : Gauss) → Same (times_g (times_g x w) v) (times_g (times_g x v) w)
exchanged x w v = subst (λ (z : Gauss). Same (times_g (times_g x w) v) (times_g z w)) (times_comm v x) (rotate v x w)

-- ---- all bins

module _ (p h : ℕ) (circle : p * (h * 2) ≡ 6720) (b : ℕ → Gauss) where
  -- bin k, prepared exactly
  unfoldable pub prepared : ℕ → Gauss
  prepared k = formed (2 ^ 60) (conj_g (b k)) (conj_g (b (h - k))) (house (p * k))

module _ (p h : ℕ) (circle : p * (h * 2) ≡ 6720) (b : ℕ → Gauss) (β γ : Signed) (first : b 0 ≡ real_g β) (last : b h ≡ real_g γ) (u : ℕ) where
  abbrev v : ℕ → Gauss
  v k = house (p * 2 * (k * u))

  term : ℕ → Gauss
  term k = times_g (prepared p h circle b k) (v k)

  v_back : (k : ℕ) → k ≤ h → v (h - k) ≡ conj_g (v k)
  v_back k l = house_conj (p * 2 * (k * u)) (p * 2 * ((h - k) * u)) u (whole (h - k) (omega arith))
    where
      whole : (r : ℕ) → k + r ≡ h → p * 2 * (k * u) + p * 2 * (r * u) ≡ 6720 * u
      whole r e = omega (arith, ap (λ (n : ℕ). p * 2 * u * n) e, ap (λ (n : ℕ). n * u) circle)

  half : p * h ≡ 3360
  half = omega arith

  -- the end is the beginning
  closed : Same (term h) (term 0)
  unfolding term prepared spin
  closed =
      let none : h - h ≡ 0 = omega arith in let all : h - 0 ≡ h = omega arith in
      let zero_turn : p * 0 ≡ 0 = omega arith in
      let w₀ : house (p * 0) ≡ record { re = record { more = 2 ^ 60; less = 0 }; im = zero_z } = ap house zero_turn ∙ house_whole 0 refl in
      let wₕ : house (p * h) ≡ record { re = record { more = 0; less = 2 ^ 60 }; im = zero_z } = ap house half ∙ house_whole 3360 refl in
      let v₀ : v h ≡ v 0 = ap house (whole (p * 2 * (h * u)) (omega (arith, ap (λ (n : ℕ). n * u) circle))) ∙ circles (2 ^ 60) 6720 house turns 0 u
      ∙ ap house (nothing p u) in
      let nₕ : prepared p h circle b h ≡ formed (2 ^ 60) (real_g γ) (real_g β) (record { re = record { more = 0; less = 2 ^ 60 }; im = zero_z }) =
      ap₂ (λ (x y : Gauss). formed (2 ^ 60) (conj_g x) (conj_g y) (house (p * h))) last (ap b none ∙ first) ∙ ap (formed (2 ^ 60) (real_g γ) (real_g β)) wₕ in
      let n₀ : prepared p h circle b 0 ≡ formed (2 ^ 60) (real_g β) (real_g γ) (record { re = record { more = 2 ^ 60; less = 0 }; im = zero_z }) =
      ap₂ (λ (x y : Gauss). formed (2 ^ 60) (conj_g x) (conj_g y) (house (p * 0))) first (ap b all ∙ last) ∙ ap (formed (2 ^ 60) (real_g β) (real_g γ)) w₀ in
      subst (λ (z : Gauss). Same z (times_g (prepared p h circle b 0) (v 0))) (ap₂ times_g (sym nₕ) (sym v₀))
      (subst (λ (z : Gauss). Same (times_g (formed (2 ^ 60) (real_g γ) (real_g β) (record { re = record { more = 0; less = 2 ^ 60 }; im = zero_z })) (v 0))
      (times_g z (v 0))) (sym n₀)
      (same_turned _ _ (v 0) (ends (2 ^ 60) β γ)))
    where
      whole : (n : ℕ) → n ≡ 6720 * u → n ≡ 0 + 6720 * u
      whole n e = omega arith

      nothing : (p u : ℕ) → 0 ≡ p * 2 * (0 * u)
      nothing p u = omega arith

      ends : (G : ℕ) (β γ : Signed) → Same (formed G (real_g γ) (real_g β) (record { re = record { more = 0; less = G }; im = zero_z }))
          (formed G (real_g β) (real_g γ) (record { re = record { more = G; less = 0 }; im = zero_z }))
      ends G β γ = (omega arith, omega arith)

  module _ (k : ℕ) (l : k < h) where
    abbrev A : Gauss
    A = conj_g (b k)

    abbrev B : Gauss
    B = conj_g (b (h - k))

    abbrev w : Gauss
    w = house (p * k)

    both : Same (plus_g (term k) (term (h - k)))
        (record {
          re = scale (2 * 2 ^ 60) (times_g (plus_g A (conj_g B)) (v k)).re;
          im = scale 2 (times_g (times_g (quarter (minus_g A (conj_g B))) w) (v
              k)).im;
        })
    unfolding term prepared
    both =
        let back : h - (h - k) ≡ k = omega arith in
        let m : house (p * (h - k)) ≡ mirrored w = house_mirror (p * k) (p * (h - k)) 0 (sides (h - k) (omega arith)) in
        let e : prepared p h circle b (h - k) ≡ formed (2 ^ 60) B A (mirrored w) =
        ap (λ (n : ℕ). formed (2 ^ 60) B (conj_g (b n)) (house (p * (h - k)))) back ∙ ap (formed (2 ^ 60) B A) m in
        subst (λ (z : Gauss). Same (plus_g (times_g (formed (2 ^ 60) A B w) (v k)) z)
        (record
        { re = scale (2 * 2 ^ 60) (times_g (plus_g A (conj_g B)) (v k)).re; im = scale 2 (times_g (times_g (quarter (minus_g A (conj_g B))) w) (v k)).im }))
        (sym (ap₂ times_g e (v_back k (le_of_lt l)))) (in_pair (2 ^ 60) A B w (v k))
      where
        sides : (r : ℕ) → k + r ≡ h → p * k + p * r ≡ 3360 + 6720 * 0
        sides r e = omega (arith, ap (λ (n : ℕ). p * n) e, half)

    -- what bins k and h - k give to sample j
    gives : ℕ → Signed
    gives j = plus_z (along (b k) (house (p * (j * k)))) (along (b (h - k)) (house (p * (j * (h - k)))))

    evens : NearZ 0 (times_g (plus_g A (conj_g B)) (v k)).re (gives (2 * u))
    unfolding gives
    evens =
        let e₁ : v k ≡ house (p * (2 * u * k)) = ap house (order p u k) in
        let e₂ : conj_g (v k) ≡ house (p * (2 * u * (h - k))) = sym (v_back k (le_of_lt l)) ∙ ap house (order p u (h - k)) in
        subst (λ (z : Gauss). NearZ 0 (times_g (plus_g A (conj_g B)) (v k)).re (plus_z (along (b k) z) (along (b (h - k)) (house (p * (2 * u * (h - k))))))) e₁
        (subst (λ (z : Gauss). NearZ 0 (times_g (plus_g A (conj_g B)) (v k)).re (plus_z (along (b k) (v k)) (along (b (h - k)) z))) e₂
        (even_part (b k) (b (h - k)) (v k)))
      where
        order : (p u k : ℕ) → p * 2 * (k * u) ≡ p * (2 * u * k)
        order p u k = omega arith

    module _ (α : ℕ) (sized : Disc (2 ^ 20 * α) (quarter (minus_g A (conj_g B)))) where
      odds : NearZ (2 ^ 39 * 2 ^ 60 * α) (times_g (times_g (quarter (minus_g A (conj_g B))) w) (v k)).im (scale (2 ^ 60) (neg_z (gives (2 * u + 1))))
      unfolding gives
      odds =
          let x = quarter (minus_g A (conj_g B)) in let z = house (p * 2 * (k * u) + p * k) in
          let o : Off (2 ^ 39 * 2 ^ 60 * α) (times_g (times_g x w) (v k)) (scale_g (2 ^ 60) (times_g x z)) =
          off_same _ _ _ _ _ (back x w (v k)) (same_self _)
          (one_turned (2 ^ 60) 6720 house turns 1 (λ i. x) (λ i. α) (λ i. p * 2 * (k * u)) (p * k) few (lit≤ tt) (λ i m. sized) 0 (lit< tt)) in
          let n : NearZ (2 ^ 39 * 2 ^ 60 * α) (times_g (times_g x w) (v k)).im (scale (2 ^ 60) (times_g x z).im) = abs_near _ _ _ (part_im _ _ o) in
          let e₁ : z ≡ house (p * ((2 * u + 1) * k)) = ap house (order p u k) in
          let e₂ : mirrored z ≡ house (p * ((2 * u + 1) * (h - k))) = sym (house_mirror _ _ u (sides (h - k) (omega arith))) in
          let r : NearZ 0 (times_g x z).im (neg_z (plus_z (along (b k) (house (p * ((2 * u + 1) * k))))
          (along (b (h - k)) (house (p * ((2 * u + 1) * (h - k))))))) =
          subst (λ (y : Gauss). NearZ 0 (times_g x z).im (neg_z (plus_z (along (b k) y) (along (b (h - k)) (house (p * ((2 * u + 1) * (h - k)))))))) e₁
          (subst (λ (y : Gauss). NearZ 0 (times_g x z).im (neg_z (plus_z (along (b k) z) (along (b (h - k)) y)))) e₂ (odd_part (b k) (b (h - k)) z)) in
          moved (2 ^ 60) _ _ _ _ n r
        where
          few : p * k ≤ 2 ^ 14
          few = omega (arith, mul-le-mul_left p (le_of_lt l), half)

          order : (p u k : ℕ) → p * 2 * (k * u) + p * k ≡ p * ((2 * u + 1) * k)
          order p u k = omega arith

          sides : (r : ℕ) → k + r ≡ h → p * 2 * (k * u) + p * k + p * ((2 * u + 1) * r) ≡ 3360 + 6720 * u
          sides r e = omega (arith, ap (λ (n : ℕ). p * n) e, ap (λ (n : ℕ). p * 2 * u * n) e, half, ap (λ (n : ℕ). n * u) circle)

          back : (x w v : Gauss) → Same (times_g (times_g x v) w) (times_g (times_g x w) v)
          back x w v = exchanged x v w

          moved : (G e : ℕ) (x y z : Signed) → NearZ e x (scale G y) → NearZ 0 y z → NearZ e x (scale G z)
          moved G e x y z n r =
              let f : y.more + z.less ≡ z.more + y.less = omega arith in
              omega (arith, ap (λ (m : ℕ). G * m) f)

  -- ---- the sums

  abbrev made : Gauss
  made = dft house (p * 2) h (prepared p h circle b) u

  pub even_sample : NearZ 0 made.re (scale (2 ^ 60) (synthesis house p h b (2 * u)))
  unfolding dft synthesis term gives
  even_sample =
      let g : ℕ → Signed = λ k. plus_z (along (b k) (house (p * (2 * u * k)))) (along (b (h - k)) (house (p * (2 * u * (h - k))))) in
      halved (2 ^ 60) made.re (sum_z h (λ k. (term k).re)) (sum_z h (λ k. plus_z (term k).re (term (h - k)).re)) (sum_z h (λ k. scale (2 * 2 ^ 60) (g k)))
      (sum_z h g)
      (sum_re h term) (sum_twice h (λ k. (term k).re) closed.0) (sum_same h (λ k. plus_z (term k).re (term (h - k)).re) (λ k. scale (2 * 2 ^ 60) (g k))
      (λ k l. through (2 * 2 ^ 60) (plus_z (term k).re (term (h - k)).re) (times_g (plus_g (conj_g (b k)) (conj_g (conj_g (b (h - k))))) (v k)).re (g k)
      (both k l).0 (evens k l)))
      (sum_scale h (2 * 2 ^ 60) g)
    where
      halved : (G : ℕ) (m x s t r : Signed) → m ≡ x → NearZ 0 (plus_z x x) s → NearZ 0 s t → NearZ 0 t (scale (2 * G) r) → NearZ 0 m (scale G r)
      halved G m x s t r e p q w = subst (λ (y : Signed). NearZ 0 y (scale G r)) (sym e) (once G x s t r p q w)
        where
          once : (G : ℕ) (x s t r : Signed) → NearZ 0 (plus_z x x) s → NearZ 0 s t → NearZ 0 t (scale (2 * G) r) → NearZ 0 x (scale G r)
          once G x s t r p q w = omega arith

      through : (k : ℕ) (x y z : Signed) → NearZ 0 x (scale k y) → NearZ 0 y z → NearZ 0 x (scale k z)
      through k x y z e f =
          let g : y.more + z.less ≡ z.more + y.less = omega arith in
          omega (arith, ap (λ (m : ℕ). k * m) g)

  pub odd_sample : (α : ℕ) → ((k : ℕ) → k < h → Disc (2 ^ 20 * α) (quarter (minus_g (conj_g (b k)) (conj_g (conj_g (b (h - k)))))))
      → NearZ (h * (2 ^ 39 * 2 ^ 60 * α)) made.im (scale (2 ^ 60) (neg_z (synthesis house p h b (2 * u + 1))))
  unfolding dft synthesis term gives
  odd_sample α sized =
      let g : ℕ → Signed = λ k. plus_z (along (b k) (house (p * ((2 * u + 1) * k)))) (along (b (h - k)) (house (p * ((2 * u + 1) * (h - k))))) in
      let f : ℕ → Signed = λ k. (times_g (times_g (quarter (minus_g (conj_g (b k)) (conj_g (conj_g (b (h - k)))))) (house (p * k))) (house (p * 2 * (k *
      u)))).im in
      joined (2 ^ 60) (h * (2 ^ 39 * 2 ^ 60 * α)) made.im (sum_z h (λ k. (term k).im)) (sum_z h (λ k. plus_z (term k).im (term (h - k)).im))
      (sum_z h (λ k. scale 2 (f k))) (sum_z h f)
      (sum_z h (λ k. scale (2 ^ 60) (neg_z (g k)))) (sum_z h (λ k. neg_z (g k))) (sum_z h g) (sum_im h term) (sum_twice h (λ k. (term k).im) closed.1)
      (sum_same h (λ k. plus_z (term k).im (term (h - k)).im) (λ k. scale 2 (f k)) (λ k l. (both k l).1)) (sum_scale h 2 f)
      (sum_near h (2 ^ 39 * 2 ^ 60 * α) f (λ k. scale (2 ^ 60) (neg_z (g k))) (λ k l. odds k l α (sized k l))) (sum_scale h (2 ^ 60) (λ k. neg_z (g k)))
      (sum_neg h g)
    where
      joined : (G e : ℕ) (m x s t f a c g : Signed) → m ≡ x → NearZ 0 (plus_z x x) s → NearZ 0 s t → NearZ 0 t (scale 2 f) → NearZ e f a → NearZ 0 a (scale G c)
          → c ≡ neg_z g
          → NearZ e m (scale G (neg_z g))
      joined G e m x s t f a c g i p q r n y k =
          subst (λ (z : Signed). NearZ e z (scale G (neg_z g))) (sym i) (subst (λ (z : Signed). NearZ e x (scale G z)) k (once G e x s t f a c p q r n y))
        where
          once : (G e : ℕ) (x s t f a c : Signed) → NearZ 0 (plus_z x x) s → NearZ 0 s t → NearZ 0 t (scale 2 f) → NearZ e f a → NearZ 0 a (scale G c)
              → NearZ e x (scale G c)
          once G e x s t f a c p q r n y = omega arith
