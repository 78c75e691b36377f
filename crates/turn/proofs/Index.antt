-- Which parts of a circle the table serves, and their index: reduced, scaled, and that of whole quarters. Assumes nothing.
use Rattle.sequences.proofs.Basics.{◌≡◌, sym, ap, ◌∙◌, subst, ℕ, zero, suc, ◌+◌, ◌*◌, ◌/◌, ◌%◌, ◌<◌, mod-lt, mod-mod, mod-eq_of_lt, zero-mul, mul_comm}
use Rattle.sequences.proofs.Basics.{mul_assoc, mul-div_cancel, div-add-mod', mul-lt-mul_of_pos_right, arith, true, true≢false, eqb-true}
use Rattle.turn.specs.Calls.{part}
use Rattle.turn.specs.Turns.{housed, index_of, turn_at, turn_of, quarters}
use Rattle.turn.proofs.Lookup.{turn_whole}

-- 0 does not divide 6,720
pub housed_pos : (L : ℕ) → housed L ≡ true → 0 < L
unfolding housed
housed_pos zero h = absurd (true≢false (sym h))
housed_pos (suc L) h = omega arith

-- L parts of 6,720 / L each are the circle
pub housed_parts : (L : ℕ) → housed L ≡ true → 6720 / L * L ≡ 6720
unfolding housed
housed_parts L h = omega (arith, div-add-mod' 6720 L, eqb-true (6720 % L) 0 h)

part_pos : (L : ℕ) → housed L ≡ true → 0 < 6720 / L
part_pos L h = pos (6720 / L) (housed_parts L h)
  where
    pos : (d : ℕ) → d * L ≡ 6720 → 0 < d
    pos zero e = omega (arith, zero-mul L)
    pos (suc d) e = omega arith

-- t parts below L are less than the circle
below : (L : ℕ) → housed L ≡ true → (t : ℕ) → t < L → t * (6720 / L) < 6720
below L h t l = subst (λ (x : ℕ). t * (6720 / L) < x) (mul_comm L (6720 / L) ∙ housed_parts L h) (mul-lt-mul_of_pos_right l (part_pos L h))

-- t * d turned round the circle of L * d parts
round : (t L d : ℕ) → t * d ≡ t / L * (d * L) + t % L * d
round t L d = omega (arith, ap (λ (x : ℕ). x * d) (div-add-mod' t L))

-- t of L parts: t is reduced, and each part is 6,720 / L of the table's
pub index_is : (t L : ℕ) → housed L ≡ true → index_of (part t L) ≡ t % L * (6720 / L)
unfolding index_of
index_is t L h =
    let p = housed_parts L h in let d = 6720 / L in
    ap (λ (x : ℕ). t * x / L % 6720) (sym p) ∙ ap (λ (x : ℕ). x / L % 6720) (sym (mul_assoc t d L))
    ∙ ap (λ (x : ℕ). x % 6720) (mul-div_cancel (t * d) (housed_pos L h) ∙ round t L d ∙ ap (λ (x : ℕ). t / L * x + t % L * d) p)
    ∙ rest (t / L) (t % L * d) (below L h (t % L) (mod-lt t (housed_pos L h)))
  where
    rest : (n b : ℕ) → b < 6720 → (n * 6720 + b) % 6720 ≡ b
    rest n b h = omega arith

-- whole circles more make no difference
pub turn_mod : (t L : ℕ) → housed L ≡ true → turn_of (part (t % L) L) ≡ turn_of (part t L)
unfolding turn_of
turn_mod t L h = ap turn_at (index_is (t % L) L h ∙ ap (λ (x : ℕ). x * (6720 / L)) (mod-mod t L) ∙ sym (index_is t L h))

-- t below L
pub index_below : (t L : ℕ) → housed L ≡ true → t < L → (t * (6720 / L) < 6720) × (turn_of (part t L) ≡ turn_at (t * (6720 / L)))
unfolding turn_of
index_below t L h l = (below L h t l, ap turn_at (index_is t L h ∙ ap (λ (x : ℕ). x * (6720 / L)) (mod-eq_of_lt l)))

-- q whole quarters
pub whole_quarters : (t L q : ℕ) → housed L ≡ true → t < L → 4 * t ≡ q * L → turn_of (part t L) ≡ quarters q
whole_quarters t L q h l e =
    let i : t * (6720 / L) ≡ q * 1680 = scaled (6720 / L) (housed_parts L h) in
    (index_below t L h l).1 ∙ sym (turn_whole (t * (6720 / L)) (omega arith)) ∙ ap quarters (quarter (t * (6720 / L)) i)
  where
    scaled : (d : ℕ) → d * L ≡ 6720 → t * d ≡ q * 1680
    scaled d p = omega (arith, ap (λ (x : ℕ). x * d) e, ap (λ (x : ℕ). q * x) p)

    quarter : (i : ℕ) → i ≡ q * 1680 → i / 1680 ≡ q
    quarter i e = omega arith
