-- Laws of the widths. Assumes nothing.
use Rattle.sequences.proofs.Basics.{◌≡◌, refl, ℕ, ◌<◌, ◌≤◌, arith, Bool, true, false, ◌||◌, eqb, eqb-true, ne_eqb}
use Rattle.packing.specs.Places.{is_width}

-- 1, 2 and 4 are the only widths
pub no_width : (W : ℕ) → (W ≡ 1 → ⊥) → (W ≡ 2 → ⊥) → (W ≡ 4 → ⊥) → false ≡ is_width W
unfolding is_width
no_width W a b c = simp (ne_eqb W 1 a, ne_eqb W 2 b, ne_eqb W 4 c)

-- a width is from 1 to 4
pub width_bounds : (W : ℕ) → is_width W ≡ true → (0 < W) × (W ≤ 4)
unfolding is_width
width_bounds W e = one (eqb W 1) (eqb W 2) (eqb W 4) refl refl refl e
  where
    one : (a b c : Bool) → eqb W 1 ≡ a → eqb W 2 ≡ b → eqb W 4 ≡ c → (a || b || c) ≡ true → (0 < W) × (W ≤ 4)
    one true b c f g h t = let w = eqb-true W 1 f in (omega arith, omega arith)
    one false true c f g h t = let w = eqb-true W 2 g in (omega arith, omega arith)
    one false false true f g h t = let w = eqb-true W 4 h in (omega arith, omega arith)
    one false false false f g h t = absurd (let z : ◌≡◌ {A = ℕ} 0 1 = cc in omega arith)
