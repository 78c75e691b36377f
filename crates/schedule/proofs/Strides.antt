-- Laws of strides: each stage multiplies the stride by its radix. Assumes nothing.
use Rattle.sequences.proofs.Basics.{◌≡◌, refl, sym, ap, ◌∙◌, ℕ, zero, suc, ◌*◌, ◌<◌, one-mul, mul-one, mul_assoc, le_of_suc-le-suc, not-suc-le-zero, arith}
use Rattle.sequences.proofs.Basics.{List, [], ◌∷◌, length, drop, take-length}
use Rattle.radices.specs.Lists.{product}
use Rattle.counts.specs.Counts.{radix, stride}

pub stride_suc : (rs : List ℕ) (j : ℕ) → j < length rs → stride rs (suc j) ≡ stride rs j * radix rs j
unfolding stride radix product
stride_suc [] j l = absurd (not-suc-le-zero l)
stride_suc (r ∷ rs) zero l = simp (mul-one, one-mul)
stride_suc (r ∷ rs) (suc j) l = rw (stride_suc rs j (le_of_suc-le-suc l), ← mul_assoc)

-- what is left of the product
pub stride_drop : (rs : List ℕ) (j : ℕ) → product rs ≡ product (drop j rs) * stride rs j
unfolding stride product
stride_drop rs zero = sym (mul-one (product rs))
stride_drop [] (suc j) = refl
stride_drop (r ∷ rs) (suc j) = omega (arith, ap (λ (n : ℕ). r * n) (stride_drop rs j))

pub stride_length : (rs : List ℕ) → stride rs (length rs) ≡ product rs
unfolding stride
stride_length rs = ap product (take-length rs)

-- h cells are whole blocks at every stage
pub stage_parts : (rs : List ℕ) (j : ℕ) → j < length rs → product rs ≡ product (drop (suc j) rs) * (stride rs j * radix rs j)
stage_parts rs j l = stride_drop rs (suc j) ∙ ap (λ (n : ℕ). product (drop (suc j) rs) * n) (stride_suc rs j l)
