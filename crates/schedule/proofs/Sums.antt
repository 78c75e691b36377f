-- Laws of the plain sum, for any arithmetic. Assumes nothing.
use Rattle.sequences.proofs.Basics.{◌≡◌, ap, ap₂, ◌∙◌, ℕ, zero, suc, ◌-◌, ◌≤◌, ◌<◌, arith}
use Rattle.schedule.specs.Stage.{Arith, kernel_turn, total, plain}

-- one more term, as a loop over q has it
pub total_next : {A : Type 0} (a : Arith A) (r : ℕ) (x : ℕ → A) (p q : ℕ) (acc : A) → 0 < q → acc ≡ total a r x p (q - 1)
    → a.plus acc (a.turned (kernel_turn p q r) (x q)) ≡ total a r x p q
unfolding total
total_next a r x p zero acc l e = absurd (omega arith)
total_next a r x p (suc q) acc l e =
    let same : suc q - 1 ≡ q = omega arith in
    ap (λ s. a.plus s (a.turned (kernel_turn p (suc q) r) (x (suc q)))) (rw same at e)

-- a sum rests on the cells that it takes in, and on how they are added and turned
module _ {A : Type 0} (a b : Arith A) (plus : (u w : A) → a.plus u w ≡ b.plus u w) (r : ℕ) (x y : ℕ → A) (p : ℕ) where
  pub total_same : (n : ℕ) → ((q : ℕ) → q ≤ n → (x q ≡ y q) × ((z : A) → a.turned (kernel_turn p q r) z ≡ b.turned (kernel_turn p q r) z))
      → total a r x p n ≡ total b r y p n
  unfolding total
  total_same zero e = (e 0 (omega arith)).0
  total_same (suc n) e =
      let last = e (suc n) (omega arith) in
      ap₂ a.plus (total_same n (λ q l. e q (omega arith))) (ap (a.turned (kernel_turn p (suc n) r)) last.0 ∙ last.1 (y (suc n))) ∙ plus _ _

  pub plain_same : 0 < r → ((q : ℕ) → q < r → (x q ≡ y q) × ((z : A) → a.turned (kernel_turn p q r) z ≡ b.turned (kernel_turn p q r) z))
      → plain a r x p ≡ plain b r y p
  unfolding plain
  plain_same some e = total_same (r - 1) (λ q l. e q (omega arith))
