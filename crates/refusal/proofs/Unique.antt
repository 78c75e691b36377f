-- Two answers that meet a promise are equal. Assumes nothing.
use Rattle.sequences.proofs.Basics.{◌≡◌, sym, ◌∙◌, ℕ}
use Rattle.refusal.specs.Refusal.{Numbers, Places, NumbersIn, PlacesIn, Settles}
use Rattle.refusal.specs.declared.Refusal.{Refusal}
use Rattle.refusal.specs.Refusal.{Verdict}

-- two things that equal a third
pub agree : {A : Type 0} {a r s : A} → r ≡ a → s ≡ a → r ≡ s
agree p q = p ∙ sym q

pub Numbers_one : {why : Refusal} {r s : ℕ} → Numbers why r → Numbers why s → r ≡ s
Numbers_one p q = agree p.answer q.answer

pub Places_one : {why : Refusal} {r s : ℕ} → Places why r → Places why s → r ≡ s
Places_one p q = agree p.answer q.answer

pub NumbersIn_one : {v : Verdict} {r s : ℕ} → NumbersIn v r → NumbersIn v s → r ≡ s
NumbersIn_one p q = agree p.answer q.answer

pub PlacesIn_one : {v : Verdict} {r s : ℕ} → PlacesIn v r → PlacesIn v s → r ≡ s
PlacesIn_one p q = agree p.answer q.answer

pub Settles_one : {A : Type 0} {v : Verdict} {made lent : A} {r s : Verdict} {x y : A} → Settles v made lent r x → Settles v made lent s y → (r ≡ s) × (x ≡ y)
Settles_one p q = (agree p.answer q.answer, agree p.cells q.cells)
