-- What the report takes from planning, and the words of its radices. Assumes nothing.
use Rattle.sequences.proofs.Basics.{◌≡◌, refl, sym, ap, ◌∙◌, ℕ, min, ◌≤◌, arith, dec_le, true, dite, List, length, take, take-length, take_all}
use Rattle.sequences.proofs.Basics.{[], ◌∷◌, map}
use Rattle.std.specs.Prelude.{Ok}
use Rattle.refusal.proofs.Rows.{granted_ok}
use Rattle.plan.specs.Record.{planned, accepted_plan, is_planned}
use Rattle.plan.specs.declared.Record.{Record}
use Rattle.plan.specs.declared.Planned.{Planned}
use Rattle.plan.proofs.Bounds.{plan_order}
use Rattle.plan.proofs.Records.{accepted_good, planned_passes}
use Rattle.text.specs.Lines.{decimal}
use Rattle.text.specs.Growing.{Holds}
use Rattle.text.specs.declared.Text.{Text}
use Rattle.little.specs.Numbers.{ascii}
use Rattle.tokens.specs.Tokens.{radices, first_read}
use Rattle.plan_text.specs.Report.{lines_of, report_of, Reports, factor_words}

-- a plan has at most 13 radices
pub planned_count : (p : Record) → is_planned p ≡ true → p.count ≤ 13
planned_count p e = (plan_order p e).few

-- an accepted answer of planning holds a plan
pub planned_ok : (xs : List ℕ) (r : Planned) → Ok r ≡ planned xs → is_planned r.plan ≡ true
unfolding planned accepted_plan
planned_ok xs r e =
    let told = granted_ok _ _ _ e in
    ap (λ (a : Planned). is_planned a.plan) told.1 ∙ planned_passes xs (accepted_good xs told.0)

-- no more than there is
pub take_least : (n : ℕ) (xs : List ℕ) → take (min (length xs) n) xs ≡ take n xs
take_least n xs = dite (dec_le (length xs) n) (λ (h : length xs ≤ n).
    let e : min (length xs) n ≡ length xs = omega arith in
    ap (λ (k : ℕ). take k xs) e ∙ take-length xs ∙ sym (take_all n xs h)) (λ (h : length xs ≤ n → ⊥).
    let e : min (length xs) n ≡ n = omega arith in
    ap (λ (k : ℕ). take k xs) e)

-- the text of the report's bytes
pub reported : {xs : List ℕ} {r : Text} {input : List ℕ} → xs ≡ lines_of (planned (radices (first_read input))) → Holds xs r → Reports input r
unfolding report_of
reported {xs} {r} {input} e h = record { answer = h.text ∙ e; fits = omega (arith, h.fits, ap length e) }

-- the words of some radices
pub some_factors : (rs : List ℕ) → (length rs ≡ 0 → ⊥) → factor_words rs ≡ map decimal rs
unfolding factor_words
some_factors [] n = absurd (n refl)
some_factors (b ∷ bs) n = refl

pub no_factors : (rs : List ℕ) → length rs ≡ 0 → factor_words rs ≡ ascii "-" ∷ []
unfolding factor_words
no_factors [] n = refl
no_factors (b ∷ bs) n = absurd (omega arith)
