-- Laws of the verdict: which row decides, what an accepted call tells, what its tests tell of numbers, and what a call leaves. Assumes nothing.
use Rattle.sequences.proofs.Basics.{◌≡◌, refl, ap, ◌∙◌, ℕ, ◌*◌, ◌<◌, ◌≤◌, Bool, true, false, not, ◌||◌, List, [], ◌∷◌, ◌++◌, eqb, ltb, eq-eqb, ne_eqb, lt-ltb}
use Rattle.sequences.proofs.Basics.{le-ltb, eqb-true, eqb-false, ltb-true, ltb-false, not-true, not-false}
use Rattle.std.specs.Prelude.{Result, Ok, Err}
use Rattle.std.specs.Result.{IsErrAnd}
use Rattle.std.proofs.lemmas.Result.{err_from_is_err_and}
use Rattle.refusal.specs.Refusal.{Row, verdict_by, verdict, granted, left, Settles}
use Rattle.refusal.specs.declared.Refusal.{Refusal}
use Rattle.refusal.specs.Refusal.{Verdict}
use Rattle.refusal.specs.Refusal.{Accepted, Refused}

-- ---- which row decides: `search deciding` goes down the rows, passes each by its test, and stops at the one that is given

-- a row that is given decides
pub decides : (b : Bool) (u why : Refusal) (rest : Verdict) → u ≡ why → b ≡ true → Refused u ≡ verdict_by b why rest
decides b u why rest e f = rw (e, f)

-- one that is not leaves it to those after it
pub passes : (b : Bool) (why : Refusal) (rest v : Verdict) → b ≡ false → v ≡ rest → v ≡ verdict_by b why rest
passes b why rest v e f = rw e f

-- a test, and one that a call answered
pub held : (b : Bool) → b ≡ true → not b ≡ false
held b e = rw e

pub failed : (b : Bool) → b ≡ false → not b ≡ true
failed b e = rw e

pub told_is : (b r t : Bool) → r ≡ b → r ≡ t → b ≡ t
told_is b r t e f = rw e at f

pub told_not : (b r t : Bool) → r ≡ b → not r ≡ t → not b ≡ t
told_not b r t e f = rw e at f

-- two numbers are equal, or not, also one and twice what a call found
pub equal_twice : (a b r : ℕ) → r ≡ b → a ≡ 2 * r → eqb a (2 * b) ≡ true
equal_twice a b r e f = eq-eqb a (2 * b) (rw e at f)

pub apart_twice : (a b r : ℕ) → r ≡ b → (a ≡ 2 * r → ⊥) → eqb a (2 * b) ≡ false
apart_twice a b r e f = ne_eqb a (2 * b) (rw e at f)

-- a place that a call found is below a length, or not
pub found : (k m n : ℕ) → n ≡ k → n < m → ltb k m ≡ true
found k m n e h = lt-ltb k m (rw e at h)

pub none_found : (k m n : ℕ) → n ≡ k → m ≤ n → ltb k m ≡ false
none_found k m n e h = le-ltb k m (rw e at h)

-- one of two tests, or none
pub first_of : (a b : Bool) → a ≡ true → (a || b) ≡ true
first_of a b e = rw e

pub second_of : (a b : Bool) → b ≡ true → (a || b) ≡ true
second_of true b e = refl
second_of false b e = e

pub none_of : (a b : Bool) → a ≡ false → b ≡ false → (a || b) ≡ false
none_of a b e f = rw (e, f)

pub ruleset deciding = (
  decides,
  passes,
  held,
  failed,
  told_not,
  eq-eqb,
  ne_eqb,
  equal_twice,
  apart_twice,
  lt-ltb,
  le-ltb,
  found,
  none_found,
  first_of,
  second_of,
  none_of,
)

-- ---- what an accepted call tells: `search accepted` goes down its rows, none of them given, and reads off the tests

-- the first row is not given, and the others accept
pub not_given : (b : Bool) (why : Refusal) (rest : Verdict) → verdict_by b why rest ≡ Accepted → b ≡ false
not_given true why rest e = cc
not_given false why rest e = refl

pub others_accept : (b : Bool) (why : Refusal) (rest : Verdict) → verdict_by b why rest ≡ Accepted → rest ≡ Accepted
others_accept true why rest e = cc
others_accept false why rest e = e

-- neither of two tests holds
pub not_first : (a b : Bool) → (a || b) ≡ false → a ≡ false
not_first true b e = e
not_first false b e = refl

pub not_second : (a b : Bool) → (a || b) ≡ false → b ≡ false
not_second true b e = cc
not_second false b e = e

pub ruleset accepted = (not_given, others_accept, not_first, not_second, told_not, not-true, not-false, eqb-true, eqb-false, ltb-true, ltb-false)

-- ---- rows in two parts

-- rows that refuse decide, whatever rows follow
pub refused_on : (rows more : List Row) (why : Refusal) → verdict rows ≡ Refused why → verdict (rows ++ more) ≡ Refused why
refused_on [] more why e = cc
refused_on (row ∷ rows) more why e = go row.given e (λ f. refused_on rows more why f)
  where
    go : (b : Bool) → verdict_by b row.why (verdict rows) ≡ Refused why → (verdict rows ≡ Refused why → verdict (rows ++ more) ≡ Refused why)
        → verdict_by b row.why (verdict (rows ++ more)) ≡ Refused why
    go true e f = e
    go false e f = f e

-- rows that accept leave it to those that follow
pub accepted_on : (rows more : List Row) → verdict rows ≡ Accepted → verdict (rows ++ more) ≡ verdict more
accepted_on [] more e = refl
accepted_on (row ∷ rows) more e =
    let given = row.given in let why = row.why in
    rw (not_given given why (verdict rows) e) (accepted_on rows more (others_accept given why (verdict rows) e))

-- ---- what a call answers

-- a refused call answers its refusal
pub refuses : {A : Type 0} (v : Verdict) (a : A) (why : Refusal) → Refused why ≡ v → Err why ≡ granted v a
refuses v a why e = ap (λ (u : Verdict). granted u a) e

-- an accepted one a value
pub grants : {A : Type 0} (v : Verdict) (a b : A) → Accepted ≡ v → b ≡ a → Ok b ≡ granted v a
grants v a b e f = ap (λ x. Ok x) f ∙ ap (λ (u : Verdict). granted u a) e

-- and only that
pub granted_ok : {A : Type 0} (v : Verdict) (a b : A) → Ok b ≡ granted v a → (v ≡ Accepted) × (b ≡ a)
granted_ok Accepted a b e = (refl, cc)
granted_ok (Refused why) a b e = cc

pub granted_err : {A : Type 0} (v : Verdict) (a : A) (why : Refusal) → Err why ≡ granted v a → v ≡ Refused why
granted_err Accepted a why e = cc
granted_err (Refused other) a why e = cc

-- what the exit of a `?` answers
pub thrown : {A : Type 0} (r : Result A Refusal) (why : Refusal) → IsErrAnd r (λ e. e ≡ why) → r ≡ Err why
thrown r why s = let p = err_from_is_err_and r s in p.1 ∙ ap (λ (e : Refusal). Err e) p.2

-- ---- what a call leaves

-- a refused call leaves what was lent
pub settles_refused : {A : Type 0} (v : Verdict) (made lent : A) (why : Refusal) → Refused why ≡ v → Settles v made lent (Refused why) lent
settles_refused v made lent why e = record { answer = e; cells = ap (λ (u : Verdict). left u made lent) e }

-- and so does one that ends at a `?`
pub settles_thrown : {A : Type 0} (v : Verdict) (made lent : A) (r : Verdict) (why : Refusal) → IsErrAnd r (λ e. e ≡ why) → Refused why ≡ v
    → Settles v made lent r lent
settles_thrown v made lent r why s e = rw (thrown r why s) (settles_refused v made lent why e)

-- an accepted one leaves what it makes
pub settles_accepted : {A : Type 0} (v : Verdict) (made lent after : A) → Accepted ≡ v → after ≡ made → Settles v made lent Accepted after
settles_accepted v made lent after e f = record { answer = e; cells = f ∙ ap (λ (u : Verdict). left u made lent) e }

-- and only that
pub settled : {A : Type 0} (v : Verdict) (made lent : A) (r : Verdict) (after : A) → Settles v made lent r after → v ≡ Accepted → after ≡ made
settled v made lent r after s e = s.cells ∙ ap (λ (u : Verdict). left u made lent) e
