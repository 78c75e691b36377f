-- The number and the place of each refusal, the verdict as the first test that fails, and what a call leaves under it. Assumes nothing.
use Rattle.std.specs.Prelude.{ℕ, ◌≡◌, Bool, true, false, List, [], ◌∷◌, Result, Ok, Err}
use Rattle.refusal.specs.declared.Refusal.{Refusal}
use Rattle.refusal.specs.declared.Refusal.TheVariants.{Empty, NoRadix, TooLarge, Odd, NotPlanned, Width, NotHoused, Length, Number, Twiddle, Modulus}
use Rattle.refusal.specs.declared.Refusal.TheVariants.{Base, Remainder, Bins, Stage, Wav}

-- what a call answers of its arguments
abbrev pub Verdict : Type 0
Verdict = Result (Unit {0}) Refusal

pattern abbrev pub Accepted : Verdict
Accepted = Ok (record {})

pattern abbrev pub Refused : Refusal → Verdict
Refused why = Err why

-- the row of the table
abbrev pub number_of : Refusal → ℕ
number_of Empty = 1
number_of (NoRadix at) = 2
number_of (TooLarge at) = 3
number_of Odd = 4
number_of (NotPlanned at) = 5
number_of Width = 6
number_of NotHoused = 7
number_of (Length at) = 8
number_of (Number at) = 9
number_of (Twiddle at) = 10
number_of Modulus = 11
number_of Base = 12
number_of (Remainder at) = 13
number_of Bins = 14
number_of Stage = 15
number_of (Wav at) = 17

-- the place, 0 where the table names none; for 5, for which it names none either, every call puts in 0
abbrev pub place_of : Refusal → ℕ
place_of Empty = 0
place_of (NoRadix at) = at
place_of (TooLarge at) = at
place_of Odd = 0
place_of (NotPlanned at) = at
place_of Width = 0
place_of NotHoused = 0
place_of (Length at) = at
place_of (Number at) = at
place_of (Twiddle at) = at
place_of Modulus = 0
place_of Base = 0
place_of (Remainder at) = at
place_of Bins = 0
place_of Stage = 0
place_of (Wav at) = at

-- the same of a verdict, 0 where the call is accepted
abbrev pub number_in : Verdict → ℕ
number_in Accepted = 0
number_in (Refused why) = number_of why

abbrev pub place_in : Verdict → ℕ
place_in Accepted = 0
place_in (Refused why) = place_of why

-- what `Refusal::number` promises of its answer
pub record Numbers (why : Refusal) (r : ℕ) : Type 0 where
  pub answer : r ≡ number_of why

-- what `Refusal::place` promises of its answer
pub record Places (why : Refusal) (r : ℕ) : Type 0 where
  pub answer : r ≡ place_of why

-- what `Verdict::number` promises of its answer
pub record NumbersIn (v : Verdict) (r : ℕ) : Type 0 where
  pub answer : r ≡ number_in v

-- what `Verdict::place` promises of its answer
pub record PlacesIn (v : Verdict) (r : ℕ) : Type 0 where
  pub answer : r ≡ place_in v

-- A row of a call's table: refused so exactly when `given` holds and no row before it is given.
pub record Row : Type 0 where
  pub given : Bool
  pub why : Refusal

abbrev pub ◌⇒◌ : Bool → Refusal → Row
b ⇒ why = record { given = b; why = why }

infix 70 ◌⇒◌
-- the first row that is given, in the order of the list
abbrev pub verdict_by : Bool → Refusal → Verdict → Verdict
verdict_by true why rest = Refused why
verdict_by false why rest = rest

abbrev pub verdict : List Row → Verdict
verdict [] = Accepted
verdict (row ∷ rows) = verdict_by row.given row.why (verdict rows)

-- the answer of a call that answers more than its verdict: a value where it is accepted, else the refusal
abbrev pub granted : {A : Type 0} → Verdict → A → Result A Refusal
granted Accepted a = Ok a
granted (Refused why) a = Err why

-- what an accepted call makes, and what was lent where it is refused
abbrev pub left {ℓ} : {A : Type ℓ} → Verdict → A → A → A
left Accepted made lent = made
left (Refused why) made lent = lent

-- what a call with verdict v promises: its answer r is v, and afterwards stands what it makes, or what was lent if it is refused
pub record Settles {A : Type 0} (v : Verdict) (made lent : A) (r : Verdict) (after : A) : Type 0 where
  pub answer : r ≡ v
  pub cells : after ≡ left v made lent
