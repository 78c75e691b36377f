-- Merging: the first of the four rules that applies, until none does. Assumes nothing.
use Rattle.std.specs.Prelude.{ℕ, zero, suc, ◌+◌, ◌-◌, Bool, cond, ◌&&◌, List, [], ◌∷◌, ◌++◌, map, leb, length, replicate, Option, Some, None}
use Rattle.radices.specs.Lists.{count_of, padded}
use Rattle.merging.specs.declared.inner.merging.Tally.{Tally}
use Rattle.merging.specs.declared.Merges.{Merges}
use Rattle.merging.specs.declared.inner.merging.Merged.{Merged}
use Rattle.merging.specs.declared.inner.merging.Rule.{Rule}
use Rattle.merging.specs.declared.inner.merging.Rule.TheVariants.{A, B, C, D}

-- how many of each radix a list holds
unfoldable pub tally : List ℕ → Tally
tally xs =
    record {
      twos = count_of 2 xs;
      threes = count_of 3 xs;
      fours = count_of 4 xs;
      fives = count_of 5 xs;
      sevens = count_of 7 xs;
      eights = count_of 8 xs;
    }

-- whether a rule finds the radices that it takes: (A) 4+2 to 8, (B) 2+2+2 to 8, (C) 4+4 to 8+2, (D) 2+2 to 4
unfoldable pub applies : Rule → Tally → Bool
applies A t = leb 1 t.fours && leb 1 t.twos
applies B t = leb 3 t.twos
applies C t = leb 2 t.fours
applies D t = leb 2 t.twos

-- what a rule makes of them
unfoldable pub merge : Rule → Tally → Tally
merge A t = record { twos = t.twos - 1; threes = t.threes; fours = t.fours - 1; fives = t.fives; sevens = t.sevens; eights = t.eights + 1 }
merge B t = record { twos = t.twos - 3; threes = t.threes; fours = t.fours; fives = t.fives; sevens = t.sevens; eights = t.eights + 1 }
merge C t = record { twos = t.twos + 1; threes = t.threes; fours = t.fours - 2; fives = t.fives; sevens = t.sevens; eights = t.eights + 1 }
merge D t = record { twos = t.twos - 2; threes = t.threes; fours = t.fours + 1; fives = t.fives; sevens = t.sevens; eights = t.eights }

-- the first rule that applies
unfoldable pub first_rule : Tally → Option Rule
first_rule t = cond (applies A t) (Some A) (cond (applies B t) (Some B) (cond (applies C t) (Some C) (cond (applies D t) (Some D) None)))

-- a rule before those that follow it, and nothing where there is none
abbrev pub before : Option Rule → (Rule → List Rule) → List Rule
before (Some r) rest = r ∷ rest r
before None rest = []

-- the rules that apply in turn, at most k of them
unfoldable pub rules_up_to : ℕ → Tally → List Rule
rules_up_to zero t = []
rules_up_to (suc k) t = before (first_rule t) (λ r. rules_up_to k (merge r t))

-- all of them: each takes at least one from the 2s and 4s together
unfoldable pub rules : Tally → List Rule
rules t = rules_up_to (t.twos + t.fours) t

-- what they make of the radices
unfoldable pub merged_by : List Rule → Tally → Tally
merged_by [] t = t
merged_by (r ∷ rs) t = merged_by rs (merge r t)

unfoldable pub merged : Tally → Tally
merged t = merged_by (rules t) t

-- the letter of a rule, in ASCII
abbrev pub letter : Rule → ℕ
letter A = 65
letter B = 66
letter C = 67
letter D = 68

-- the letters of the rules that apply in turn
unfoldable pub letters : Tally → List ℕ
letters t = map letter (rules t)

-- the radices in ascending order
unfoldable pub sorted : Tally → List ℕ
sorted t =
    replicate t.twos 2
    ++ (replicate t.threes 3 ++ (replicate t.fours 4 ++ (replicate t.fives 5 ++ (replicate t.sevens 7 ++ replicate t.eights 8))))

-- how many radices there are
abbrev pub total : Tally → ℕ
total t = t.twos + t.threes + t.fours + t.fives + t.sevens + t.eights

-- the letters with their count, in an array
unfoldable pub marked : List ℕ → Merges
marked ls = record { count = length ls; letters = padded ls }

-- what is left when no rule applies, and the letters of those that were applied
unfoldable pub merge_all : Tally → Merged
merge_all t = record { tally = merged t; merges = marked (letters t) }
