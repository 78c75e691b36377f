-- Laws of merging: which rule comes first, that merging ends, what it keeps and what it leaves. Assumes nothing.
use Rattle.sequences.proofs.Basics.{◌≡◌, refl, sym, ap, ◌∙◌, ℕ, zero, suc, ◌+◌, ◌*◌, ◌/◌, ◌%◌, ◌<◌, ◌≤◌, add-one, arith, Bool, true, false, cond, ◌&&◌}
use Rattle.sequences.proofs.Basics.{true≢false, ◌⊎◌, inl, inr, ⊎_elim, List, [], ◌∷◌, ◌++◌, map, append_assoc, append-nil, leb, length, take, set, replicate}
use Rattle.sequences.proofs.Basics.{length-append, length-replicate, length-set, take-suc-set, length-take-le, leb-true, leb-false, le-leb, lt-leb}
use Rattle.radices.proofs.Lists.{push_padded}
use Rattle.radices.specs.Lists.{padded}
use Rattle.merging.specs.Merging.{total, applies, merge, first_rule, rules_up_to, rules, merged_by, merged, letter, letters, marked, merge_all}
use Rattle.merging.specs.Merging.{sorted}
use Rattle.merging.specs.declared.inner.merging.Tally.{Tally}
use Rattle.merging.specs.declared.inner.merging.Merged.{Merged}
use Rattle.merging.specs.declared.inner.merging.Rule.{Rule}
use Rattle.merging.specs.declared.inner.merging.Rule.TheVariants.{A, B, C, D}
use Rattle.std.proofs.Common.{Option, Some, None}

-- ---- which rule comes first

pub and_false : (b : Bool) → (b && false) ≡ false
and_false true = refl
and_false false = refl

-- two tests that both hold
pub both : (a b : Bool) → (a && b) ≡ true → (a ≡ true) × (b ≡ true)
both true b e = (refl, e)
both false b e = absurd (true≢false (sym e))

pub a_needs : (t : Tally) → (t.fours < 1) ⊎ (t.twos < 1) → applies A t ≡ false
unfolding applies
a_needs t (inl h) = simp (lt-leb 1 t.fours h)
a_needs t (inr h) = simp (lt-leb 1 t.twos h) (and_false (leb 1 t.fours))

-- The first rule, from what the tests before it found.
module _ (t : Tally) where
  pub first_a : 1 ≤ t.fours → 1 ≤ t.twos → first_rule t ≡ Some A
  unfolding first_rule applies
  first_a p q = simp (le-leb 1 t.fours p, le-leb 1 t.twos q)

  first_after_a : applies A t ≡ false → first_rule t ≡ cond (leb 3 t.twos) (Some B) (cond (leb 2 t.fours) (Some C) (cond (leb 2 t.twos) (Some D) None))
  unfolding first_rule applies
  first_after_a a = simp a

  module _ (a : applies A t ≡ false) where
    pub first_b : 3 ≤ t.twos → first_rule t ≡ Some B
    first_b p = first_after_a a ∙ simp (le-leb 3 t.twos p)

    pub first_c : t.twos < 3 → 2 ≤ t.fours → first_rule t ≡ Some C
    first_c p q = first_after_a a ∙ simp (lt-leb 3 t.twos p, le-leb 2 t.fours q)

    pub first_d : t.twos < 3 → t.fours < 2 → 2 ≤ t.twos → first_rule t ≡ Some D
    first_d p q r = first_after_a a ∙ simp (lt-leb 3 t.twos p, lt-leb 2 t.fours q, le-leb 2 t.twos r)

    pub first_none : t.twos < 3 → t.fours < 2 → t.twos < 2 → first_rule t ≡ None
    first_none p q r = first_after_a a ∙ simp (lt-leb 3 t.twos p, lt-leb 2 t.fours q, lt-leb 2 t.twos r)

-- What a rule tells of the radices: those that it takes are there.
unfoldable pub Takes : Rule → Tally → Type 0
Takes A t = (1 ≤ t.fours) × (1 ≤ t.twos)
Takes B t = 3 ≤ t.twos
Takes C t = 2 ≤ t.fours
Takes D t = 2 ≤ t.twos

-- What the first rule tells: that it finds what it takes, and where there is none, that at most one 2 or 4 is left.
abbrev pub Tells : Option Rule → Tally → Type 0
Tells (Some r) t = Takes r t
Tells None t = t.twos + t.fours ≤ 1

pub tells : (t : Tally) → Tells (first_rule t) t
unfolding Takes first_rule applies
tells t = go (leb 1 t.fours) (leb 1 t.twos) (leb 3 t.twos) (leb 2 t.fours) (leb 2 t.twos) refl refl refl refl refl
  where
    go : (a b c d e : Bool) → leb 1 t.fours ≡ a → leb 1 t.twos ≡ b → leb 3 t.twos ≡ c → leb 2 t.fours ≡ d → leb 2 t.twos ≡ e
        → Tells (cond (a && b) (Some A) (cond c (Some B) (cond d (Some C) (cond e (Some D) None)))) t
    go true true c d e p q r u v = (leb-true 1 t.fours p, leb-true 1 t.twos q)
    go true false true d e p q r u v = leb-true 3 t.twos r
    go true false false true e p q r u v = leb-true 2 t.fours u
    go true false false false true p q r u v = leb-true 2 t.twos v
    go true false false false false p q r u v = omega (arith, leb-false 1 t.twos q, leb-false 2 t.fours u)
    go false b true d e p q r u v = leb-true 3 t.twos r
    go false b false true e p q r u v = leb-true 2 t.fours u
    go false b false false true p q r u v = leb-true 2 t.twos v
    go false b false false false p q r u v = omega (arith, leb-false 1 t.fours p, leb-false 2 t.twos v)

pub tells_takes : (t : Tally) (r : Rule) → first_rule t ≡ Some r → Takes r t
tells_takes t r e = rw e at (tells t)

pub tells_none : (t : Tally) → first_rule t ≡ None → t.twos + t.fours ≤ 1
tells_none t e = rw e at (tells t)

-- ---- what a rule does

-- the 2s and 4s together, of which each rule takes
abbrev pub low : Tally → ℕ
low t = t.twos + t.fours

-- the exponent of 2 in the product
abbrev pub exponent : Tally → ℕ
exponent t = t.twos + (2 * t.fours + 3 * t.eights)

-- the product and the counts of 3, 5 and 7 are the same, and there are no more radices than before
pub record Keeps (t u : Tally) : Type 0 where
  pub exponents : exponent u ≡ exponent t
  pub threes : u.threes ≡ t.threes
  pub fives : u.fives ≡ t.fives
  pub sevens : u.sevens ≡ t.sevens
  pub fewer : total u ≤ total t

keeps_all : (t : Tally) → Keeps t t
keeps_all t = record { exponents = refl; threes = refl; fives = refl; sevens = refl; fewer = omega arith }

keeps_on : {t u v : Tally} → Keeps t u → Keeps u v → Keeps t v
keeps_on p q =
    record {
      exponents = q.exponents ∙ p.exponents;
      threes = q.threes ∙ p.threes;
      fives = q.fives ∙ p.fives;
      sevens = q.sevens ∙ p.sevens;
      fewer = omega arith;
    }

pub merge_keeps : (r : Rule) (t : Tally) → Takes r t → Keeps t (merge r t)
unfolding Takes merge
merge_keeps A t h = record { exponents = omega arith; threes = refl; fives = refl; sevens = refl; fewer = omega arith }
merge_keeps B t h = record { exponents = omega arith; threes = refl; fives = refl; sevens = refl; fewer = omega arith }
merge_keeps C t h = record { exponents = omega arith; threes = refl; fives = refl; sevens = refl; fewer = omega arith }
merge_keeps D t h = record { exponents = omega arith; threes = refl; fives = refl; sevens = refl; fewer = omega arith }

-- whichever rule it is, if it applies
pub applied_keeps : (r : Rule) (t : Tally) → applies r t ≡ true → Keeps t (merge r t)
unfolding applies Takes merge
applied_keeps A t e = let b = both (leb 1 t.fours) (leb 1 t.twos) e in merge_keeps A t (leb-true 1 t.fours b.0, leb-true 1 t.twos b.1)
applied_keeps B t e = merge_keeps B t (leb-true 3 t.twos e)
applied_keeps C t e = merge_keeps C t (leb-true 2 t.fours e)
applied_keeps D t e = merge_keeps D t (leb-true 2 t.twos e)

pub merge_falls : (r : Rule) (t : Tally) → Takes r t → (low (merge r t) < low t) × (2 ≤ low t)
unfolding Takes merge
merge_falls A t h = omega arith
merge_falls B t h = omega arith
merge_falls C t h = omega arith
merge_falls D t h = omega arith

-- ---- the rules in turn

-- a rule applies, or there is none
pub applies? : (o : Option Rule) → (o ≡ None) ⊎ ((r : Rule) × (o ≡ Some r))
applies? None = inl refl
applies? (Some r) = inr (r, refl)

-- the first rule, with what it does
pub falls_at : (t : Tally) (r : Rule) → first_rule t ≡ Some r → (low (merge r t) < low t) × (2 ≤ low t)
falls_at t r e = merge_falls r t (tells_takes t r e)

pub none_at : (t : Tally) → low t ≤ 1 → first_rule t ≡ None
none_at t h = ⊎_elim (λ e. e) (λ m. absurd (let f = falls_at t m.0 m.1 in omega arith)) (applies? (first_rule t))

rules_none : (k : ℕ) (t : Tally) → first_rule t ≡ None → rules_up_to k t ≡ []
unfolding rules_up_to
rules_none zero t e = refl
rules_none (suc k) t e = rw e

rules_some : (k : ℕ) (t : Tally) (r : Rule) → first_rule t ≡ Some r → rules_up_to (suc k) t ≡ r ∷ rules_up_to k (merge r t)
unfolding rules_up_to
rules_some k t r e = rw e

-- any two bounds that are large enough give the same
rules_same : (k j : ℕ) (t : Tally) → low t ≤ k → low t ≤ j → rules_up_to k t ≡ rules_up_to j t
rules_same zero j t p q = let e = none_at t (omega arith) in rules_none zero t e ∙ sym (rules_none j t e)
rules_same (suc k) zero t p q = let e = none_at t (omega arith) in rules_none (suc k) t e ∙ sym (rules_none zero t e)
rules_same (suc k) (suc j) t p q = ⊎_elim (λ e. rules_none (suc k) t e ∙ sym (rules_none (suc j) t e)) (λ m.
    let r = m.0 in let f = falls_at t r m.1 in
    rules_some k t r m.1 ∙ ap (λ (rs : List Rule). r ∷ rs) (rules_same k j (merge r t) (omega arith) (omega arith)) ∙ sym (rules_some j t r m.1))
    (applies? (first_rule t))

pub rules_stop : (t : Tally) → first_rule t ≡ None → rules t ≡ []
unfolding rules
rules_stop t e = rules_none (low t) t e

pub rules_step : (t : Tally) (r : Rule) → first_rule t ≡ Some r → rules t ≡ r ∷ rules (merge r t)
unfolding rules
rules_step t r e =
    let f = falls_at t r e in
    rules_same (low t) (suc (low t)) t (omega arith) (omega arith) ∙ rules_some (low t) t r e
    ∙ ap (λ (rs : List Rule). r ∷ rs) (rules_same (low t) _ (merge r t) (omega arith) (omega arith))

pub merged_stop : (t : Tally) → first_rule t ≡ None → merged t ≡ t
unfolding merged merged_by
merged_stop t e = ap (λ (rs : List Rule). merged_by rs t) (rules_stop t e)

pub merged_step : (t : Tally) (r : Rule) → first_rule t ≡ Some r → merged t ≡ merged (merge r t)
unfolding merged merged_by
merged_step t r e = ap (λ (rs : List Rule). merged_by rs t) (rules_step t r e)

pub letters_stop : (t : Tally) → first_rule t ≡ None → letters t ≡ []
unfolding letters
letters_stop t e = ap (map letter) (rules_stop t e)

pub letters_step : (t : Tally) (r : Rule) → first_rule t ≡ Some r → letters t ≡ letter r ∷ letters (merge r t)
unfolding letters
letters_step t r e = ap (map letter) (rules_step t r e)

-- ---- what all of them together keep and leave

-- merging keeps the product and the counts of 3, 5 and 7, and leaves at most one 2 or 4
pub record Leaves (t u : Tally) : Type 0 where
  pub keeps : Keeps t u
  pub one : low u ≤ 1

leaves_within : (k : ℕ) (t : Tally) → low t ≤ k → Leaves t (merged t)
leaves_within zero t h = let e = none_at t (omega arith) in rw (merged_stop t e) (record { keeps = keeps_all t; one = omega arith })
leaves_within (suc k) t h = ⊎_elim (λ e. rw (merged_stop t e) (record { keeps = keeps_all t; one = tells_none t e })) (λ m.
    let r = m.0 in let f = falls_at t r m.1 in let l = leaves_within k (merge r t) (omega arith) in
    rw (merged_step t r m.1) (record { keeps = keeps_on (merge_keeps r t (tells_takes t r m.1)) l.keeps; one = l.one }))
    (applies? (first_rule t))

pub merged_leaves : (t : Tally) → Leaves t (merged t)
merged_leaves t = leaves_within (low t) t (omega arith)

few_within : (k : ℕ) (t : Tally) → low t ≤ k → (length (rules t) ≡ 0) ⊎ (length (rules t) < low t)
few_within zero t h = inl (ap length (rules_stop t (none_at t (omega arith))))
few_within (suc k) t h = ⊎_elim (λ e. inl (ap length (rules_stop t e))) (λ m.
    let r = m.0 in let f = falls_at t r m.1 in let e = ap length (rules_step t r m.1) in
    inr (⊎_elim (λ z. omega arith) (λ z. omega arith) (few_within k (merge r t) (omega arith)))) (applies? (first_rule t))

-- the number of merges is 0, or below the number of 2s and 4s
pub merges_few : (t : Tally) → (length (rules t) ≡ 0) ⊎ (length (rules t) < low t)
merges_few t = few_within (low t) t (omega arith)

-- with e the exponent of 2: e div 3 eights, one 2 if e mod 3 is 1, one 4 if it is 2
pub record Closed (e : ℕ) (t : Tally) : Type 0 where
  pub eights : t.eights ≡ e / 3
  pub rest : t.twos + 2 * t.fours ≡ e % 3
  pub one : low t ≤ 1

pub closed : (t : Tally) → low t ≤ 1 → Closed (exponent t) t
closed t h = let p = low_closed t.twos t.fours t.eights h in record { eights = p.0; rest = p.1; one = h }
  where
    low_closed : (x y z : ℕ) → x + y ≤ 1 → (z ≡ (x + (2 * y + 3 * z)) / 3) × (x + 2 * y ≡ (x + (2 * y + 3 * z)) % 3)
    low_closed x y z h = omega arith

pub merged_closed : (t : Tally) → Closed (exponent t) (merged t)
merged_closed t =
    let l = merged_leaves t in
    rw (← l.keeps.exponents) (closed (merged t) l.one)

-- ---- the radices in ascending order

pub length_sorted : (t : Tally) → length (sorted t) ≡ total t
unfolding sorted
length_sorted t = simp (length-append, length-replicate) (omega arith)

-- ---- merging as it goes: `count` letters stand in the array, and t is what is left of the radices of start

pub record SoFar (start : Tally) (array : List ℕ) (count : ℕ) (t : Tally) : Type 0 where
  pub same : merged t ≡ merged start
  pub done : letters start ≡ take count array ++ letters t
  pub held : array ≡ padded (take count array)
  pub long : length array ≡ 13
  pub room : count + low t ≤ 13
  pub few : total t ≤ 13

pub so_far_none : (t : Tally) → total t ≤ 13 → SoFar t (replicate 13 0) 0 t
unfolding padded
so_far_none t h = record { same = refl; done = refl; held = refl; long = refl; room = omega arith; few = h }

module _ (start : Tally) (array : List ℕ) (count : ℕ) (t : Tally) (s : SoFar start array count t) where
  -- a turn of the loop
  module _ (r : Rule) (e : first_rule t ≡ Some r) where
    pub so_far_fits : count < 13
    so_far_fits = let f = falls_at t r e in omega (arith, s.room)

    pub so_far_step : SoFar start (set array count (letter r)) (count + 1) (merge r t)
    so_far_step =
        let v = letter r in let f = falls_at t r e in let k = merge_keeps r t (tells_takes t r e) in
        let h : count < length array = omega (arith, s.long, s.room) in
        let taken : take (count + 1) (set array count v) ≡ take count array ++ (v ∷ []) =
        ap (λ (n : ℕ). take n (set array count v)) (add-one count) ∙ take-suc-set array count v h in
        record {
          same = sym (merged_step t r e) ∙ s.same;
          done = s.done ∙ ap (λ (ls : List ℕ). take count array ++ ls) (letters_step t r e)
              ∙ sym (append_assoc (take count array) (v ∷ []) (letters (merge r t)))
              ∙ ap (λ (ls : List ℕ). ls ++ letters (merge r t)) (sym taken);
          held = ap (λ (ls : List ℕ). set ls count v) s.held ∙ push_padded (take count array) count v (length-take-le count array (omega arith)) (omega arith)
              ∙ ap padded (sym taken);
          long = length-set array count v ∙ s.long;
          room = omega arith;
          few = omega arith;
        }

  -- the loop is left
  pub so_far_end : first_rule t ≡ None → ◌≡◌ {A = Merged} (record { tally = t; merges = record { count = count; letters = array } }) (merge_all start)
  unfolding merge_all marked
  so_far_end e =
      let all : letters start ≡ take count array = s.done ∙ ap (λ (ls : List ℕ). take count array ++ ls) (letters_stop t e) ∙ append-nil (take count array) in
      let tallies : t ≡ merged start = sym (merged_stop t e) ∙ s.same in
      let counts : count ≡ length (letters start) = sym (length-take-le count array (omega (arith, s.long, s.room))) ∙ ap length (sym all) in
      let arrays : array ≡ padded (letters start) = s.held ∙ ap padded (sym all) in
      λ i. record { tally = tallies i; merges = record { count = counts i; letters = arrays i } }

-- ---- six runs laid one behind the other

pub sorted_runs : (t : Tally)
    → [] ++ replicate t.twos 2 ++ replicate t.threes 3 ++ replicate t.fours 4 ++ replicate t.fives 5 ++ replicate t.sevens 7 ++ replicate t.eights 8 ≡ sorted t
unfolding sorted
sorted_runs t = simp append_assoc
