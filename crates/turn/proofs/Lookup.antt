-- An entry of the table under its quarters and its signs is the turn at its index. Assumes nothing.
use Rattle.sequences.proofs.Basics.{◌≡◌, sym, ap, ap₂, ◌∙◌, subst, ℕ, zero, suc, ◌-◌, ◌/◌, ◌%◌, ◌^◌, ◌<◌, not-suc-le-zero, arith, Bool, true, false, cond, eqb}
use Rattle.sequences.proofs.Basics.{eq-eqb, ne_eqb}
use lib.Ieee.{Float, binary32, round, neg}
use Rattle.house.specs.declared.inner.entries.Entry.{Entry}
use Rattle.house.specs.Entries.{entry_of}
use Rattle.house.proofs.Rule.{Some}
use Rattle.house.proofs.Nearest.{neg_round}
use Rattle.house.proofs.Entries.{Both, entry_fits}
use Rattle.turn.specs.declared.Turn.{Turn}
use Rattle.turn.specs.declared.Turn.TheVariants.{ThreeQuarter, General}
use Rattle.turn.specs.Turns.{rounded, quarters_on, numbers_at, quarters, turn_at}

-- ---- signs

-- a number above 0 is rounded, and then negated
numbered : (a : ℕ) (x : Float) → 0 < a → x ≡ round binary32 false a (2 ^ 60) → (x ≡ rounded false a) × (neg x ≡ rounded true a)
unfolding rounded
numbered zero x p e = absurd (not-suc-le-zero p)
numbered (suc a) x p e = (e, ap neg e ∙ neg_round binary32 (suc a) (2 ^ 60))

-- the turn with two numbers
abbrev both : Float × Float → Turn
both p = General p.0 p.1

-- the f32s of a cosine and a sine under so many whole quarters
abbrev pub signed : (q : ℕ) → (c s : Float) → Turn
signed zero c s = General c (neg s)
signed (suc zero) c s = General (neg s) (neg c)
signed (suc (suc zero)) c s = General (neg c) s
signed (suc (suc (suc q))) c s = General s c

signed_is : (q c s : ℕ) (x y : Float) → 0 < c → 0 < s → x ≡ round binary32 false c (2 ^ 60) → y ≡ round binary32 false s (2 ^ 60)
    → signed q x y ≡ both (quarters_on rounded q c s)
signed_is q c s x y p r e f = go q (numbered c x p e) (numbered s y r f)
  where
    go : (q : ℕ) → (x ≡ rounded false c) × (neg x ≡ rounded true c) → (y ≡ rounded false s) × (neg y ≡ rounded true s)
        → signed q x y ≡ both (quarters_on rounded q c s)
    go zero a b = ap₂ General a.0 b.1
    go (suc zero) a b = ap₂ General b.1 a.1
    go (suc (suc zero)) a b = ap₂ General a.1 b.0
    go (suc (suc (suc q))) a b = ap₂ General b.0 a.0

-- ---- the turn at an index

module _ (index : ℕ) where
  by_rest : (b : Bool) → eqb (index % 1680) 0 ≡ b → turn_at index ≡ cond b (quarters (index / 1680)) (General (numbers_at index).0 (numbers_at index).1)
  unfolding turn_at
  by_rest b e = simp e

  pub turn_whole : index % 1680 ≡ 0 → quarters (index / 1680) ≡ turn_at index
  turn_whole h = sym (by_rest true (eq-eqb (index % 1680) 0 h))

  pub turn_numbers : (index % 1680 ≡ 0 → ⊥) → General (numbers_at index).0 (numbers_at index).1 ≡ turn_at index
  turn_numbers h = sym (by_rest false (ne_eqb (index % 1680) 0 h))

-- an entry e with its numbers rounded to c and s
pub turn_general : (index : ℕ) (e : Entry) (c s : Float) → (index % 1680 ≡ 0 → ⊥) → e ≡ entry_of index
    → c ≡ round binary32 false e.cosine (2 ^ 60) → s ≡ round binary32 false e.sine (2 ^ 60) → signed e.quarter c s ≡ turn_at index
unfolding numbers_at
turn_general index e c s n i x y =
    let f = subst (Both Some) (sym i) (entry_fits index n) in
    signed_is e.quarter e.cosine e.sine c s f.0.0 f.1.0 x y
    ∙ ap (λ (e : Entry). both (quarters_on rounded e.quarter e.cosine e.sine)) i ∙ turn_numbers index n

-- ---- three whole quarters, or more

past_two_lem : (n : ℕ) → 2 < n → suc (suc (suc (n - 3))) ≡ n
past_two_lem n h = omega arith

pub three_quarters : (n : ℕ) → 2 < n → ThreeQuarter ≡ quarters n
three_quarters n h = ap quarters (past_two_lem n h)

pub signed_three : (n : ℕ) (c s : Float) → 2 < n → General s c ≡ signed n c s
signed_three n c s h = ap (λ (q : ℕ). signed q c s) (past_two_lem n h)
