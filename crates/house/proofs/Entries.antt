-- The unrounded entry at an index, and what holds of each entry of the table. Assumes nothing.
use Rattle.sequences.proofs.Basics.{◌≡◌, refl, sym, subst, ℕ, zero, suc, ◌-◌, ◌/◌, ◌%◌, ◌<◌, ◌≤◌, mod-lt, zero-lt-suc, arith, dec_le, Bool, true}
use Rattle.sequences.proofs.Basics.{false, cond, dite, ltb, lt-ltb, le-ltb}
use Rattle.house.specs.declared.inner.entries.Entry.{Entry}
use Rattle.house.specs.Entries.{plain, exchanged, mirrored, entry_of}
use Rattle.house.specs.Rule.{cosine, sine}
use Rattle.house.proofs.Rule.{Some, entries}

-- a rest up to 840 is an entry, one above it an entry exchanged
module _ (index : ℕ) where
  by_mirror : (b : Bool) → ltb 840 (index % 1680) ≡ b
      → entry_of index ≡ cond b (exchanged (index / 1680) (1680 - index % 1680)) (plain (index / 1680) (index % 1680))
  unfolding entry_of mirrored
  by_mirror b e = simp e

  pub entry_plain : index % 1680 ≤ 840 → plain (index / 1680) (index % 1680) ≡ entry_of index
  entry_plain h = sym (by_mirror false (le-ltb 840 (index % 1680) h))

  pub entry_exchanged : 840 < index % 1680 → exchanged (index / 1680) (1680 - index % 1680) ≡ entry_of index
  entry_exchanged h = sym (by_mirror true (lt-ltb 840 (index % 1680) h))

-- what holds of both numbers of each entry of the table, but perhaps of entry 0, holds of those at an index that is not whole quarters
abbrev pub Both : (ℕ → Type 0) → Entry → Type 0
Both P e = P e.cosine × P e.sine

pub entry_has : (P : ℕ → Type 0) (index : ℕ) → ((b : ℕ) → b ≤ 840 → (b ≡ 0 → index % 1680 ≡ 0) → P (cosine b) × P (sine b)) → Both P (entry_of index)
unfolding plain exchanged
entry_has P index each = dite (dec_le (index % 1680) 840) low high
  where
    low : index % 1680 ≤ 840 → Both P (entry_of index)
    low h = subst (Both P) (entry_plain index h) (each (index % 1680) h (λ e. e))

    high : (index % 1680 ≤ 840 → ⊥) → Both P (entry_of index)
    high h =
        let l = mod-lt index (zero-lt-suc 1679) in
        let f = each (1680 - index % 1680) (omega arith) (λ e. absurd (omega arith)) in
        subst (Both P) (entry_exchanged index (omega arith)) (f.1, f.0)

pub entry_fits : (index : ℕ) → (index % 1680 ≡ 0 → ⊥) → Both Some (entry_of index)
entry_fits index n = entry_has Some index (λ b h z. entries b (some b z) h)
  where
    some : (b : ℕ) → (b ≡ 0 → index % 1680 ≡ 0) → 0 < b
    some zero z = absurd (n (z refl))
    some (suc b) z = zero-lt-suc b
