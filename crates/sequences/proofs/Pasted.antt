-- Laws of a list pasted into another, whole or element by element, and of the end of a list. Assumes nothing.
use Rattle.sequences.proofs.Basics.{◌∙◌, ◌≡◌, ap, sym, ◌+◌, ◌-◌, ◌<◌, ◌≤◌, ℕ, le_refl, zero-add, arith, List, ◌++◌, append-nil, get_or-append, drop}
use Rattle.sequences.proofs.Basics.{drop_of_length-le, get_or, length, length-append, length-drop, take, drop-drop, get_or-append-add, get_or-drop, get_or-take}
use Rattle.sequences.proofs.Basics.{length-take-le, add-one, set, paste, paste-suc, take_all, take-length}
use borrow.Rule.Slice.PartMut.{put_mid}
use Rattle.sequences.specs.Lists.{pasted}

module _ {A : Type 0} (ys zs : List A) (at : ℕ) (room : at + length zs ≤ length ys) where
  -- what comes before the rest
  abbrev front : List A
  front = take at ys ++ zs

  before : length (take at ys) ≡ at
  before = length-take-le at ys (omega arith)

  front_length : length front ≡ at + length zs
  front_length = length-append (take at ys) zs ∙ ap (λ (n : ℕ). n + length zs) before

  pub length_pasted : length (pasted ys at zs) ≡ length ys
  length_pasted = length-append front (drop (at + length zs) ys) ∙ omega (arith, front_length, length-drop (at + length zs) ys)

  pub pasted_before : (d : A) (i : ℕ) → i < at → get_or (pasted ys at zs) i d ≡ get_or ys i d
  pasted_before d i l = get_or-append front (drop (at + length zs) ys) d i (omega (arith, front_length))
      ∙ get_or-append (take at ys) zs d i (omega (arith, before)) ∙ get_or-take at ys i d l

  pub pasted_in : (d : A) (i : ℕ) → i < length zs → get_or (pasted ys at zs) (at + i) d ≡ get_or zs i d
  pasted_in d i l = get_or-append front (drop (at + length zs) ys) d (at + i) (omega (arith, front_length))
      ∙ ap (λ (n : ℕ). get_or front (n + i) d) (sym before) ∙ get_or-append-add (take at ys) zs i d

  pub pasted_after : (d : A) (i : ℕ) → at + length zs ≤ i → get_or (pasted ys at zs) i d ≡ get_or ys i d
  pasted_after d i l =
      let k = i - (at + length zs) in
      ap (λ (n : ℕ). get_or (pasted ys at zs) n d) {x = i} {y = length front + k} (omega (arith, front_length))
      ∙ get_or-append-add front (drop (at + length zs) ys) k d ∙ get_or-drop (at + length zs) ys k d ∙ ap (λ (n : ℕ). get_or ys n d) (omega arith)

-- ---- at the front

pub front_pasted : {A : Type 0} (ys xs : List A) (n : ℕ) → length xs ≡ n → pasted ys 0 xs ≡ xs ++ drop n ys
front_pasted ys xs n e = ap (λ (k : ℕ). xs ++ drop k ys) (zero-add (length xs) ∙ e)

-- a row as long as the other takes its place
pub whole_pasted : {A : Type 0} (ys xs : List A) → length ys ≡ length xs → pasted ys 0 xs ≡ xs
whole_pasted ys xs e = front_pasted ys xs (length ys) (sym e) ∙ rw (drop_of_length-le ys (le_refl (length ys))) (append-nil xs)

-- ---- element by element

-- one more element is laid over a list
pub paste_next : {A : Type 0} (ys : List A) (at : ℕ) (xs : List A) (i : ℕ) (v d : A) (out : List A) → at + i < length ys → i < length xs
    → get_or xs i d ≡ v → out ≡ paste ys at xs i → set out (at + i) v ≡ paste ys at xs (i + 1)
paste_next ys at xs i v d out h g t e = rw (e, ← t) (paste-suc ys at xs i d h g ∙ ap (λ (n : ℕ). paste ys at xs n) (sym (add-one i)))

-- all are
pub paste_all : {A : Type 0} (ys : List A) (at : ℕ) (xs : List A) (i : ℕ) → i ≡ length xs → paste ys at xs i ≡ pasted ys at xs
paste_all ys at xs i e = rw (e, take-length)

-- ---- at the end

-- the part of a list from k on, as a slice has it
pub take_rest : {A : Type 0} (k : ℕ) (xs : List A) → take (length xs - k) (drop k xs) ≡ drop k xs
take_rest k xs = take_all (length xs - k) (drop k xs) (omega (arith, length-drop k xs))

-- all words from n on replaced
pub tail_replaced : {A : Type 0} (n : ℕ) (z o : List A) → n ≤ length o → put_mid n (length o - n) o z ≡ take n o ++ z
tail_replaced {A} n z o l =
    let all : length o ≤ n + (length o - n) = omega arith in
    ap (λ (r : List A). take n o ++ (z ++ r)) (drop-drop (length o - n) n o ∙ drop_of_length-le o all)
    ∙ ap (λ (r : List A). take n o ++ r) (append-nil z)

pub tail_length : {A : Type 0} (n : ℕ) (o : List A) → length (take (length o - n) (drop n o)) ≡ length o - n
tail_length n o = ap length (take_rest n o) ∙ length-drop n o
