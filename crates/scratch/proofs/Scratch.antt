-- Laws of a scratch: its Data, its Scratchpad and the rest, what replaces them, and the result restored. Assumes nothing.
use Rattle.sequences.proofs.Basics.{◌≡◌, refl, sym, ap, ap₂, ◌∙◌, ℕ, ◌+◌, ◌-◌, ◌*◌, ◌≤◌, arith, Bool, true, false, cond, List, ◌++◌, append_assoc, length, take}
use Rattle.sequences.proofs.Basics.{drop, length-append, length-drop, take-append-drop, length-take-le, length_front, take_at, drop_at, drop-drop}
use Rattle.sequences.proofs.Basics.{drop-append-le, take-append-le}
use lib.Ieee.{Float}
use Rattle.sequences.specs.Lists.{pasted}
use Rattle.sequences.proofs.Pasted.{front_pasted}
use Rattle.counts.specs.declared.Buffer.{Buffer}
use Rattle.counts.specs.declared.Buffer.TheVariants.{Data, Scratchpad}
use Rattle.schedule.specs.Buffers.{Two, held_in}
use Rattle.ends.specs.Ends.{conjugated}
use Rattle.ends.proofs.Cells.{length_conjugated}
use Rattle.scratch.specs.Scratch.{data_of, pad_of, with_both}

-- the first words replaced by as many, the row is as long as it was
pub front_room : (h : ℕ) (d s : List Float) → length d ≡ length (take (2 * h) s) → 2 * h ≤ length s → (length (d ++ drop (2 * h) s) ≡ length s)
    × (length (data_of h (d ++ drop (2 * h) s)) ≡ 2 * h)
front_room h d s e l =
    let same = length_front s d (2 * h) e in
    (same, length-take-le (2 * h) (d ++ drop (2 * h) s) (rw same l))

module _ (h : ℕ) (s : List Float) (room : 4 * h ≤ length s) where
  pub data_length : length (data_of h s) ≡ 2 * h
  data_length = length-take-le (2 * h) s (omega arith)

  pub pad_length : length (pad_of h s) ≡ 2 * h
  pad_length = length-take-le (2 * h) (drop (2 * h) s) (omega (arith, length-drop (2 * h) s))

  -- so is whichever is named
  pub part_long : (which : Buffer) → length (held_in which (data_of h s, pad_of h s)) ≡ 2 * h
  part_long Data = data_length
  part_long Scratchpad = pad_length

-- either of two rows of a length
pub choice_long : (t : Bool) (xs ys : List Float) (n : ℕ) → length xs ≡ n → length ys ≡ n → length (cond t xs ys) ≡ n
choice_long true xs ys n l m = l
choice_long false xs ys n l m = m

-- the Scratchpad as it is cut out
pub pad_part : (h : ℕ) (s : List Float) → take (2 * (2 * h) - 2 * h) (drop (2 * h) s) ≡ pad_of h s
pad_part h s =
    let once : 2 * (2 * h) - 2 * h ≡ 2 * h = omega arith in
    rw once

-- ---- the first 2h words replaced by d

module _ (h : ℕ) (d s : List Float) (long : length d ≡ 2 * h) where
  -- the scratch then
  abbrev fronted : List Float
  fronted = d ++ drop (2 * h) s

  pub front_data : data_of h fronted ≡ d
  front_data = take_at d (drop (2 * h) s) (2 * h) long

  pub front_drop : drop (2 * h) fronted ≡ drop (2 * h) s
  front_drop = drop_at d (drop (2 * h) s) (2 * h) long

  pub front_pad : pad_of h fronted ≡ pad_of h s
  front_pad = ap (take (2 * h)) front_drop

  pub front_rest : drop (4 * h) fronted ≡ drop (4 * h) s
  front_rest =
      let twice : 4 * h ≡ 2 * h + 2 * h = omega arith in
      rw twice (sym (drop-drop (2 * h) (2 * h) fronted) ∙ ap (drop (2 * h)) front_drop ∙ drop-drop (2 * h) (2 * h) s)

  -- both replaced, one after the other
  pub both_pasted : (e : List Float) → length e ≡ 2 * h → pasted fronted (2 * h) e ≡ with_both h (d, e) s
  both_pasted e le =
      let twice : 2 * h + length e ≡ 4 * h = omega arith in
      rw (front_data, twice) (ap (λ (r : List Float). d ++ e ++ r) front_rest)

-- what is in a scratch with both in it
module _ (h : ℕ) (b : Two Float) (s : List Float) (l : length b.0 ≡ 2 * h) (m : length b.1 ≡ 2 * h) where
  long : length (b.0 ++ b.1) ≡ 2 * h + 2 * h
  long = length-append b.0 b.1 ∙ ap₂ ◌+◌ l m

  pub both_data : data_of h (with_both h b s) ≡ b.0
  both_data = take-append-le (2 * h) (b.0 ++ b.1) (drop (4 * h) s) (omega (arith, long)) ∙ take_at b.0 b.1 (2 * h) l

  pub both_pad : pad_of h (with_both h b s) ≡ b.1
  both_pad =
      ap (take (2 * h)) (drop-append-le (2 * h) (b.0 ++ b.1) (drop (4 * h) s) (omega (arith, long))
      ∙ ap (λ (r : List Float). r ++ drop (4 * h) s) (drop_at b.0 b.1 (2 * h) l))
      ∙ take_at b.1 (drop (4 * h) s) (2 * h) m

  pub both_rest : drop (4 * h) (with_both h b s) ≡ drop (4 * h) s
  both_rest = drop_at (b.0 ++ b.1) (drop (4 * h) s) (4 * h) (omega (arith, long))

-- what follows Data is the Scratchpad and the rest
pub pad_rest : (h : ℕ) (s : List Float) → drop (2 * h) s ≡ pad_of h s ++ drop (4 * h) s
pad_rest h s =
    let twice : 4 * h ≡ 2 * h + 2 * h = omega arith in
    rw (twice, ← drop-drop (2 * h) (2 * h) s) (sym (take-append-drop (2 * h) (drop (2 * h) s)))

-- Data alone replaced
pub data_replaced : (h : ℕ) (d s : List Float) → d ++ drop (2 * h) s ≡ with_both h (d, pad_of h s) s
data_replaced h d s = ap (λ (r : List Float). d ++ r) (pad_rest h s) ∙ sym (append_assoc d (pad_of h s) (drop (4 * h) s))

-- the Scratchpad alone replaced
pub pad_pasted : (h : ℕ) (e s : List Float) → length e ≡ 2 * h → pasted s (2 * h) e ≡ with_both h (data_of h s, e) s
pad_pasted h e s le =
    let twice : 2 * h + length e ≡ 4 * h = omega arith in
    rw twice refl

-- a scratch is its Data, its Scratchpad and the rest
pub parted : (h : ℕ) (s : List Float) → with_both h (data_of h s, pad_of h s) s ≡ s
parted h s = sym (data_replaced h (data_of h s) s) ∙ take-append-drop (2 * h) s

-- ---- the result restored

-- Data conjugated and copied to the output, with x in the Scratchpad
pub data_restored : (h : ℕ) (s o x s1 s2 o1 : List Float) → 4 * h ≤ length s → length x ≡ 2 * h → s1 ≡ with_both h (data_of h s, x) s
    → s2 ≡ conjugated h (data_of h s1) ++ drop (2 * h) s1 → o1 ≡ pasted o 0 (data_of h s2)
    → (s2 ≡ with_both h (conjugated h (data_of h s), x) s) × (o1 ≡ conjugated h (data_of h s) ++ drop (2 * h) o)
data_restored h s o x s1 s2 o1 room lx e1 e2 e3 =
    let c : List Float = conjugated h (data_of h s) in let lc : length c ≡ 2 * h = length_conjugated h (data_of h s) in
    let b : Two Float = (data_of h s, x) in let ld = data_length h s room in
    let d : data_of h s1 ≡ data_of h s = ap (data_of h) e1 ∙ both_data h b s ld lx in
    let p : pad_of h s1 ≡ x = ap (pad_of h) e1 ∙ both_pad h b s ld lx in
    let r : drop (4 * h) s1 ≡ drop (4 * h) s = ap (drop (4 * h)) e1 ∙ both_rest h b s ld lx in
    let f : s2 ≡ c ++ drop (2 * h) s1 = e2 ∙ ap (λ (u : List Float). conjugated h u ++ drop (2 * h) s1) d in (
      f ∙ data_replaced h c s1 ∙ ap₂ (λ (u v : List Float). c ++ u ++ v) p r,
      e3 ∙ ap (pasted o 0) (ap (data_of h) f ∙ front_data h c s1 lc) ∙ front_pasted o c (2 * h) lc,
    )

-- the output conjugated and copied to both buffers
pub pad_restored : (h : ℕ) (s o o1 s1 s2 : List Float) → o1 ≡ conjugated h (data_of h o) ++ drop (2 * h) o → s1 ≡ pasted s 0 (data_of h o1)
    → s2 ≡ pasted s1 (2 * h) (data_of h o1) → s2 ≡ with_both h (conjugated h (data_of h o), conjugated h (data_of h o)) s
pad_restored h s o o1 s1 s2 e1 e2 e3 =
    let c : List Float = conjugated h (data_of h o) in let lc : length c ≡ 2 * h = length_conjugated h (data_of h o) in
    let g : data_of h o1 ≡ c = ap (data_of h) e1 ∙ front_data h c o lc in
    let f : s1 ≡ c ++ drop (2 * h) s = e2 ∙ ap (pasted s 0) g ∙ front_pasted s c (2 * h) lc in
    e3 ∙ ap₂ (λ (u v : List Float). pasted u (2 * h) v) f g ∙ both_pasted h c s lc c lc
