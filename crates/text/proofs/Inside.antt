-- Laws of the array and the length that hold a text: bytes laid behind those in use. Assumes nothing.
use Rattle.sequences.proofs.Basics.{◌≡◌, refl, sym, ap, ap₂, ◌∙◌, ℕ, ◌+◌, ◌-◌, ◌≤◌, arith, List, ◌++◌, append_assoc, length, length-append, length-replicate}
use Rattle.sequences.proofs.Basics.{take, take_at, take-append_seam, drop, drop_at, length-take-le, replicate}
use borrow.Rule.Slice.PartMut.{put_mid}
use Rattle.std.proofs.lemmas.List.{drop-replicate}
use Rattle.text.specs.Growing.{Adds}
use Rattle.text.specs.Inside.{used, IsText}
use Rattle.text.specs.declared.Text.TheInside.{Inside}

-- the bytes behind those in use, laid over the first of the unused ones
laid : (xs ys : List ℕ) → length xs + length ys ≤ 256
    → put_mid (length xs) (length ys) (xs ++ replicate (256 - length xs) 0) ys ≡ (xs ++ ys) ++ replicate (256 - (length xs + length ys)) 0
laid xs ys h =
    let zeros : List ℕ = replicate (256 - length xs) 0 in
    ap₂ (λ (front rest : List ℕ). front ++ (ys ++ drop (length ys) rest)) (take-append_seam xs zeros) (drop_at xs zeros (length xs) refl)
    ∙ ap (λ (rest : List ℕ). xs ++ (ys ++ rest)) (drop-replicate (length ys) (256 - length xs) 0)
    ∙ sym (append_assoc xs ys (replicate (256 - length xs - length ys) 0))
    ∙ ap (λ (m : ℕ). (xs ++ ys) ++ replicate m 0) {x = 256 - length xs - length ys} {y = 256 - (length xs + length ys)} (omega arith)

-- there is room for what a list of at most 256 with the bytes behind it holds
pub room_for : (t : Inside) (i : IsText t) (s now : List ℕ) → used t ≡ now → length now + length s ≤ 256 → t.len + length s ≤ 256
room_for t i s now e h = omega (arith, h, ap length e, length-take-le t.len t.bytes (omega (arith, i.room, i.long)))

module _ (t : Inside) (i : IsText t) (s : List ℕ) (fits : t.len + length s ≤ 256) where
  long : length (used t) ≡ t.len
  long = length-take-le t.len t.bytes (omega (arith, i.room, i.long))

  -- what the array holds then
  abbrev after : List ℕ
  after = put_mid t.len (t.len + length s - t.len) t.bytes s

  laid_text : after ≡ (used t ++ s) ++ replicate (256 - (t.len + length s)) 0
  laid_text =
      let e : t.len + length s - t.len ≡ length s = omega arith in
      let room : length (used t) + length s ≤ 256 = omega (arith, long, fits) in
      ap (λ (k : ℕ). put_mid t.len k t.bytes s) e ∙ ap (λ (b : List ℕ). put_mid t.len (length s) b s) i.clear
      ∙ ap (λ (n : ℕ). put_mid n (length s) (used t ++ replicate (256 - n) 0) s) (sym long) ∙ laid (used t) s room
      ∙ ap (λ (n : ℕ). (used t ++ s) ++ replicate (256 - (n + length s)) 0) long

  pub grown_used : take (t.len + length s) after ≡ used t ++ s
  grown_used = ap (take (t.len + length s)) laid_text
      ∙ take_at (used t ++ s) (replicate (256 - (t.len + length s)) 0) (t.len + length s) (length-append (used t) s ∙ omega (arith, long))

  pub grown_text : IsText (record { bytes = after; len = t.len + length s })
  grown_text =
      record {
        room = fits;
        long = ap length laid_text ∙ length-append (used t ++ s) (replicate (256 - (t.len + length s)) 0)
            ∙ omega (arith, fits, long, length-append (used t) s, length-replicate {A = ℕ} (256 - (t.len + length s)) 0);
        clear = laid_text ∙ ap (λ (ys : List ℕ). ys ++ replicate (256 - (t.len + length s)) 0) (sym grown_used);
      }

  pub grown_adds : (now : List ℕ) → used t ≡ now → Adds now s (length s) (take (t.len + length s) after)
  grown_adds now e =
      let text = grown_used ∙ ap (λ (x : List ℕ). x ++ s) e in record { text = text; short = omega (arith, ap length text, length-append now s) }
