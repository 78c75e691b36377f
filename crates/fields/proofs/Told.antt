-- What an accepted verdict tells of the fields, and when one is given. Assumes nothing.
use Rattle.sequences.proofs.Basics.{◌≡◌, sym, ◌∙◌, ℕ, ◌-◌, ◌*◌, ◌%◌, ◌≤◌, ◌<◌, arith, List}
use Rattle.refusal.specs.Refusal.{verdict}
use Rattle.refusal.specs.Refusal.{Verdict}
use Rattle.refusal.specs.Refusal.{Accepted}
use Rattle.refusal.proofs.Rows.{deciding, accepted}
use Rattle.little.specs.Numbers.{number_at}
use Rattle.fields.specs.Fields.{mark, padded, head_rows, format_rows, data_rows, other_rows}

-- a file's mark is all there
pub head_told : (w : List ℕ) (L : ℕ) → verdict (head_rows w 0 L L) ≡ Accepted → 12 ≤ L
head_told w L t = search accepted depth 20

module _ (w : List ℕ) (at L : ℕ) (v : Verdict) where
  -- a format is all there, and its rate is one
  pub format_told : v ≡ verdict (format_rows w at (L - at) L) → v ≡ Accepted → (24 ≤ L - at) × (0 < number_at 4 w 12) × (number_at 4 w 12 ≤ 192000)
  format_told e a = go (sym e ∙ a)
    where
      go : verdict (format_rows w at (L - at) L) ≡ Accepted → (24 ≤ L - at) × (0 < number_at 4 w 12) × (number_at 4 w 12 ≤ 192000)
      go t =
          let some : number_at 4 w 12 ≡ 0 → ⊥ = search accepted depth 40 in
          (search accepted depth 40, omega (arith, some), search accepted depth 40)

  -- samples are all there, two bytes each
  pub data_told : v ≡ verdict (data_rows w at (L - at) L) → v ≡ Accepted → (8 ≤ L - at) × (number_at 4 w 4 ≤ L - at - 8) × (number_at 4 w 4 % 2 ≡ 0)
  data_told e a = go (sym e ∙ a)
    where
      go : verdict (data_rows w at (L - at) L) ≡ Accepted → (8 ≤ L - at) × (number_at 4 w 4 ≤ L - at - 8) × (number_at 4 w 4 % 2 ≡ 0)
      go t = (search accepted depth 20, search accepted depth 20, search accepted depth 20)

  -- any other chunk is all there with its pad byte
  pub other_told : v ≡ verdict (other_rows w at (L - at) L) → v ≡ Accepted → (8 ≤ L - at) × (padded (number_at 4 w 4) ≤ L - at - 8)
  other_told e a = go (sym e ∙ a)
    where
      go : verdict (other_rows w at (L - at) L) ≡ Accepted → (8 ≤ L - at) × (padded (number_at 4 w 4) ≤ L - at - 8)
      go t = (search accepted depth 20, search accepted depth 20)

-- ---- all the fields, of an accepted mark and format, and the other way

module _ (w : List ℕ) (at L : ℕ) where
  pub head_fields : verdict (head_rows w at L L) ≡ Accepted
      → (number_at 4 w 0 ≡ mark "RIFF") × (number_at 4 w 4 ≡ L - 8) × (number_at 4 w 8 ≡ mark "WAVE")
  head_fields t = (search accepted depth 20, search accepted depth 20, search accepted depth 20)

  pub head_accepted : 12 ≤ L → number_at 4 w 0 ≡ mark "RIFF" → number_at 4 w 4 ≡ L - 8 → number_at 4 w 8 ≡ mark "WAVE" → verdict (head_rows w at L L) ≡ Accepted
  head_accepted h e f g =
      let four : 4 ≤ L = omega (arith, h) in let eight : 8 ≤ L = omega (arith, h) in
      let it : Accepted ≡ verdict (head_rows w at L L) = search deciding depth 20 in
      sym it

  pub format_fields : verdict (format_rows w at (L - at) L) ≡ Accepted → (number_at 4 w 4 ≡ 16) × (number_at 2 w 8 ≡ 1) × (number_at 2 w 10 ≡ 1)
      × (number_at 4 w 16 ≡ 2 * number_at 4 w 12) × (number_at 2 w 20 ≡ 2) × (number_at 2 w 22 ≡ 16)
  format_fields t = (
    search accepted depth 40,
    search accepted depth 40,
    search accepted depth 40,
    search accepted depth 40,
    search accepted depth 40,
    search accepted depth 40,
  )

  pub format_accepted : 24 ≤ L - at → number_at 4 w 4 ≡ 16 → number_at 2 w 8 ≡ 1 → number_at 2 w 10 ≡ 1 → 0 < number_at 4 w 12 → number_at 4 w 12 ≤ 192000
      → number_at 4 w 16 ≡ 2 * number_at 4 w 12 → number_at 2 w 20 ≡ 2 → number_at 2 w 22 ≡ 16 → verdict (format_rows w at (L - at) L) ≡ Accepted
  format_accepted h a b c some most d e f =
      let r8 : 8 ≤ L - at = omega (arith, h) in let r10 : 10 ≤ L - at = omega (arith, h) in let r12 : 12 ≤ L - at = omega (arith, h) in
      let r16 : 16 ≤ L - at = omega (arith, h) in let r20 : 20 ≤ L - at = omega (arith, h) in let r22 : 22 ≤ L - at = omega (arith, h) in
      let none : number_at 4 w 12 ≡ 0 → ⊥ = λ (z : number_at 4 w 12 ≡ 0). absurd (omega (arith, some, z)) in
      let it : Accepted ≡ verdict (format_rows w at (L - at) L) = search deciding depth 40 in
      sym it

  pub data_accepted : 8 ≤ L - at → number_at 4 w 4 % 2 ≡ 0 → number_at 4 w 4 ≤ L - at - 8 → verdict (data_rows w at (L - at) L) ≡ Accepted
  data_accepted h e m =
      let it : Accepted ≡ verdict (data_rows w at (L - at) L) = search deciding depth 20 in
      sym it
