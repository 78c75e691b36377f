-- One chunk, by what its id is. Assumes nothing.
use Rattle.sequences.proofs.Basics.{◌≡◌, refl, sym, subst, ℕ, ◌+◌, ◌-◌, ◌/◌, ◌≤◌, ◌<◌, arith, List, eqb, eq-eqb, ne_eqb, lt-ltb}
use Rattle.sequences.proofs.Basics.{le-ltb, dite, dec_lt, ℕ_discrete}
use Rattle.std.proofs.Math.Bool.{and-false}
use Rattle.std.specs.Prelude.{Option, Some, None, Ok, Err}
use Rattle.refusal.specs.Refusal.{verdict}
use Rattle.refusal.specs.declared.Refusal.{Refusal}
use Rattle.refusal.specs.declared.Refusal.TheVariants.{Wav}
use Rattle.refusal.specs.Refusal.{Accepted}
use Rattle.little.specs.Numbers.{number_at}
use Rattle.fields.specs.Fields.{mark, padded, data_rows, format_rows, other_rows}
use Rattle.chunks.specs.Chunks.{Walking, samples_from, at_data, at_format, at_other, stepped}
use Rattle.chunks.specs.declared.inner.walk.Walk.TheVariants.{Chunk, End}
use Rattle.chunks.proofs.Going.{going_cases}

-- a format's mark is not that of samples
pub marks_apart : (id : ℕ) → id ≡ mark "fmt " → id ≡ mark "data" → ⊥
unfolding number_at
marks_apart id f d = absurd (omega (arith, f, d))

module _ (w : List ℕ) (at : ℕ) (rate : Option ℕ) (L : ℕ) where
  -- an id that is not whole
  pub step_short : L - at < 4 → stepped w at rate L ≡ Err (Wav L)
  unfolding stepped
  step_short h = rw (lt-ltb (L - at) 4 h)

  -- that of samples
  pub step_data : 4 ≤ L - at → number_at 4 w 0 ≡ mark "data" → stepped w at rate L ≡ at_data w at rate L
  unfolding stepped
  step_data h e = rw (le-ltb (L - at) 4 h, eq-eqb (number_at 4 w 0) (mark "data") e)

  -- that of a format, the first
  pub step_format : 4 ≤ L - at → (number_at 4 w 0 ≡ mark "data" → ⊥) → number_at 4 w 0 ≡ mark "fmt " → rate ≡ None
      → stepped w at rate L ≡ at_format w at L
  unfolding stepped
  step_format h d e f = rw (le-ltb (L - at) 4 h, ne_eqb (number_at 4 w 0) (mark "data") d, eq-eqb (number_at 4 w 0) (mark "fmt ") e, f)

  -- any other
  pub step_other : 4 ≤ L - at → (number_at 4 w 0 ≡ mark "data" → ⊥) → (number_at 4 w 0 ≡ mark "fmt " → ⊥) → stepped w at rate L ≡ at_other w at rate L
  unfolding stepped
  step_other h e f = rw (le-ltb (L - at) 4 h, ne_eqb (number_at 4 w 0) (mark "data") e, ne_eqb (number_at 4 w 0) (mark "fmt ") f)

-- that of a second format
pub step_second : (w : List ℕ) (at rate L : ℕ) → 4 ≤ L - at → (number_at 4 w 0 ≡ mark "data" → ⊥)
    → stepped w at (Some rate) L ≡ at_other w at (Some rate) L
unfolding stepped
step_second w at rate L h e = rw (le-ltb (L - at) 4 h, ne_eqb (number_at 4 w 0) (mark "data") e, and-false (eqb (number_at 4 w 0) (mark "fmt ")))

-- whatever holds of each refusal and after each kind of chunk holds
module _ (P : Walking → Type 0) (w : List ℕ) (at : ℕ) (rate : Option ℕ) (L : ℕ) (refused : (why : Refusal) → P (Err why))
    (samples : (r : ℕ) → rate ≡ Some r → number_at 4 w 0 ≡ mark "data" → verdict (data_rows w at (L - at) L) ≡ Accepted
    → P (Ok (End (samples_from (at + 8) r (number_at 4 w 4 / 2)))))
    (format : rate ≡ None → number_at 4 w 0 ≡ mark "fmt " → verdict (format_rows w at (L - at) L) ≡ Accepted
    → P (Ok (Chunk (at + 24) (Some (number_at 4 w 12)))))
    (other : verdict (other_rows w at (L - at) L) ≡ Accepted → P (Ok (Chunk (at + 8 + padded (number_at 4 w 4)) rate))) where
  data_case : (o : Option ℕ) → rate ≡ o → number_at 4 w 0 ≡ mark "data" → P (at_data w at o L)
  unfolding at_data
  data_case None e d = refused (Wav at)
  data_case (Some r) e d = going_cases P (verdict (data_rows w at (L - at) L)) (Ok (End (samples_from (at + 8) r (number_at 4 w 4 / 2)))) (samples r e d)
      (λ why f. refused why)

  format_case : rate ≡ None → number_at 4 w 0 ≡ mark "fmt " → P (at_format w at L)
  unfolding at_format
  format_case e f = going_cases P (verdict (format_rows w at (L - at) L)) (Ok (Chunk (at + 24) (Some (number_at 4 w 12)))) (format e f) (λ why g. refused why)

  other_case : P (at_other w at rate L)
  unfolding at_other
  other_case = going_cases P (verdict (other_rows w at (L - at) L)) (Ok (Chunk (at + 8 + padded (number_at 4 w 4)) rate)) other (λ why f. refused why)

  -- a format's, the first or a second
  mark_case : (o : Option ℕ) → rate ≡ o → 4 ≤ L - at → (number_at 4 w 0 ≡ mark "data" → ⊥) → number_at 4 w 0 ≡ mark "fmt " → P (stepped w at rate L)
  mark_case None e h d f = subst P (sym (step_format w at rate L h d f e)) (format_case e f)
  mark_case (Some r) e h d f =
      let second : stepped w at rate L ≡ at_other w at rate L = rw e (step_second w at r L h d) in
      subst P (sym second) other_case

  pub step_cases : P (stepped w at rate L)
  step_cases =
      dite (dec_lt (L - at) 4) (λ (h : L - at < 4). subst P (sym (step_short w at rate L h)) (refused (Wav L)))
      (λ (n : L - at < 4 → ⊥).
      let h : 4 ≤ L - at = omega (arith, n) in
      dite (ℕ_discrete (number_at 4 w 0) (mark "data"))
      (λ (d : number_at 4 w 0 ≡ mark "data"). subst P (sym (step_data w at rate L h d)) (data_case rate refl d))
      (λ (d : number_at 4 w 0 ≡ mark "data" → ⊥).
      dite (ℕ_discrete (number_at 4 w 0) (mark "fmt ")) (mark_case rate refl h d)
      (λ (f : number_at 4 w 0 ≡ mark "fmt " → ⊥). subst P (sym (step_other w at rate L h d f)) other_case)))
