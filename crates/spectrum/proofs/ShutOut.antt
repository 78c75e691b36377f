-- A wrong program that the promise of `forward` shuts out: one spectrum for everything, at n = 2. Assumes nothing.
use Rattle.sequences.proofs.Basics.{◌≡◌, refl, sym, ap, ◌∙◌, ℕ, arith, Bool, true, false, List, [], ◌∷◌, eqb, get_or}
use lib.Ieee.{Float, nan, inf, fin, of_bits, add}
use Rattle.sequences.specs.Lists.{first_that, tabulate}
use Rattle.refusal.specs.Refusal.{Verdict}
use Rattle.refusal.specs.Refusal.{Accepted}
use Rattle.refusal.proofs.Rows.{settled}
use Rattle.counts.specs.Counts.{twiddle_start, end_count, result_in}
use Rattle.radices.specs.Lists.{product, padded, eq_list, count_of}
use Rattle.merging.specs.Merging.{tally, sorted}
use Rattle.plan.specs.Record.{is_planned, in_order, sized}
use Rattle.plan.specs.declared.Record.{Record}
use Rattle.schedule.specs.Buffers.{alternated, driven}
use Rattle.turn.specs.Turns.{+0, +1}
use Rattle.packing.specs.Places.{is_width}
use Rattle.floats.specs.Complexes.{flat}
use Rattle.scan.specs.Scan.{fits, first_unfit}
use Rattle.ends.specs.Ends.{end_cell, ended}
use Rattle.spectrum.specs.Calls.{Forwards, forward_verdict, lent_verdict}
use Rattle.transform.specs.Transforms.{Slices, forward_run, forward_of}

-- the plan of 2
abbrev two : Record
two = record { n = 2; half = 1; count = 0; radices = 0 ∷ 0 ∷ 0 ∷ 0 ∷ 0 ∷ 0 ∷ 0 ∷ 0 ∷ 0 ∷ 0 ∷ 0 ∷ 0 ∷ 0 ∷ [] }

-- the samples 1, 0, and silence
abbrev pulse : List Float
pulse = +1 ∷ +0 ∷ []

abbrev silence : List Float
silence = +0 ∷ +0 ∷ []

-- room for two bins, and a scratch of 12 words
abbrev room : Slices
room = (+0 ∷ +0 ∷ +0 ∷ +0 ∷ [], +0 ∷ +0 ∷ +0 ∷ +0 ∷ +0 ∷ +0 ∷ +0 ∷ +0 ∷ +0 ∷ +0 ∷ +0 ∷ +0 ∷ [])

pulse_taken : forward_verdict two 1 pulse 4 12 [] [] ≡ Accepted
unfolding lent_verdict is_planned in_order sized product tally sorted padded eq_list count_of is_width twiddle_start end_count first_unfit first_that fits
    of_bits
pulse_taken = refl

silence_taken : forward_verdict two 1 silence 4 12 [] [] ≡ Accepted
unfolding lent_verdict is_planned in_order sized product tally sorted padded eq_list count_of is_width twiddle_start end_count first_unfit first_that fits
    of_bits
silence_taken = refl

-- the first number of the spectrum
abbrev first : Slices → Float
first s = get_or s.0 0 nan

-- whether a number is 0
abbrev nought : Float → Bool
nought nan = false
nought (inf s) = false
nought (fin s m e) = eqb m 0

pulse_bin : nought (first (forward_of two 1 [] [] pulse room.1)) ≡ false
unfolding forward_of forward_run driven alternated result_in ended end_cell tabulate flat add of_bits
pulse_bin = refl

silence_bin : nought (first (forward_of two 1 [] [] silence room.1)) ≡ true
unfolding forward_of forward_run driven alternated result_in ended end_cell tabulate flat add of_bits
silence_bin = refl

-- one spectrum for everything
pub one_spectrum : (r r' : Verdict) (after : Slices) → Forwards two 1 [] [] pulse room r after → Forwards two 1 [] [] silence room r' after → ⊥
one_spectrum r r' after f g =
    let a : after ≡ forward_of two 1 [] [] pulse room.1 = settled _ _ _ _ _ f pulse_taken in
    let b : after ≡ forward_of two 1 [] [] silence room.1 = settled _ _ _ _ _ g silence_taken in
    let same : ◌≡◌ {A = Bool} false true = sym pulse_bin ∙ ap (λ (s : Slices). nought (first s)) (sym a ∙ b) ∙ silence_bin in
    let z : ◌≡◌ {A = ℕ} 0 1 = cc in
    absurd (omega arith)
