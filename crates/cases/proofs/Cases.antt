-- The twelve cases hold: what the promises leave open is lifted first, and the rest is by computation. Assumes nothing.
use Rattle.sequences.proofs.Basics.{◌≡◌, refl, sym, ap, ap₂, subst, ◌∙◌, ℕ, ◌+◌, ◌-◌, ◌*◌, true, false, List, [], ◌∷◌, ltb, length, le-ltb}
use lib.Ieee.{Float, of_int, of_bits, add, sub, mul, neg}
use Rattle.refusal.specs.Refusal.{left}
use Rattle.refusal.specs.declared.Refusal.{Refusal}
use Rattle.refusal.specs.declared.Refusal.TheVariants.{Base}
use Rattle.refusal.specs.Refusal.{Verdict}
use Rattle.refusal.specs.Refusal.{Accepted, Refused}
use Rattle.refusal.proofs.Rows.{settled}
use Rattle.counts.specs.Counts.{radix, stride, twiddle_count, twiddle_start, end_count, result_in}
use Rattle.halving.specs.Half.{halving, halved, half}
use Rattle.radices.specs.Lists.{is_radix, product, first_bad, index_of, first_over, count_of, padded, eq_list}
use Rattle.sequences.specs.Lists.{first_that, tabulate}
use Rattle.merging.specs.Merging.{tally, applies, merge, first_rule, rules_up_to, rules, merged_by, merged, letters, sorted}
use Rattle.plan.specs.Record.{plan_verdict, factors, record_of, accepted_plan, planned, Plans, in_order, sized, is_planned}
use Rattle.plan.specs.declared.Planned.{Planned}
use Rattle.plan.specs.declared.Record.{Record}
use Rattle.schedule.specs.Buffers.{held_in, alternated, driven}
use Rattle.schedule.specs.Plans.{in_use}
use Rattle.schedule.specs.Stage.{twiddle_turn, kernel_turn, iteration, place, twiddled_in, read, total, plain, output, stage_by, stage, run}
use Rattle.turn.specs.Turns as Turns
use Rattle.packing.specs.Places.{is_width}
use Rattle.floats.specs.Complexes.{cx, paired, flat}
use Rattle.scan.specs.Scan.{fits, first_unfit}
use Rattle.floats.specs.declared.complex.Complex.{Complex}
use Rattle.kernel.specs.Floats.{floats, stage_of}
use Rattle.ends.specs.Ends.{end_cell, ended, conjugated}
use Rattle.spectrum.specs.Calls.{forward_verdict, inverse_verdict, lent_verdict}
use Rattle.power.specs.Power.{power_from, power_verdict}
use Rattle.transform.specs.Transforms.{Slices, forward_run, forward_of, prepared_of, inverse_run, inverse_of}
use Rattle.std.specs.Prelude.{Result, Ok, IsOkAnd}
use Rattle.refusal.specs.declared.Refusal.{Refusal}
use Rattle.refusal.specs.Refusal.{granted}
use Rattle.remainder.specs.Calls.{first_large, run_verdict}
use Rattle.residues.specs.Residues.{turn, residues, run_of}
use Rattle.cases.specs.Cases.{+◌, -◌, summed as comes_to, unsummed, spectrum, table, Gives, Sums, Refuses, Transforms, Holds, All}

-- the plan of a list by definition
abbrev plan_of : List ℕ → Record
plan_of list = (accepted_plan list).plan

module _ {list : List ℕ} where
  -- what is so of the answer by definition is so of every answer that is promised
  promised : (P : Result Planned Refusal → Type 0) → P (planned list) → (a : Result Planned Refusal) → Plans list a → P a
  promised P s a p = subst P (sym p.answer) s

  -- likewise of what a list that is accepted answers
  answered : (P : Planned → Type 0) → planned list ≡ Ok (accepted_plan list) → P (accepted_plan list) → (a : Result Planned Refusal) → Plans list a
      → IsOkAnd a P
  answered P e s a p = subst (λ (r : Result Planned Refusal). IsOkAnd r P) (sym (p.answer ∙ e)) s

  -- what an accepted run makes, whatever the scratch held
  sums : (h m w : ℕ) (xs ys : List ℕ) → (plan_of list).half ≡ h → run plain (residues m w h) h (in_use (plan_of list)) (plan_of list).count xs ≡ ys
      → run_verdict (plan_of list) m w xs h ≡ Accepted
      → ((scratch : List ℕ) → held_in (result_in (plan_of list).count) (run_of (plan_of list) m w (xs, scratch)) ≡ ys)
      → planned list ≡ Ok (accepted_plan list) → (a : Result Planned Refusal) → Plans list a → IsOkAnd a (λ made. Sums h m w xs ys made.plan)
  sums h m w xs ys long by v made good = answered (λ a. Sums h m w xs ys a.plan) good
      (record {
        half = long;
        stages = by;
        runs = λ scratch e r after s.
            let taken : run_verdict (plan_of list) m w xs (length scratch) ≡ Accepted = ap (run_verdict (plan_of list) m w xs) e ∙ v in
            (s.answer ∙ taken, ap (held_in (result_in (plan_of list).count)) (settled _ _ _ _ _ s taken) ∙ made scratch);
      })

  -- a run that is refused whatever it is lent
  refuses : (h m w n k : ℕ) → (why : Refusal) → (plan_of list).half ≡ h → ((xs : List ℕ) (room : ℕ) → run_verdict (plan_of list) m w xs room ≡ Refused why)
      → Gives n k (Refused why) → planned list ≡ Ok (accepted_plan list) → (a : Result Planned Refusal) → Plans list a
      → IsOkAnd a (λ made. Refuses h m w n k made.plan)
  refuses h m w n k why long v given good = answered (λ a. Refuses h m w n k a.plan) good
      (record {
        half = long;
        runs = λ before r after s.
            let refused : run_verdict (plan_of list) m w before.0 (length before.1) ≡ Refused why = v before.0 (length before.1) in
            (subst (Gives n k) (sym (s.answer ∙ refused)) given, s.cells ∙ ap (λ (u : Verdict). left u (run_of (plan_of list) m w before) before) refused);
      })

  -- what accepted transforms make, whatever the width and the scratch
  transforms : (samples : List Float) (bins : List Complex) (again : List Float) (sum : Float)
      → ((W room : ℕ) → is_width W ≡ true → ltb room (6 * length samples) ≡ false
      → forward_verdict (plan_of list) W samples (2 * length bins) room [] [] ≡ Accepted)
      → ((W : ℕ) (scratch : List Float) → (forward_of (plan_of list) W [] [] samples scratch).0 ≡ flat bins)
      → ((W room : ℕ) → is_width W ≡ true → ltb room (6 * length samples) ≡ false
      → inverse_verdict (plan_of list) W (flat bins) (length again) room [] [] ≡ Accepted)
      → ((W : ℕ) (scratch : List Float) → (inverse_of (plan_of list) W [] [] (flat bins) scratch (length again)).0 ≡ again)
      → power_verdict (flat bins) 0 (plan_of list).half ≡ Accepted → power_from (flat bins) 0 ((plan_of list).half + 1 - 0) ≡ sum
      → planned list ≡ Ok (accepted_plan list) → (a : Result Planned Refusal) → Plans list a → IsOkAnd a (λ made. Transforms samples bins again sum made.plan)
  transforms samples bins again sum vf f vi i vp e good = answered (λ a. Transforms samples bins again sum a.plan) good
      (record {
        forward = λ W width before o l r after s.
            let taken : forward_verdict (plan_of list) W samples (length before.0) (length before.1) [] [] ≡ Accepted
            = rw o (vf W (length before.1) width (le-ltb _ _ l)) in
            (s.answer ∙ taken, ap (λ (b : Slices). b.0) (settled _ _ _ _ _ s taken) ∙ f W before.1);
        inverse = λ W width before o l r after s.
            let taken : inverse_verdict (plan_of list) W (flat bins) (length before.0) (length before.1) [] [] ≡ Accepted
            = rw o (vi W (length before.1) width (le-ltb _ _ l)) in
            (s.answer ∙ taken, ap (λ (b : Slices). b.0) (settled _ _ _ _ _ s taken) ∙ rw o (i W before.1));
        power = λ a s. s.answer ∙ ap₂ granted vp e;
      })

-- one after the other
abbrev ◌&◌ : {A B : Type 0} → A → B → A × B
x & y = (x, y)

infixr 60 ◌&◌
-- a run in remainders
case_sum : Holds (3 ∷ 2 ∷ 2 ∷ [], comes_to 6 7 3 (0 ∷ 1 ∷ 0 ∷ 0 ∷ 0 ∷ 0 ∷ []) (1 ∷ 3 ∷ 2 ∷ 6 ∷ 4 ∷ 5 ∷ []))
unfolding planned plan_verdict first_bad first_that is_radix first_over product accepted_plan record_of factors half halving halved index_of
    tally count_of
    rules rules_up_to first_rule applies merge merged_by merged letters sorted padded is_planned in_order sized eq_list run_verdict first_large result_in driven
    alternated in_use radix stride run stage stage_by tabulate output iteration place plain total read twiddled_in kernel_turn twiddle_turn residues turn
case_sum = sums {list = 3 ∷ 2 ∷ 2 ∷ []} 6 7 3 (0 ∷ 1 ∷ 0 ∷ 0 ∷ 0 ∷ 0 ∷ []) (1 ∷ 3 ∷ 2 ∷ 6 ∷ 4 ∷ 5 ∷ []) refl refl refl (λ s. refl) refl

-- a run with a base that does not do
case_base : Holds (8 ∷ [], unsummed 4 7 3 12 0)
unfolding planned plan_verdict first_bad first_that is_radix first_over product accepted_plan record_of factors half halving halved index_of
    tally count_of
    rules rules_up_to first_rule applies merge merged_by merged letters sorted padded is_planned in_order sized eq_list run_verdict
case_base = refuses {list = 8 ∷ []} 4 7 3 12 0 Base refl (λ xs room. refl) (record { number = refl; place = refl }) refl

-- the transforms
case_spectrum : Holds (
  4 ∷ [],
  spectrum (+ 1 ∷ + 2 ∷ + 3 ∷ + 4 ∷ []) (cx (+ 10) (+ 0) ∷ cx (- 2) (+ 2) ∷ cx (- 2) (+ 0) ∷ []) (+ 4 ∷ + 8 ∷ + 12 ∷ + 16 ∷
      []) (+ 112),
)
unfolding planned plan_verdict first_bad first_that is_radix first_over product accepted_plan record_of factors half halving halved index_of
    tally count_of
    rules rules_up_to first_rule applies merge merged_by merged letters sorted padded is_planned in_order sized eq_list run_verdict first_large result_in driven
    alternated in_use radix stride run stage stage_by tabulate output iteration place plain total read twiddled_in kernel_turn twiddle_turn residues turn
    lent_verdict twiddle_count twiddle_start end_count first_unfit fits forward_of forward_run inverse_of inverse_run prepared_of conjugated ended
    end_cell flat paired
    stage_of floats Turns.turn_of Turns.turn_at Turns.index_of power_verdict power_from add sub mul neg of_int of_bits
case_spectrum = transforms {list = 4 ∷ []} (+ 1 ∷ + 2 ∷ + 3 ∷ + 4 ∷ []) (cx (+ 10) (+ 0) ∷ cx (- 2) (+ 2) ∷ cx (- 2) (+ 0) ∷ [])
    (+ 4 ∷ + 8 ∷ + 12 ∷ + 16 ∷ []) (+ 112)
    (λ W room w l. rw (w, l) refl) (λ W s. refl) (λ W room w l. rw (w, l) refl) (λ W s. refl) refl refl refl

-- every case of the table
pub cases_hold : All Holds table
unfolding planned plan_verdict first_bad first_that is_radix first_over product accepted_plan record_of factors half halving halved index_of
    tally count_of
    rules rules_up_to first_rule applies merge merged_by merged letters sorted padded
cases_hold = promised _ (record { number = refl; place = refl }) & promised _ (record { number = refl; place = refl })
    & promised _ (record { number = refl; place = refl })
    & promised _ (record { number = refl; place = refl })
    & promised _ (record { count = refl; radices = refl; merges = refl })
    & promised _ (record { count = refl; radices = refl; merges = refl })
    & promised _ (record { count = refl; radices = refl; merges = refl })
    & promised _ (record { count = refl; radices = refl; merges = refl })
    & promised _ (record { count = refl; radices = refl; merges = refl })
    & case_sum
    & case_base
    & case_spectrum
    & tt
