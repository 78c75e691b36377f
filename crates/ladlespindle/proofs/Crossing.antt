-- Promises of calls, with the verdict as numbers. Assumes nothing.
use Rattle.sequences.proofs.Basics.{◌≡◌, sym, ap, ◌∙◌, ℕ, ◌+◌, ◌-◌, List}
use lib.Ieee.{Float}
use Rattle.std.specs.Prelude.{Ok, Err}
use Rattle.refusal.proofs.Rows.{granted_ok, granted_err}
use Rattle.refusal.specs.Refusal.{number_of, place_of, number_in, place_in, left, Settles}
use Rattle.refusal.specs.declared.Refusal.{Refusal}
use Rattle.refusal.specs.Refusal.{Verdict}
use Rattle.refusal.specs.Refusal.{Accepted}
use Rattle.counts.specs.Counts.{result_in, buffer_number}
use Rattle.plan.specs.declared.Record.{Record}
use Rattle.schedule.specs.Buffers.{Two}
use Rattle.turn.specs.Calls.{part, turned, Turns}
use Rattle.turn.specs.Turns.{+0, turn_of, words_of}
use Rattle.turn.specs.declared.Turn.{Turn}
use Rattle.power.specs.Power.{power_from, Powers}
use Rattle.remainder.specs.Calls.{Runs}
use Rattle.ladlespindle.specs.Calls.{answered, Gives, worded, GivesTurn, powered, GivesPower, ran_as, GivesRemainderRun}
use Rattle.ladlespindle.specs.declared.Answer.{Answer}

pub crossed_over : {A : Type 0} (v : Verdict) (made lent : A) (r : Verdict) (after : A) (a : Answer) → Settles v made lent r after → a ≡ answered r
    → Gives v made lent a after
crossed_over v made lent r after a s e = record { answer = e ∙ ap answered s.answer; cells = s.cells }

pub run_crossed : (p : Record) (m w : ℕ) (before : Two ℕ) (v : Verdict) (after : Two ℕ) (number place buffer : ℕ) → Runs p m w before v after
    → number ≡ number_in v → place ≡ place_in v → buffer ≡ left v (buffer_number (result_in p.count)) 0
    → GivesRemainderRun p m w before (record { number = number; place = place; buffer = buffer }) after
run_crossed p m w before v after number place buffer s e f g =
    record { answer = (λ i. record { number = e i; place = f i; buffer = g i }) ∙ ap (λ (u : Verdict). ran_as u p.count) s.answer; cells = s.cells }

-- ---- a single turn

module _ (t L : ℕ) where
  pub turn_accepted : (turn : Turn) (re im : Float) → Turns t L (Ok turn) → (re, im) ≡ words_of turn
      → GivesTurn t L (record { number = 0; place = 0; re = re; im = im })
  unfolding turned
  turn_accepted turn re im s f =
      let told = granted_ok _ _ _ s.answer in
      let words : (re, im) ≡ words_of (turn_of (part t L)) = f ∙ ap words_of told.1 in
      record { answer = ap (worded Accepted) words ∙ ap (λ (u : Verdict). worded u (words_of (turn_of (part t L)))) (sym told.0) }

  pub turn_refused : (why : Refusal) (number place : ℕ) → Turns t L (Err why) → number ≡ number_of why → place ≡ place_of why
      → GivesTurn t L (record { number = number; place = place; re = +0; im = +0 })
  unfolding turned
  turn_refused why number place s f g =
      let told = granted_err _ _ _ s.answer in
      record {
        answer = (λ i. record { number = f i; place = g i; re = +0; im = +0 })
            ∙ ap (λ (u : Verdict). worded u (words_of (turn_of (part t L)))) (sym told);
      }

-- ---- a sum of power

module _ (spectrum : List Float) (lo hi : ℕ) where
  pub power_accepted : (x : Float) → Powers spectrum lo hi (Ok x) → GivesPower spectrum lo hi (record { number = 0; place = 0; power = x })
  power_accepted x s =
      let told = granted_ok _ _ _ s.answer in
      record { answer = ap (powered Accepted) told.1 ∙ ap (λ (u : Verdict). powered u (power_from spectrum lo (hi + 1 - lo))) (sym told.0) }

  pub power_refused : (why : Refusal) (number place : ℕ) → Powers spectrum lo hi (Err why) → number ≡ number_of why → place ≡ place_of why
      → GivesPower spectrum lo hi (record { number = number; place = place; power = +0 })
  power_refused why number place s f g =
      let told = granted_err _ _ _ s.answer in
      record {
        answer = (λ i. record { number = f i; place = g i; power = +0 })
            ∙ ap (λ (u : Verdict). powered u (power_from spectrum lo (hi + 1 - lo))) (sym told);
      }
