-- What an accepted call of a stage tells. Assumes nothing.
use Rattle.sequences.proofs.Basics.{◌≡◌, sym, ◌∙◌, ℕ, ◌≤◌, List, length}
use lib.Ieee.{Float}
use Rattle.refusal.specs.Refusal.{Verdict}
use Rattle.refusal.specs.Refusal.{Accepted}
use Rattle.refusal.proofs.Rows.{accepted}
use Rattle.plan.specs.declared.Record.{Record}
use Rattle.scan.specs.Scan.{first_unfit}
use Rattle.float_stage.specs.Parts.{Workable}
use Rattle.stage.specs.Calls.{stage_verdict}

-- that it is lent what its work asks for, and that its numbers fit
pub record Taken (p : Record) (j W : ℕ) (xs : List Float) (output : ℕ) (tw : List Float) : Type 0 where
  pub workable : Workable p j W (length xs) (length tw) output
  pub numbers : length xs ≤ first_unfit 48 xs
  pub twiddles : length tw ≤ first_unfit 0 tw

pub stage_taken : (p : Record) (j W : ℕ) (xs : List Float) (output : ℕ) (tw : List Float) → stage_verdict p j W xs output tw ≡ Accepted
    → Taken p j W xs output tw
unfolding stage_verdict
stage_taken p j W xs output tw t = search accepted depth 12

pub stage_workable : (p : Record) (j W : ℕ) (xs : List Float) (output : ℕ) (tw : List Float) (v : Verdict) → v ≡ stage_verdict p j W xs output tw → v ≡ Accepted
    → Workable p j W (length xs) (length tw) output
stage_workable p j W xs output tw v told e = (stage_taken p j W xs output tw (sym told ∙ e)).workable
