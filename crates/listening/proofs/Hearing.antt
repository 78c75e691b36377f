-- Laws of a block that is heard: where the hearing is accepted the bins are at hand, and what the block answers then and else. Assumes nothing.
use Rattle.sequences.proofs.Basics.{◌≡◌, sym, ap, ap₂, ◌∙◌, ℕ, ◌+◌, ◌-◌, ◌*◌, ◌≤◌, arith, List, length}
use lib.Ieee.{Float}
use Rattle.refusal.specs.Refusal.{left}
use Rattle.refusal.specs.declared.Refusal.{Refusal}
use Rattle.refusal.specs.Refusal.{Verdict}
use Rattle.refusal.specs.Refusal.{Accepted, Refused}
use Rattle.plan.specs.declared.Record.{Record}
use Rattle.plan.proofs.Bounds.{plan_half}
use Rattle.turn.specs.Turns.{+0}
use Rattle.transform.specs.Transforms.{Slices, forward_of}
use Rattle.power.specs.Power.{power_from}
use Rattle.hear.specs.Hear.{hear_verdict, heard, Hears}
use Rattle.hear.specs.declared.Decision.TheVariants.{Fanning}
use Rattle.hear.specs.declared.Heard.{Heard}
use Rattle.hear.proofs.Verdicts.{verdict_told, hear_told, hear_forward}
use Rattle.listening.specs.Block.{weighed, besides, block_of, Listens}
use Rattle.listening.specs.declared.Block.{Block}

-- what was heard with the power outside the band
abbrev block : Float → Heard → Block
block x h = record { verdict = Accepted; band = h.power; outside = x; decision = h.decision }

module _ {p : Record} {W : ℕ} {stage end : List Float} {lo hi : ℕ} {threshold : Float} {before : Slices} {ys : List Float} {r : Heard} {after : Slices}
    (call : Hears p W stage end ys lo hi threshold before r after) where
  abbrev told : Verdict
  told = hear_verdict p W ys (length before.0) (length before.1) stage end lo hi

  abbrev made : Slices
  made = forward_of p W stage end ys before.1

  is_told : r.verdict ≡ told
  is_told = verdict_told p W stage end ys lo hi threshold before r after call

  -- the band is in order and the spectrum has its words
  pub block_room : r.verdict ≡ Accepted → (lo ≤ hi) × (hi ≤ p.half) × (2 * (p.half + 1) ≡ length before.0) × (length before.0 ≤ 8194)
  block_room e =
      let b = hear_told p W stage end ys lo hi threshold before r.verdict is_told e in
      let f = hear_forward p W stage end ys lo hi threshold before r.verdict is_told e in
      (b.1, b.2, sym f.bins, omega (arith, f.bins, plan_half p f.planned))

  module _ {xs weights : List Float} (w : ys ≡ weighed xs weights) where
    -- an accepted block answers what was heard and the power outside the band
    pub listens_accepted : {x : Float} → r.verdict ≡ Accepted → x ≡ besides after.0 lo hi p.half
        → Listens p W xs weights stage end lo hi threshold before (block x r) ys after
    listens_accepted e ex =
        let accepted : told ≡ Accepted = sym is_told ∙ e in
        record {
          samples = w;
          answer = ap₂ block
              (ex ∙ ap (λ (s : Slices). besides s.0 lo hi p.half) (call.cells ∙ ap (λ (v : Verdict). left v made before) accepted))
              (call.answer ∙ ap (λ (v : Verdict). heard v (power_from made.0 lo (hi + 1 - lo)) threshold) accepted)
              ∙ ap (λ (v : Verdict). block_of v made.0 lo hi p.half threshold) (sym accepted);
          cells = call.cells;
        }

    -- a refused one answers +0 twice and fanning
    pub listens_refused : {why : Refusal} → r.verdict ≡ Refused why
        → Listens p W xs weights stage end lo hi threshold before (record { verdict = Refused why; band = +0; outside = +0; decision = Fanning }) ys after
    listens_refused e =
        record {
          samples = w;
          answer = ap (λ (v : Verdict). block_of v made.0 lo hi p.half threshold) (sym e ∙ is_told);
          cells = call.cells;
        }
