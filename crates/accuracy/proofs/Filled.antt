-- What an accepted filling tells: a plan whose length divides the circle, with few small radices. Assumes nothing.
use Rattle.sequences.proofs.Basics.{◌≡◌, ap, ◌∙◌, subst, ℕ, ◌*◌, ◌/◌, ◌≤◌, ◌<◌, le_trans, le_of_eq, mul_comm, arith, true, lit≤, length}
use Rattle.refusal.specs.Refusal.{Verdict}
use Rattle.refusal.specs.Refusal.{Accepted}
use Rattle.counts.specs.Counts.{radix}
use Rattle.plan.specs.Record.{is_planned}
use Rattle.plan.specs.declared.Record.{Record}
use Rattle.plan.proofs.Bounds.{plan_order, plan_half, plan_twice}
use Rattle.schedule.specs.Plans.{in_use}
use Rattle.schedule.proofs.Plans.{use-length, use-radix-few}
use Rattle.turn.specs.Calls.{part}
use Rattle.turn.specs.Turns.{index_of}
use Rattle.turn.proofs.Index.{housed_parts}
use Rattle.twiddle.specs.Calls.{Fills}
use Rattle.end_twiddles.specs.declared.inner.ends.Direction.{Direction}
use Rattle.twiddle.proofs.Verdicts.{taken}
use Rattle.transform.specs.Transforms.{Slices}
use Rattle.accuracy.specs.House.{house}
use Rattle.accuracy.proofs.Run.{index_at}

-- a plan of 2 h samples, each d parts of the circle apart
pub record Circled (p : Record) : Type 0 where
  pub planned : is_planned p ≡ true
  pub some : 0 < p.half
  pub twice : p.n ≡ 2 * p.half
  pub circle : 6720 / (2 * p.half) * (p.half * 2) ≡ 6720
  pub pairs : 6720 / (2 * p.half) * 2 * p.half ≡ 6720
  pub turn_at_lem : (q : ℕ) → house (index_of (part q p.n)) ≡ house (6720 / (2 * p.half) * q)
  pub eight : (j : ℕ) → j < length (in_use p) → radix (in_use p) j ≤ 8
  pub short : length (in_use p) ≤ 64

pub circled : (dir : Direction) (p : Record) (W : ℕ) (lent : Slices) (v : Verdict) (tw : Slices) → Fills dir p W lent v tw → v ≡ Accepted → Circled p
circled dir p W lent v tw fills filled =
    let t = taken p W (length lent.0) (length lent.1) v fills.answer filled in let h = p.half in
    let d = 6720 / (2 * p.half) in
    let parts : d * (2 * h) ≡ 6720 = subst (λ (n : ℕ). 6720 / n * n ≡ 6720) (plan_twice p t.planned) (housed_parts p.n t.housed) in
    let circle : d * (h * 2) ≡ 6720 = ap (λ (n : ℕ). d * n) (mul_comm h 2) ∙ parts in
    record {
      planned = t.planned;
      some = (plan_half p t.planned).0;
      twice = plan_twice p t.planned;
      circle = circle;
      pairs = order d h ∙ circle;
      turn_at_lem = λ q.
          ap (λ (n : ℕ). house (index_of (part q n))) (plan_twice p t.planned) ∙ index_at q (2 * h) d (positive h (plan_half p t.planned).0) parts
          ∙ ap house (mul_comm q d);
      eight = λ j l. use-radix-few p t.planned j (subst (λ (n : ℕ). j < n) (use-length p t.planned) l);
      short = le_trans (le_of_eq (use-length p t.planned)) (le_trans (plan_order p t.planned).few (lit≤ tt));
    }
  where
    order : (d h : ℕ) → d * 2 * h ≡ d * (h * 2)
    order d h = omega arith

    positive : (h : ℕ) → 0 < h → 0 < 2 * h
    positive h l = omega arith
