-- `stage::inner::drive::Stages::later` meets its contract. Assumes nothing.
use Rattle.sequences.proofs.Basics.{◌≡◌, ◌<◌, sym, ap, ◌∙◌, ◌+◌, ◌*◌, le_of_lt, arith, length}
use Rattle.sequences.proofs.Pasted.{whole_pasted}
use Rattle.counts.proofs.Counts.{count_small, start_next, start_none, start_few}
use Rattle.stage.specs.Runs.{stage_in}
use Rattle.stage.proofs.Runs.{length_made, Going, going_first, going_even, going_odd, gone_one, gone_all}
use Rattle.stage.proofs.inner.drive.Stages.later.Goals as goal
use Rattle.stage.proofs.inner.drive.Stages.later.Goals.{then-k-eq0, else-k-eq0}

pub returns-then-count-eq1 : goal.returns-then-count-eq1
returns-then-count-eq1 c = let a = c.args in
    gone_one (stage_in a.self.plan a.self.width a.self.twiddles.now) a.scratch.now _ a.self.plan.count c.if-count-eq1.true
    (c.paste.ensures ∙ whole_pasted _ _ (c.requires.0.long ∙ sym c.requires.0.wide))

pub loop-k-init : goal.loop-k-init
loop-k-init c = let a = c.args in (
  omega (arith, c.twiddle_count-start.ensures, start_next a.self.plan.half a.self.plan.radices 0, start_none a.self.plan.half a.self.plan.radices),
  c.requires.0.long,
  c.requires.0.wide,
  going_first _ _ _,
)

pub one-requires : goal.one-requires
one-requires c = let l = c.loop-k in record { known = omega arith; source = l.invariant.1; target = l.invariant.2; starts = l.invariant.0 }

pub one-requires-else-k-eq0 : goal.one-requires-else-k-eq0
one-requires-else-k-eq0 c = let l = c.loop-k in record { known = omega arith; source = l.invariant.2; target = l.invariant.1; starts = l.invariant.0 }

pub overflow_add-start : goal.overflow_add-start
overflow_add-start c = let l = c.loop-k in let known : l.k < c.args.self.plan.count = omega arith in omega (
  arith,
  l.invariant.0,
  start_few c.args.self.plan c.args.self.planned l.k (le_of_lt known),
  c.twiddle_count-start-in-loop-k.ensures,
  count_small c.args.self.plan c.args.self.planned l.k known,
)

pub loop-k-preserved : goal.loop-k-preserved
loop-k-preserved c = let a = c.args in let l = c.loop-k in let j = c.if-k-eq0 in let f = stage_in a.self.plan a.self.width a.self.twiddles.now in
    let next : (length j.«data» ≡ 2 * a.self.plan.half) × (length j.scratch ≡ 2 * a.self.plan.half) × Going f a.scratch.now j.«data» j.scratch (l.k + 1) =
    elim j.branch [
      | then-k-eq0 w ↦ (
        ap length w.data-is ∙ l.invariant.1,
        ap length (w.scratch-is ∙ w.one.ensures) ∙ length_made a.self.plan l.k a.self.width _ _,
        going_even f a.scratch.now l.«data» l.scratch j.«data» j.scratch l.k (omega arith) l.invariant.3 w.if-k-eq0.true w.data-is
            (w.scratch-is ∙ w.one.ensures),
      )
      | else-k-eq0 w ↦ (
        ap length (w.data-is ∙ w.one-else-k-eq0.ensures) ∙ length_made a.self.plan l.k a.self.width _ _,
        ap length w.scratch-is ∙ l.invariant.2,
        going_odd f a.scratch.now l.«data» l.scratch j.«data» j.scratch l.k (omega arith) l.invariant.3 w.if-k-eq0.false
            (w.data-is ∙ w.one-else-k-eq0.ensures) w.scratch-is,
      )
    ] in (
      omega (arith, l.invariant.0, c.twiddle_count-start-in-loop-k.ensures, start_next a.self.plan.half a.self.plan.radices l.k),
      next.0,
      next.1,
      next.2,
    )

pub returns : goal.returns
returns c = let a = c.args in let l = c.loop-k in gone_all (stage_in a.self.plan a.self.width a.self.twiddles.now) a.scratch.now l.«data» l.scratch l.k
    a.self.plan.count
    (omega arith) (omega (arith, c.requires.1, c.if-count-eq1.false)) l.invariant.3
