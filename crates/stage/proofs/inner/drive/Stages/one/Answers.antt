-- `stage::inner::drive::Stages::one` meets its contract. Assumes nothing.
use Rattle.sequences.proofs.Basics.{le_of_lt, arith}
use Rattle.counts.proofs.Counts.{count_small, start_few}
use Rattle.stage.proofs.Runs.{own_within, own_slice, step_workable, step_made}
use Rattle.stage.proofs.inner.drive.Stages.one.Goals as goal

pub overflow_mul-from : goal.overflow_mul-from
overflow_mul-from c = omega (arith, c.requires.starts, start_few c.args.self.plan c.args.self.planned c.args.k (le_of_lt c.requires.known))

pub overflow_mul-to : goal.overflow_mul-to
overflow_mul-to c = omega (arith, c.twiddle_count.ensures, count_small c.args.self.plan c.args.self.planned c.args.k c.requires.known)

pub overflow_add-to : goal.overflow_add-to
overflow_add-to c = omega (
  arith,
  c.requires.starts,
  start_few c.args.self.plan c.args.self.planned c.args.k (le_of_lt c.requires.known),
  c.twiddle_count.ensures,
  count_small c.args.self.plan c.args.self.planned c.args.k c.requires.known,
)

pub offset_bounds-self-from : goal.offset_bounds-self-from
offset_bounds-self-from c = omega (arith, c.requires.starts, start_few c.args.self.plan c.args.self.planned c.args.k (le_of_lt c.requires.known))

pub slice_bounds-work-end : goal.slice_bounds-work-end
slice_bounds-work-end c = omega (arith, c.requires.starts, c.args.self.lent, c.twiddle_count.ensures, own_within c.args.self.plan c.args.k c.requires.known)

pub work-requires : goal.work-requires
work-requires c = let a = c.args in step_workable a.self.plan a.k a.self.width _ _ a.start a.self.twiddles.now _ a.self.planned a.self.packed a.self.lent
    c.requires
    (own_slice a.self.plan a.k a.self.twiddles.now a.start _ c.requires.starts c.twiddle_count.ensures)

pub returns : goal.returns
returns c = let a = c.args in step_made a.self.plan a.k a.self.width _ _ a.start a.self.twiddles.now _ a.self.planned a.self.packed a.self.lent c.requires
    (own_slice a.self.plan a.k a.self.twiddles.now a.start _ c.requires.starts c.twiddle_count.ensures) _ _
    c.work.ensures
