-- `counts::inner::stages::end_count` meets its contract. Assumes nothing.
use Rattle.sequences.proofs.Basics.{eq-eqb, ne_eqb}
use Rattle.counts.specs.Counts.{end_count}
use Rattle.counts.proofs.inner.stages.end_count.Goals as goal

pub returns-then-n-eq0 : goal.returns-then-n-eq0
unfolding end_count
returns-then-n-eq0 c = simp (eq-eqb _ _ c.if-n-eq0.true)

pub returns-else-n-eq0 : goal.returns-else-n-eq0
unfolding end_count
returns-else-n-eq0 c = simp (ne_eqb _ _ c.if-n-eq0.false)
