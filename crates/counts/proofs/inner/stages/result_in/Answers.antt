-- `counts::inner::stages::result_in` meets its contract. Assumes nothing.
use Rattle.sequences.proofs.Basics.{eq-eqb, ne_eqb}
use Rattle.counts.specs.Counts.{result_in}
use Rattle.counts.proofs.inner.stages.result_in.Goals as goal

pub returns-then-count-eq1 : goal.returns-then-count-eq1
unfolding result_in
returns-then-count-eq1 c = simp (eq-eqb _ _ c.if-count-eq1.true)

pub returns-then-count-eq0 : goal.returns-then-count-eq0
unfolding result_in
returns-then-count-eq0 c = simp (ne_eqb _ _ c.if-count-eq1.false, eq-eqb _ _ c.if-count-eq0.true)

pub returns-else-count-eq0 : goal.returns-else-count-eq0
unfolding result_in
returns-else-count-eq0 c = simp (ne_eqb _ _ c.if-count-eq1.false, ne_eqb _ _ c.if-count-eq0.false)
