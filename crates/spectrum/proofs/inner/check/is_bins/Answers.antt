-- `spectrum::inner::check::is_bins` meets its contract. Assumes nothing.
use Rattle.sequences.proofs.Basics.{sym, ◌+◌, ◌-◌, ◌*◌, ◌/◌, arith, ne_eqb}
use Rattle.spectrum.proofs.Verdicts.{same_eqb}
use Rattle.spectrum.proofs.inner.check.is_bins.Goals as goal

pub returns-then-words-lt2 : goal.returns-then-words-lt2
returns-then-words-lt2 c = sym (ne_eqb c.args.words _ (λ e. omega (arith, c.if-words-lt2.true)))

pub returns-then-words-ne0 : goal.returns-then-words-ne0
returns-then-words-ne0 c = sym (ne_eqb c.args.words _ (λ e. c.if-words-ne0.true (omega arith)))

pub overflow_sub-result : goal.overflow_sub-result
overflow_sub-result c = omega (arith, c.if-words-lt2.false)

pub returns : goal.returns
returns c = let w = c.args.words in let h = c.args.h in same_eqb (w / 2 - 1) h w (2 * (h + 1)) (λ e. omega (
  arith,
  c.if-words-ne0.false,
  c.if-words-lt2.false,
)) (λ e. omega arith)
