-- `factor_words` adds a dash for no radices, and else the radices. Assumes nothing.
use Rattle.sequences.proofs.Basics.{sym, ap, ◌∙◌, arith, eqb-true, eqb-false, lit≤}
use Rattle.text.specs.Lines.{spaced}
use Rattle.text.proofs.Growing.{said}
use Rattle.plan_text.proofs.Plans.{some_factors, no_factors}
use Rattle.plan_text.proofs.inner.lines.factor_words.Goals as goal

pub returns-then-is_empty : goal.returns-then-is_empty
returns-then-is_empty c = let none = eqb-true _ 0 (sym c.is_empty.ensures ∙ c.if-is_empty.true) in
    said (ap spaced (sym (no_factors c.args.radices.now none))) (lit≤ tt) c.extend_from_slice.ensures

pub returns : goal.returns
returns c = let some = eqb-false _ 0 (sym c.is_empty.ensures ∙ c.if-is_empty.false) in
    said (ap spaced (sym (some_factors c.args.radices.now some))) (omega arith) c.spaced_radices.ensures
