-- `plan_text::report` meets its promise: what is read, planned and printed is what the definition says. Assumes nothing.
use Rattle.sequences.proofs.Basics.{sym, ap, ◌∙◌, ℕ, arith, take, length-take, length-take-le}
use Rattle.plan.specs.Record.{planned}
use Rattle.tokens.specs.Tokens.{radices}
use Rattle.plan_text.specs.Report.{lines_of}
use Rattle.plan_text.proofs.Plans.{planned_ok, take_least, reported}
use Rattle.plan_text.proofs.report.Goals as goal

pub slice_bounds-read_radices-end : goal.slice_bounds-read_radices-end
slice_bounds-read_radices-end c = sym (length-take-le c.min-read.result c.args.input.now (omega arith))

pub read_radices-tokens-requires : goal.read_radices-tokens-requires
read_radices-tokens-requires c = omega (arith, length-take c.min-read.result c.args.input.now)

pub slice_bounds-list-end : goal.slice_bounds-list-end
slice_bounds-list-end c = omega arith

pub slice_bounds-plan-end : goal.slice_bounds-plan-end
slice_bounds-plan-end c = let r = c.read_radices-tokens.result in sym (length-take-le r.count r.list (omega arith))

pub plan_lines-requires : goal.plan_lines-requires
plan_lines-requires c = planned_ok _ _ (sym c.in-Ok.is ∙ c.plan.ensures.answer)

pub returns-in-Ok : goal.returns-in-Ok
returns-in-Ok c = let input = c.args.input.now in reported (ap lines_of (sym c.in-Ok.is ∙ c.plan.ensures.answer
    ∙ ap planned (c.read_radices-tokens.ensures.answer
    ∙ ap radices (ap (λ (k : ℕ). take k input) c.min-read.ensures ∙ take_least 4096 input)))) c.plan_lines.ensures

pub returns-in-Err : goal.returns-in-Err
returns-in-Err c = let input = c.args.input.now in reported (ap lines_of (sym c.in-Err.is ∙ c.plan.ensures.answer
    ∙ ap planned (c.read_radices-tokens.ensures.answer
    ∙ ap radices (ap (λ (k : ℕ). take k input) c.min-read.ensures ∙ take_least 4096 input)))) c.refusal_line.ensures
