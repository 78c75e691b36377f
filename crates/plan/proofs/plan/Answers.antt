-- `plan::plan` meets its contract. Assumes nothing.
use Rattle.sequences.proofs.Basics.{◌≡◌, sym, ◌%◌}
use Rattle.refusal.proofs.Rows.{deciding, told_is}
use Rattle.radices.specs.Lists.{product}
use Rattle.plan.specs.Record.{plan_verdict}
use Rattle.plan.proofs.Planning.{answer_refused, answer_accepted}
use Rattle.plan.proofs.plan.Goals as goal

pub returns-then-is_empty : goal.returns-then-is_empty
unfolding plan_verdict
returns-then-is_empty c = record { answer = answer_refused _ _ (search (deciding, told_is)) }

pub returns-in-Some : goal.returns-in-Some
unfolding plan_verdict
returns-in-Some c = let bad = c.in-Some.ensures in record { answer = answer_refused _ _ (search (deciding, told_is, bad.0, bad.1)) }

pub returns-in-Err : goal.returns-in-Err
unfolding plan_verdict
returns-in-Err c = let bad = c.in_default.ensures in let over = c.in-Err.ensures in
    record { answer = answer_refused _ _ (search (deciding, told_is, bad, over.0, over.1)) }

pub returns-then-n-eq1 : goal.returns-then-n-eq1
unfolding plan_verdict
returns-then-n-eq1 c = let list = c.args.list.now in let bad = c.in_default.ensures in let over = c.in-Ok.ensures in
    let odd : product list % 2 ≡ 1 = rw over.1 at c.if-n-eq1.true in
    record { answer = answer_refused _ _ (search (deciding, told_is, bad, over.0) depth 8) }

pub accepted-requires : goal.accepted-requires
unfolding plan_verdict
accepted-requires c =
    let list = c.args.list.now in let bad = c.in_default.ensures in let over = c.in-Ok.ensures in
    let odd : product list % 2 ≡ 1 → ⊥ = rw over.1 at c.if-n-eq1.false in
    (sym (search (deciding, told_is, bad, over.0) depth 8), over.1)

pub returns : goal.returns
unfolding plan_verdict
returns c =
    let list = c.args.list.now in let bad = c.in_default.ensures in let over = c.in-Ok.ensures in
    let odd : product list % 2 ≡ 1 → ⊥ = rw over.1 at c.if-n-eq1.false in
    record { answer = answer_accepted _ _ c.accepted.ensures (search (deciding, told_is, bad, over.0) depth 8) }
