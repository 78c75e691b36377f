-- `listening::inner::lengths::nearest_served` meets its contract. Assumes nothing.
use Rattle.sequences.proofs.Basics.{sym, ap, ◌∙◌, ℕ, ◌-◌, arith}
use Rattle.listening.specs.Lengths.{served_from}
use Rattle.listening.proofs.Lengths.{served_first, served_below, served_above, served_on}
use Rattle.listening.proofs.inner.lengths.nearest_served.Goals as goal

pub loop-apart-init : goal.loop-apart-init
loop-apart-init c = served_first c.args.n

pub returns-then-is_served : goal.returns-then-is_served
returns-then-is_served c =
    let l = c.loop-apart in
    sym (served_below l.apart c.args.n c.loop-apart-test.true (sym c.is_served.ensures ∙ c.if-is_served.true)) ∙ l.invariant

pub returns-then-is_served-2 : goal.returns-then-is_served-2
returns-then-is_served-2 c =
    sym (served_above c.loop-apart.apart c.args.n c.loop-apart-test.true (sym c.is_served.ensures ∙ c.if-is_served.false)
    (sym c.is_served-in-loop-apart.ensures ∙ c.if-is_served-2.true)) ∙ c.loop-apart.invariant

pub loop-apart-preserved : goal.loop-apart-preserved
loop-apart-preserved c =
    served_on c.loop-apart.apart c.args.n c.loop-apart-test.true (sym c.is_served.ensures ∙ c.if-is_served.false)
    (sym c.is_served-in-loop-apart.ensures ∙ c.if-is_served-2.false) ∙ c.loop-apart.invariant

pub returns : goal.returns
unfolding served_from
returns c =
    let l = c.loop-apart in let n = c.args.n in
    ap (λ (k : ℕ). served_from k l.apart n) {x = 0} {y = n - l.apart} (omega arith) ∙ l.invariant
