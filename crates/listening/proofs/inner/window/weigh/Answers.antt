-- `listening::inner::window::weigh` meets its contract. Assumes nothing.
use Rattle.sequences.proofs.Basics.{refl, ◌∙◌, ◌≤◌, arith, ◌⊎◌, inl, inr, dite, dec_le, length}
use Rattle.listening.proofs.Window.{weighed_next, weighed_all}
use Rattle.listening.proofs.inner.window.weigh.Goals as goal

pub loop-i-preserved : goal.loop-i-preserved
loop-i-preserved c =
    let l = c.loop-i in
    weighed_next l.samples c.args.weights.now l.i (omega arith) (omega arith) _ refl ∙ l.invariant

pub returns : goal.returns
returns c =
    let l = c.loop-i in
    let weights = c.args.weights.now in
    let ends : (length l.samples ≤ l.i) ⊎ (length weights ≤ l.i) = dite (dec_le (length l.samples) (length weights)) (λ few. inl (omega arith))
    (λ many. inr (omega arith)) in
    weighed_all l.samples weights l.i ends ∙ l.invariant
