-- `refusal_line` adds the name, the number, the place and the line end; they fit. Assumes nothing.
use Rattle.sequences.proofs.Basics.{ap, ◌∙◌, ℕ, List, [], ◌∷◌, ◌++◌, lit≤}
use Rattle.refusal.specs.Refusal.{number_of}
use Rattle.little.specs.Numbers.{ascii}
use Rattle.text.specs.Lines.{decimal, line}
use Rattle.text.proofs.Growing.{then, said, holds, two_words}
use Rattle.plan_text.specs.Report.{refusal_line}
use Rattle.plan_text.proofs.inner.lines.refusal_line.Goals as goal

pub returns : goal.returns
unfolding refusal_line
returns c =
    let n = c.number in let p = c.place in
    holds {k = 50} c.new-text.ensures (lit≤ tt)
    (said (ap (λ (l : List ℕ). ascii "refused" ++ l) (two_words (decimal n.result) (decimal p.result) (10 ∷ []))
    ∙ ap (λ (k : ℕ). line "refused" (decimal k ∷ (decimal p.result ∷ []))) n.ensures.answer
    ∙ ap (λ (k : ℕ). line "refused" (decimal (number_of c.args.why) ∷ (decimal k ∷ []))) p.ensures.answer) (lit≤ tt)
    (then c.extend_from_slice.ensures (then c.push_number.ensures (then c.push_number-2.ensures c.push.ensures))))
