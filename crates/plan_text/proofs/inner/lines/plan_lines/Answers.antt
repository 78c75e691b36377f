-- `plan_lines` adds the seven lines in turn; they fit. Assumes nothing.
use Rattle.sequences.proofs.Basics.{ap, ◌∙◌, ℕ, List, [], ◌∷◌, ◌++◌, lit≤, le_refl, take}
use Rattle.counts.specs.Counts.{twiddle_start, end_count, result_in}
use Rattle.counts.specs.declared.Buffer.{Buffer}
use Rattle.plan.proofs.Bounds.{plan_some}
use Rattle.text.specs.Lines.{decimal, line}
use Rattle.text.proofs.Growing.{then, said, holds}
use Rattle.plan_text.specs.Report.{factor_words, buffer_name, plan_lines}
use Rattle.plan_text.proofs.Plans.{planned_count}
use Rattle.plan_text.proofs.inner.lines.plan_lines.Goals as goal

pub shared_ref_as_front-factors_line : goal.shared_ref_as_front-factors_line
shared_ref_as_front-factors_line c = planned_count c.args.plan c.requires

pub twiddle_start-requires : goal.twiddle_start-requires
twiddle_start-requires c = (c.requires, le_refl _)

pub end_count-requires : goal.end_count-requires
end_count-requires c = plan_some c.args.plan c.requires

pub returns : goal.returns
unfolding plan_lines
returns c =
    let p = c.args.plan in let m = c.args.merges in
    let lines : ℕ → ℕ → Buffer → List ℕ = λ s e b.
    line "n" (decimal p.n ∷ [])
    ++ (line "half" (decimal p.half ∷ [])
    ++ (line "factors" (factor_words (take p.count p.radices))
    ++ (line "merges" (decimal m.count ∷ [])
    ++ (line "stage" (decimal s ∷ [])
    ++ (line "end" (decimal e ∷ [])
    ++ line "result" (buffer_name b ∷ [])))))) in
    holds {k = 207} c.new-text.ensures (lit≤ tt)
    (said (ap (λ (s : ℕ). lines s c.end_count.result c.result_in.result) c.twiddle_start.ensures
    ∙ ap (λ (e : ℕ). lines (twiddle_start p.half p.radices p.count) e c.result_in.result) c.end_count.ensures
    ∙ ap (λ (b : Buffer). lines (twiddle_start p.half p.radices p.count) (end_count p.n) b) c.result_in.ensures) (lit≤ tt)
    (then c.number_line.ensures (then c.number_line-2.ensures (then c.factors_line.ensures (then c.number_line-3.ensures
    (then c.number_line-4.ensures (then c.number_line-5.ensures c.result_line.ensures)))))))
