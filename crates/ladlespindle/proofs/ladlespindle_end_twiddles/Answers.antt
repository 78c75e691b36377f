-- `ladlespindle_end_twiddles` meets its promise: the count of the record that planning makes. Assumes nothing.
use Rattle.sequences.proofs.Basics.{◌∙◌}
use Rattle.counts.specs.Counts.{end_count}
use Rattle.plan.specs.declared.Record.{Record}
use Rattle.ladlespindle.proofs.Answers.{count_or_zero}
use Rattle.ladlespindle.proofs.ladlespindle_end_twiddles.Goals as goal

pub returns : goal.returns
returns c = record {
  answer = c.unwrap_or.ensures ∙ count_or_zero c.args.list.now (λ
      (p : Record). end_count p.n) c.made_of.result c.made_of.ensures c.end_twiddles.result c.end_twiddles.ensures.answer;
}
