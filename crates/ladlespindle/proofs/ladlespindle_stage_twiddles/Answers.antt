-- `ladlespindle_stage_twiddles` meets its promise: the count of the record that planning makes. Assumes nothing.
use Rattle.sequences.proofs.Basics.{◌∙◌}
use Rattle.counts.specs.Counts.{stage_twiddles}
use Rattle.ladlespindle.proofs.Answers.{count_or_zero}
use Rattle.ladlespindle.proofs.ladlespindle_stage_twiddles.Goals as goal

pub returns : goal.returns
returns c = record {
  answer = c.unwrap_or.ensures ∙ count_or_zero c.args.list.now stage_twiddles c.made_of.result c.made_of.ensures c.stage_twiddles.result
      c.stage_twiddles.ensures.answer;
}
