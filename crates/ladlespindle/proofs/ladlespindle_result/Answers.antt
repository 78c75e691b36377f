-- `ladlespindle::ladlespindle_result` meets its contract. Assumes nothing.
use Rattle.sequences.proofs.Basics.{◌∙◌}
use Rattle.counts.specs.Counts.{result_in, buffer_number}
use Rattle.plan.specs.declared.Record.{Record}
use Rattle.ladlespindle.proofs.Answers.{count_ok, count_err}
use Rattle.ladlespindle.proofs.ladlespindle_result.Goals as goal

pub returns-in-Ok : goal.returns-in-Ok
returns-in-Ok c = record {
  answer = c.number.ensures.answer
      ∙ count_ok c.args.list.now (λ (p : Record). result_in p.count) buffer_number c.made_of.result c.made_of.ensures c.result.result
      c.result.ensures.answer _ c.in-Ok.is;
}

pub returns-in-Err : goal.returns-in-Err
returns-in-Err c = record {
  answer = count_err c.args.list.now (λ (p : Record). result_in p.count) buffer_number c.made_of.result c.made_of.ensures c.result.result
      c.result.ensures.answer _ c.in-Err.is;
}
