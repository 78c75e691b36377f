-- `ladlespindle::ladlespindle_hear` meets its contract. Assumes nothing.
use Rattle.sequences.proofs.Basics.{ap, ◌∙◌}
use Rattle.ladlespindle.specs.Calls.{heard_as, crossed_heard}
use Rattle.ladlespindle.proofs.ladlespindle_hear.Goals as goal

pub returns : goal.returns
returns c = let o = c.hear-heard in let n = c.number.ensures.answer in let k = c.place.ensures.answer in let d = c.number-2.ensures.answer in record {
  answer = (λ i. heard_as (n i) (k i) o.result.power (d i)) ∙ ap crossed_heard o.ensures.answer;
  cells = o.ensures.cells;
}
