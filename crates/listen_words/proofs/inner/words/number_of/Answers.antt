-- `number_of` meets its contract: each turn reads the digit that stands next.
use Rattle.std.proofs.Common.{sym, ◌∙◌, arith, rules, add-one, get_or}
use Rattle.listen_words.proofs.Digits.{digits_all, digits_none, digits_next, digit_few}
use Rattle.listen_words.proofs.inner.words.number_of.Goals as goal

pub returns-then-not-is_ascii_digit : goal.returns-then-not-is_ascii_digit
returns-then-not-is_ascii_digit c = sym (c.loop-b.invariant.2 ∙ digits_none _ _ _ c.loop-b-test.true (search rules))

pub loop-b-preserved : goal.loop-b-preserved
loop-b-preserved c = (
  search rules,
  rw add-one (let e = digit_few (get_or c.args.word.now c.loop-b.b-index 0) (sym c.is_ascii_digit.ensures.value
      ∙ c.if-not-is_ascii_digit.false) in omega arith),
  c.loop-b.invariant.2 ∙ digits_next _ _ _ c.loop-b-test.true (search rules),
)

pub returns : goal.returns
returns c = sym (c.loop-b.invariant.2 ∙ digits_all _ _ _ c.loop-b-test.false)
