-- `digit_value` is the definition's radix of a byte, case by case. Assumes nothing.
use Rattle.radices.specs.Lists.{is_radix}
use Rattle.tokens.specs.Tokens.{digit_value}
use Rattle.tokens.proofs.inner.tokens.digit_value.Goals as goal

pub returns-in-50 : goal.returns-in-50
unfolding digit_value is_radix
returns-in-50 c = simp c.in-50.is

pub returns-in-51 : goal.returns-in-51
unfolding digit_value is_radix
returns-in-51 c = simp c.in-51.is

pub returns-in-52 : goal.returns-in-52
unfolding digit_value is_radix
returns-in-52 c = simp c.in-52.is

pub returns-in-53 : goal.returns-in-53
unfolding digit_value is_radix
returns-in-53 c = simp c.in-53.is

pub returns-in-55 : goal.returns-in-55
unfolding digit_value is_radix
returns-in-55 c = simp c.in-55.is

pub returns-in-56 : goal.returns-in-56
unfolding digit_value is_radix
returns-in-56 c = simp c.in-56.is
