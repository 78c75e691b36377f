-- `push_digits` adds the digits of a number, the last one after those of its tenth. Assumes nothing.
use Rattle.sequences.proofs.Basics.{sym, ap, arith, length}
use Rattle.text.proofs.Decimal.{decimal_small, decimal_more, decimal_longer}
use Rattle.text.proofs.Growing.{then, said}
use Rattle.text.proofs.Text.+push_digits.Goals as goal

pub push-requires : goal.push-requires
push-requires t c = omega (arith, ap length (decimal_small c.args.n c.if-n-lt10.true))

pub returns-then-n-lt10 : goal.returns-then-n-lt10
returns-then-n-lt10 t c =
    let e = sym (decimal_small c.args.n c.if-n-lt10.true) in
    said e (omega (arith, ap length e)) c.push.ensures

pub push_digits-requires : goal.push_digits-requires
push_digits-requires t c = (omega arith, omega (arith, c.requires, decimal_longer c.args.n c.if-n-lt10.false))

pub push-requires-2 : goal.push-requires-2
push-requires-2 t c = omega (arith, c.requires, c.push_digits.ensures, decimal_longer c.args.n c.if-n-lt10.false)

pub returns : goal.returns
returns t c =
    let n = c.args.n in let h = c.if-n-lt10.false in
    said (sym (decimal_more n h)) (omega (arith, decimal_longer n h)) (then c.push_digits.ensures c.push-2.ensures)
