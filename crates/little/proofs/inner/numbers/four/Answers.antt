-- `four` is the number of four bytes: that of two, and that of the two above them. Assumes nothing.
use Rattle.sequences.proofs.Basics.{◌≡◌, ap, ℕ, ◌+◌, arith, get_or}
use Rattle.little.specs.Numbers.{number_at}
use Rattle.little.proofs.inner.numbers.four.Goals as goal

pub overflow_mul-result : goal.overflow_mul-result
overflow_mul-result c = omega (arith, c.two-2.ensures.small)

pub overflow_add-result : goal.overflow_add-result
overflow_add-result c = omega (arith, c.two.ensures.small, c.two-2.ensures.small)

pub returns : goal.returns
unfolding number_at
returns c = let a = c.args in let bs = a.bytes.now in let third : get_or bs (a.i + 1 + 1) 0 ≡ get_or bs (a.i + 2) 0 = ap (λ (k : ℕ). get_or bs k 0) (omega
    arith) in
    let last : get_or bs (a.i + 1 + 1 + 1) 0 ≡ get_or bs (a.i + 2 + 1) 0 = ap (λ (k : ℕ). get_or bs k 0) (omega arith) in
    record {
      answer = omega (arith, c.two.ensures.answer, c.two-2.ensures.answer, third, last);
      small = omega (arith, c.two.ensures.small, c.two-2.ensures.small);
    }
