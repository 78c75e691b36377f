-- `spectrum::inner::check::numbers` meets its contract. Assumes nothing.
use Rattle.sequences.proofs.Basics.{refl, ◌+◌, ◌<◌, arith, ◌++◌, length, length-append}
use lib.Ieee.{of_bits}
use Rattle.refusal.proofs.Rows.{deciding}
use Rattle.spectrum.specs.Calls.{number_verdict}
use Rattle.spectrum.proofs.Verdicts.{in_stages, in_ends, all_fit}
use Rattle.spectrum.proofs.inner.check.numbers.Goals as goal

pub returns-in-Some : goal.returns-in-Some
unfolding number_verdict
returns-in-Some c = λ k e. let large = c.in-Some.ensures k e in search (deciding, large.0, large.1)

pub returns-in-Some-first_unfit : goal.returns-in-Some-first_unfit
unfolding of_bits number_verdict
returns-in-Some-first_unfit c = λ k e.
    let t = c.args.tables in let none = c.in_default.ensures k e in let wide = c.in-Some-first_unfit.ensures 0 refl in
    let at = in_stages t.stage_twiddles.now t.end_twiddles.now _ wide.0 wide.1 in
    search (deciding, none, at.0, at.1)

pub returns-in-Some-first_unfit-2 : goal.returns-in-Some-first_unfit-2
unfolding of_bits number_verdict
returns-in-Some-first_unfit-2 c = λ k e.
    let t = c.args.tables in let none = c.in_default.ensures k e in let last = c.in-Some-first_unfit-2.ensures 0 refl in
    let at = in_ends t.stage_twiddles.now t.end_twiddles.now _ refl (c.in_default-first_unfit.ensures 0 refl) _ last.0 in
    let inside : length t.stage_twiddles.now + c.in-Some-first_unfit-2.last < length (t.stage_twiddles.now ++ t.end_twiddles.now) =
    omega (arith, last.1, length-append t.stage_twiddles.now t.end_twiddles.now) in
    search (deciding, none, at, inside)

pub returns : goal.returns
unfolding of_bits number_verdict
returns c = λ k e.
    let t = c.args.tables in let none = c.in_default.ensures k e in
    let fit = all_fit t.stage_twiddles.now t.end_twiddles.now (c.in_default-first_unfit.ensures 0 refl) (c.in_default-first_unfit-2.ensures 0 refl) in
    search (deciding, none, fit)

pub overflow_add-result : goal.overflow_add-result
unfolding of_bits
overflow_add-result c = let last = c.in-Some-first_unfit-2.ensures 0 refl in omega (arith, last.1)
