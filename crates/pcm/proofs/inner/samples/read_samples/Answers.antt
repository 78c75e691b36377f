-- `pcm::inner::samples::read_samples` meets its contract. Assumes nothing.
use Rattle.sequences.proofs.Basics.{◌≡◌, sym, ap, ◌∙◌, ℕ, ◌+◌, ◌*◌, arith, length, rules}
use lib.Ieee.{nan}
use Rattle.sequences.proofs.Tables.{set_more, table_all}
use Rattle.little.specs.Numbers.{number_at}
use Rattle.little.proofs.Numbers.{number_two}
use Rattle.pcm.specs.Samples.{sample_of, samples_at}
use Rattle.pcm.proofs.inner.samples.read_samples.Goals as goal

pub loop-i-preserved : goal.loop-i-preserved
loop-i-preserved c = let l = c.loop-i in let a = c.args in
    set_more (λ (k : ℕ). sample_of (number_at 2 a.bytes.now (a.from + 2 * k))) l.output l.i _ nan (search rules)
    (c.sample.ensures ∙ ap sample_of (sym (number_two a.bytes.now (a.from + 2 * l.i)))) l.invariant

pub returns : goal.returns
unfolding samples_at
returns c = let l = c.loop-i in let a = c.args in let e : l.i ≡ length a.output.now = omega arith in
    table_all (λ (k : ℕ). sample_of (number_at 2 a.bytes.now (a.from + 2 * k))) l.output _ nan (omega arith) (rw e at l.invariant)
