-- `pcm::inner::samples::write_samples` meets its contract. Assumes nothing.
use Rattle.sequences.proofs.Basics.{arith, length-set, get_or, paste-zero}
use lib.Ieee.{nan}
use Rattle.pcm.specs.Samples.{sample_bytes}
use Rattle.pcm.proofs.Bytes.{all_fit, bytes_next, bytes_all}
use Rattle.pcm.proofs.Theorems.{word_below}
use Rattle.pcm.proofs.inner.samples.write_samples.Goals as goal

pub loop-i-init : goal.loop-i-init
loop-i-init c = let a = c.args in paste-zero a.bytes.now a.from (sample_bytes a.xs.now)

pub word-v-requires : goal.word-v-requires
word-v-requires c = all_fit c.args.xs.now c.requires.1 c.loop-i.i (omega arith)

pub overflow_cast-bytes-in-loop-i : goal.overflow_cast-bytes-in-loop-i
overflow_cast-bytes-in-loop-i c = let xs = c.args.xs.now in omega (arith, c.word-v.ensures, word_below (get_or xs c.loop-i.i nan))

pub bounds-bytes-at-in-loop-i : goal.bounds-bytes-at-in-loop-i
bounds-bytes-at-in-loop-i c = simp length-set (omega arith)

pub loop-i-preserved : goal.loop-i-preserved
loop-i-preserved c = let l = c.loop-i in
    bytes_next c.args.bytes.now c.args.from c.args.xs.now c.requires.0 l.i _ l.bytes (omega arith) c.word-v.ensures l.invariant

pub returns : goal.returns
returns c = let l = c.loop-i in bytes_all c.args.bytes.now c.args.from c.args.xs.now c.requires.0 l.i l.bytes (omega arith) l.invariant
