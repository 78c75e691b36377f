-- `floats::inner::words::paste` meets its contract. Assumes nothing.
use Rattle.sequences.proofs.Basics.{◌≡◌, ◌-◌, ◌≤◌, length, paste}
use Rattle.floats.proofs.inner.words.paste.Given as goal

abbrev pub invariant-loop-i : goal.invariant-loop-i
invariant-loop-i l = (length l.dst ≡ length l.initial.dst) × (l.i ≤ length l.src) × (l.dst ≡ paste l.initial.dst l.at l.src l.i)
