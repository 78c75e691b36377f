-- `number_of`: the digits so far make a number, and those that are left go on from it.
use Rattle.sequences.proofs.Basics.{◌≡◌, ◌^◌, ◌<◌, ◌≤◌, length, drop}
use Rattle.listen_words.specs.Words.{digits_from, number_of}
use Rattle.listen_words.proofs.inner.words.number_of.Given as goal

abbrev pub invariant-loop-b : goal.invariant-loop-b
invariant-loop-b l = (length l.word ≤ 9) × (l.value < 10 ^ l.b-index) × (number_of l.word ≡ digits_from l.value (drop l.b-index l.word))
