-- `read_radices` reads the radices of a text. The invariant: what has been read and what is left give them. Assumes nothing.
use Rattle.sequences.proofs.Basics.{◌≡◌, ◌≤◌, length, drop}
use Rattle.tokens.specs.Tokens.{radices}
use Rattle.tokens.specs.Reading.{room}
use Rattle.tokens.proofs.Reading.{gives}
use Rattle.tokens.proofs.inner.tokens.read_radices.Given as goal

abbrev pub invariant-loop-b : goal.invariant-loop-b
invariant-loop-b l = record {
  few : room l.reading ≤ l.b-index;
  long : length l.reading.list ≡ 2048;
  all : gives l.reading (drop l.b-index l.text) ≡ radices l.text;
}
