-- `push_level` adds the word for no power, or the tenths behind their sign. Assumes nothing.
use Rattle.sequences.proofs.Basics.{lit≤, eq-eqb, ne_eqb, lt-ltb, le-ltb, rules}
use Rattle.text.proofs.Growing.{said}
use Rattle.listen_text.specs.Lines.{level_text}
use Rattle.listen_text.proofs.inner.lines.push_level.Goals as goal

pub returns-then-level-eq0 : goal.returns-then-level-eq0
unfolding level_text
returns-then-level-eq0 c = said (search (rules, eq-eqb)) (lit≤ tt) c.extend_from_slice.ensures

pub returns-then-level-lt16000 : goal.returns-then-level-lt16000
unfolding level_text
returns-then-level-lt16000 c = said (search (rules, ne_eqb, lt-ltb)) (lit≤ tt) c.push_tenths.ensures

pub returns : goal.returns
unfolding level_text
returns c = said (search (rules, ne_eqb, le-ltb)) (lit≤ tt) c.push_tenths-2.ensures
