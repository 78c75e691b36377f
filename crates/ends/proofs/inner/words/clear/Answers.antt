-- `ends::inner::words::clear` meets its contract. Assumes nothing.
use Rattle.sequences.proofs.Basics.{get_or-replicate}
use Rattle.sequences.proofs.Tables.{table_all}
use lib.Ieee.{nan}
use Rattle.turn.specs.Turns.{+0}
use Rattle.ends.proofs.inner.words.clear.Goals as goal

pub returns : goal.returns
returns c = let f = c.fill in table_all (λ j. +0) f.new.self _ nan f.ensures.len (λ j l. rw (f.ensures.after (λ y e. e)) (get_or-replicate _ _ _ _ l))
