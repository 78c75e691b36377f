-- `entry` meets its promise: past 13 entries there is none. Assumes nothing.
use Rattle.sequences.proofs.Basics.{sym, get_or-eq_default, rules}
use Rattle.ladlespindle.proofs.entry.Goals as goal

pub returns-else-at-lt13 : goal.returns-else-at-lt13
returns-else-at-lt13 c = sym (get_or-eq_default c.args.entries 0 (search rules))
