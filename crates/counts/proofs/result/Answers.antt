-- `counts::result` meets its contract. Assumes nothing.
use Rattle.sequences.proofs.Basics.{sym}
use Rattle.refusal.proofs.Rows.{accepted}
use Rattle.counts.proofs.Counts.{record_refused, record_accepted}
use Rattle.counts.proofs.result.Goals as goal

pub returns-then-not-is_planned : goal.returns-then-not-is_planned
returns-then-not-is_planned c = record { answer = sym (simp (record_refused c.args.plan (search accepted))) }

pub returns : goal.returns
returns c = record { answer = sym (simp (record_accepted c.args.plan (search accepted), ← c.result_in.ensures)) }
