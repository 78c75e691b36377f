-- `counts::stage_twiddles` meets its contract. Assumes nothing.
use Rattle.sequences.proofs.Basics.{sym, arith}
use Rattle.refusal.proofs.Rows.{accepted}
use Rattle.counts.proofs.Counts.{record_refused, record_accepted}
use Rattle.counts.proofs.stage_twiddles.Goals as goal

pub returns-then-not-is_planned : goal.returns-then-not-is_planned
returns-then-not-is_planned c = record { answer = sym (simp (record_refused c.args.plan (search accepted))) }

pub twiddle_start-requires : goal.twiddle_start-requires
twiddle_start-requires c = (search accepted, omega arith)

pub returns : goal.returns
returns c = record {
  answer =
      sym (simp (record_accepted c.args.plan (search accepted), ← c.twiddle_start.ensures));
}
