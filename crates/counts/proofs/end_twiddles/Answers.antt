-- `counts::end_twiddles` meets its contract. Assumes nothing.
use Rattle.sequences.proofs.Basics.{sym, arith}
use Rattle.refusal.proofs.Rows.{accepted}
use Rattle.counts.proofs.Counts.{record_refused, record_accepted}
use Rattle.plan.proofs.Bounds.{plan_half, plan_sized}
use Rattle.counts.proofs.end_twiddles.Goals as goal

pub returns-then-not-is_planned : goal.returns-then-not-is_planned
returns-then-not-is_planned c = record { answer = sym (simp (record_refused c.args.plan (search accepted))) }

pub end_count-requires : goal.end_count-requires
end_count-requires c = let h = plan_half c.args.plan (search accepted) in let s = plan_sized c.args.plan (search accepted) in
    omega (arith, h, s.twice)

pub returns : goal.returns
returns c = record { answer = sym (simp (record_accepted c.args.plan (search accepted), ← c.end_count.ensures)) }
