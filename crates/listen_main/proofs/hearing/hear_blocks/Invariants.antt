-- `hear_blocks`: of the blocks heard some fan, and the buffers stay as long as they are.
use Rattle.std.proofs.Common.{◌≡◌, ◌*◌, ◌≤◌, length}
use Rattle.listen_main.proofs.hearing.hear_blocks.Given as goal

abbrev pub invariant-loop-blocks : goal.invariant-loop-blocks
invariant-loop-blocks l = (l.fanning ≤ l.blocks) × (length l.bytes ≡ 2 * l.setup.plan.n) × (length l.samples ≡ l.setup.plan.n)
