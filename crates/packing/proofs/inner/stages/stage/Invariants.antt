-- `packing::inner::stages::stage` meets its contract. Assumes nothing.
use Rattle.sequences.proofs.Basics.{◌≡◌, length}
use lib.Ieee.{nan}
use Rattle.packing.specs.Twiddles.{twiddle}
use Rattle.packing.proofs.Fill.{Placed}
use Rattle.packing.proofs.inner.stages.stage.Given as goal

abbrev pub invariant-loop-i : goal.invariant-loop-i
invariant-loop-i l =
    (length l.out ≡ length l.initial.out) × Placed nan l.packing.iterations l.packing.radix l.packing.width (twiddle l.s l.packing.radix) l.out l.i
