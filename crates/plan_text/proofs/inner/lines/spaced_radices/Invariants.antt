-- `spaced_radices` adds the radices in turn. The invariant: those passed are added. Assumes nothing.
use Rattle.sequences.proofs.Basics.{◌*◌, map, take}
use Rattle.text.specs.Lines.{decimal, spaced}
use Rattle.text.specs.Growing.{Adds}
use Rattle.plan_text.proofs.inner.lines.spaced_radices.Given as goal

abbrev pub invariant-loop-radix : goal.invariant-loop-radix
invariant-loop-radix l = Adds l.initial.text (spaced (map decimal (take l.radix-index l.radices))) (4 * l.radix-index) l.text
