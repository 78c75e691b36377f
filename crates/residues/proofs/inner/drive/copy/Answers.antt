-- `residues::inner::drive::copy` meets its contract. Assumes nothing.
use Rattle.sequences.proofs.Basics.{sym, ◌∙◌, arith, length-set, get_or, refl, ext_get_or}
use Rattle.sequences.proofs.Tables.{set_more}
use Rattle.residues.proofs.inner.drive.copy.Goals as goal

pub loop-i-init : goal.loop-i-init
loop-i-init c = (c.requires, (omega arith, λ q l. absurd (omega arith)))

pub loop-i-preserved : goal.loop-i-preserved
loop-i-preserved c = let a = c.args in let l = c.loop-i in (
  length-set l.dst l.i (get_or a.src.now l.i 0) ∙ l.invariant.0,
  (
    omega (arith, c.loop-i-test.true),
    set_more (λ q. get_or a.src.now q 0) l.dst l.i _ 0 (omega (arith, c.loop-i-test.true, l.invariant.0)) refl l.invariant.1.1,
  ),
)

pub shape_of-dst : goal.shape_of-dst
shape_of-dst c = c.loop-i.invariant.0 ∙ sym c.requires

pub returns : goal.returns
returns c = let a = c.args in let l = c.loop-i in ext_get_or 0 l.dst a.src.now l.invariant.0 (λ q lq. l.invariant.1.1 q (omega (
  arith,
  c.loop-i-test.false,
  l.invariant.0,
)))
