-- `scan::inner::scan::all_within` meets its contract. Assumes nothing.
use Rattle.sequences.proofs.Basics.{◌≡◌, sym, subst, ◌∙◌, ◌+◌, arith, false≢true}
use Rattle.scan.specs.Scan.{AllWithin}
use Rattle.scan.proofs.Scan.{within_next}
use Rattle.scan.proofs.inner.scan.all_within.Goals as goal
use Rattle.scan.proofs.inner.scan.all_within.Goals.{then-not-x-bb, else-not-x-bb}

pub loop-k-init : goal.loop-k-init
loop-k-init c = λ t q k l. absurd (omega arith)

pub loop-k-preserved : goal.loop-k-preserved
loop-k-preserved c = let a = c.args in let l = c.loop-k in
    λ t q. elim c.if-not-x-bb.branch [
      | then-not-x-bb w ↦ absurd (false≢true (sym w.all-is ∙ t))
      | else-not-x-bb w ↦ within_next a.b a.xs.now a.i l.k (q _ (c.type_inv.xs (a.i + l.k)) w.if-not-x-bb.false) (l.invariant (sym w.all-is ∙ t) q)
    ]

pub returns : goal.returns
returns c = let a = c.args in let l = c.loop-k in let e : l.k ≡ 64 = omega arith in
    λ t q. subst (AllWithin a.b a.xs.now a.i) e (l.invariant t q)
