-- `scan::inner::scan::passed` meets its contract. Assumes nothing.
use Rattle.sequences.proofs.Basics.{◌≡◌, ◌*◌, ◌+◌, ◌/◌, length, sym, subst, zero-add, arith}
use Rattle.scan.specs.Scan.{Passed}
use Rattle.scan.proofs.Scan.{pass_all}
use Rattle.scan.proofs.inner.scan.passed.Goals as goal

pub loop-block-init : goal.loop-block-init
loop-block-init c = λ q. sym (zero-add _)

pub loop-block-preserved : goal.loop-block-preserved
loop-block-preserved c = let l = c.loop-block in let a = c.args in
    let next : 64 * l.block + 64 ≡ 64 * (l.block + 1) = omega arith in
    λ q. subst (Passed a.b a.xs.now) next
    (pass_all a.b a.xs.now (64 * l.block) 64 (omega arith) (c.all_within.ensures c.if-not-all_within.false q) (l.invariant q))

pub returns : goal.returns
returns c = let l = c.loop-block in let a = c.args in
    let all : 64 * l.block ≡ length a.xs.now / 64 * 64 = omega arith in
    (omega arith, λ q. subst (Passed a.b a.xs.now) all (l.invariant q))
