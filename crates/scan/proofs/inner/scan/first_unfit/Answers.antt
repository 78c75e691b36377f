-- `scan::inner::scan::first_unfit` meets its contract. Assumes nothing.
use Rattle.sequences.proofs.Basics.{sym, ap, subst, ◌∙◌, zero-add, le_of_eq, arith, not, rules}
use Rattle.scan.specs.Scan.{within, Passed}
use Rattle.sequences.proofs.First.{first_here, first_none}
use Rattle.scan.proofs.Scan.{first_pass, first_unfit_lem, power_below}
use Rattle.scan.proofs.Squares.{squares_tell}
use lib.Ieee.{Float, nan}
use Rattle.scan.proofs.inner.scan.first_unfit.Goals as goal
use Rattle.scan.proofs.inner.scan.first_unfit.Goals.{then-b, else-b}

pub loop-i-init : goal.loop-i-init
loop-i-init c = let a = c.args in elim c.if-b.branch [
  | then-b w ↦ (
    omega (arith, w.passed_to_end-i.ensures.0, w.i-is),
    λ k e. subst (Passed a.b a.xs.now) (sym w.i-is)
        (w.passed_to_end-i.ensures.1 (rw e (squares_tell k (omega (arith, power_below a.b k e w.if-b.true))))),
  )
  | else-b w ↦ (omega (arith, w.i-is), λ k e. subst (Passed a.b a.xs.now) (sym w.i-is) (sym (zero-add _)))
]

pub loop-i-preserved : goal.loop-i-preserved
loop-i-preserved c = let l = c.loop-i in let a = c.args in (
  search rules,
  λ k e. first_pass (within a.b) a.xs.now l.i (search rules) (sym c.within.ensures ∙ c.if-not-within.false) (l.invariant.1 k e),
)

pub returns-then-i-xs : goal.returns-then-i-xs
returns-then-i-xs c = let a = c.args in let l = c.loop-i in
    λ k e. le_of_eq (first_unfit_lem a.b a.xs.now _ (sym (first_none (λ (x : Float). not (within a.b x)) a.xs.now l.i (search rules) (search rules)
    (l.invariant.1 k e))) k e)

pub returns-then-not-within : goal.returns-then-not-within
returns-then-not-within c = let l = c.loop-i in let a = c.args in
    λ k e. (
      first_unfit_lem a.b a.xs.now _ (sym (first_here nan (λ (x : Float). not (within a.b x)) a.xs.now l.i (search rules)
          (ap not (sym c.within.ensures ∙ c.if-not-within.true)) (l.invariant.1 k e))) k e,
      search rules,
    )
