-- `turn::inner::kernel::kernel_turn` meets its contract. Assumes nothing.
use Rattle.sequences.proofs.Basics.{◌≡◌, refl, ◌∙◌, ◌*◌, ◌%◌, arith}
use Rattle.turn.proofs.Kernel.{opened, small, told, whole, evenly}
use Rattle.turn.proofs.inner.kernel.kernel_turn.Goals as goal
use Rattle.turn.proofs.inner.kernel.kernel_turn.Goals.{in_default-via-in-3+in_default, in_default-via-in-5+in_default, in_default-via-in-7+in_default}
use Rattle.turn.proofs.inner.kernel.kernel_turn.Goals.{in_default-via-in-8+in_default, in_default-via-in_default}

pub overflow_mul-t : goal.overflow_mul-t
overflow_mul-t c = omega (arith, small c.requires)

pub returns-in-3-eq1 : goal.returns-in-3-eq1
unfolding opened
returns-in-3-eq1 c = told _ _ 1 3 _ refl c.in-3-eq1.is-0 c.in-3-eq1.is-1

pub returns-in-3-eq2 : goal.returns-in-3-eq2
unfolding opened
returns-in-3-eq2 c = told _ _ 2 3 _ refl c.in-3-eq2.is-0 c.in-3-eq2.is-1

pub returns-in-5-eq1 : goal.returns-in-5-eq1
unfolding opened
returns-in-5-eq1 c = told _ _ 1 5 _ refl c.in-5-eq1.is-0 c.in-5-eq1.is-1

pub returns-in-5-eq2 : goal.returns-in-5-eq2
unfolding opened
returns-in-5-eq2 c = told _ _ 2 5 _ refl c.in-5-eq2.is-0 c.in-5-eq2.is-1

pub returns-in-5-eq3 : goal.returns-in-5-eq3
unfolding opened
returns-in-5-eq3 c = told _ _ 3 5 _ refl c.in-5-eq3.is-0 c.in-5-eq3.is-1

pub returns-in-5-eq4 : goal.returns-in-5-eq4
unfolding opened
returns-in-5-eq4 c = told _ _ 4 5 _ refl c.in-5-eq4.is-0 c.in-5-eq4.is-1

pub returns-in-7-eq1 : goal.returns-in-7-eq1
unfolding opened
returns-in-7-eq1 c = told _ _ 1 7 _ refl c.in-7-eq1.is-0 c.in-7-eq1.is-1

pub returns-in-7-eq2 : goal.returns-in-7-eq2
unfolding opened
returns-in-7-eq2 c = told _ _ 2 7 _ refl c.in-7-eq2.is-0 c.in-7-eq2.is-1

pub returns-in-7-eq3 : goal.returns-in-7-eq3
unfolding opened
returns-in-7-eq3 c = told _ _ 3 7 _ refl c.in-7-eq3.is-0 c.in-7-eq3.is-1

pub returns-in-7-eq4 : goal.returns-in-7-eq4
unfolding opened
returns-in-7-eq4 c = told _ _ 4 7 _ refl c.in-7-eq4.is-0 c.in-7-eq4.is-1

pub returns-in-7-eq5 : goal.returns-in-7-eq5
unfolding opened
returns-in-7-eq5 c = told _ _ 5 7 _ refl c.in-7-eq5.is-0 c.in-7-eq5.is-1

pub returns-in-7-eq6 : goal.returns-in-7-eq6
unfolding opened
returns-in-7-eq6 c = told _ _ 6 7 _ refl c.in-7-eq6.is-0 c.in-7-eq6.is-1

pub returns-in-8-eq1 : goal.returns-in-8-eq1
unfolding opened
returns-in-8-eq1 c = told _ _ 1 8 _ refl c.in-8-eq1.is-0 c.in-8-eq1.is-1

pub returns-in-8-eq3 : goal.returns-in-8-eq3
unfolding opened
returns-in-8-eq3 c = told _ _ 3 8 _ refl c.in-8-eq3.is-0 c.in-8-eq3.is-1

pub returns-in-8-eq5 : goal.returns-in-8-eq5
unfolding opened
returns-in-8-eq5 c = told _ _ 5 8 _ refl c.in-8-eq5.is-0 c.in-8-eq5.is-1

pub returns-in-8-eq7 : goal.returns-in-8-eq7
unfolding opened
returns-in-8-eq7 c = told _ _ 7 8 _ refl c.in-8-eq7.is-0 c.in-8-eq7.is-1

pub returns-in_default : goal.returns-in_default
returns-in_default c = c.quarters.ensures ∙ whole c.args.t c.args.r c.requires rest
  where
    rest : 4 * c.args.t % c.args.r ≡ 0
    rest = elim c.in_default.branch [
      | in_default-via-in-3+in_default w ↦ let below = c.requires.below in let h = w.in_default in rw h.is-0 (omega arith)
      | in_default-via-in-5+in_default w ↦ let below = c.requires.below in let h = w.in_default in rw h.is-0 (omega arith)
      | in_default-via-in-7+in_default w ↦ let below = c.requires.below in let h = w.in_default in rw h.is-0 (omega arith)
      | in_default-via-in-8+in_default w ↦ let below = c.requires.below in let h = w.in_default in rw h.is-0 (omega arith)
      | in_default-via-in_default w ↦ let h = w.in_default.is-0 in evenly c.args.t c.args.r c.requires (omega arith) (omega arith) (omega arith) (omega arith)
    ]
