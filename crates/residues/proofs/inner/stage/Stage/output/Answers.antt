-- `residues::inner::stage::Stage::output` meets its contract. Assumes nothing.
use Rattle.sequences.proofs.Basics.{◌≡◌, refl, ap, ◌∙◌, ◌+◌, ◌-◌, mod-lt, arith}
use Rattle.schedule.specs.Stage.{plain, total}
use Rattle.residues.proofs.Iteration.{term_next}
use Rattle.residues.proofs.inner.stage.Stage.output.Goals as goal

pub loop-q-init : goal.loop-q-init
unfolding total
loop-q-init g c = (c.requires.2 0 (omega arith), refl)

pub loop-q-preserved : goal.loop-q-preserved
loop-q-preserved g c =
    let l = c.loop-q in
    let s = c.args.self.now in
    let e : l.q + 1 - 1 ≡ l.q = omega arith in (
      mod-lt _ (omega (arith, s.lent.modulus.two)),
      rw e (term_next s.modulus g.row.R c.args.p l.q c.args.c.now s.turns l.sum l.auto.q l.invariant.1),
    )

pub returns : goal.returns
unfolding plain
returns g c =
    let e : c.loop-q.q - 1 ≡ g.row.R - 1 = omega arith in
    (c.loop-q.invariant.0, c.loop-q.invariant.1 ∙ ap (total _ _ _ _) e)
