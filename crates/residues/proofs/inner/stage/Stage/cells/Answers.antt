-- `residues::inner::stage::Stage::cells` meets its contract. Assumes nothing.
use Rattle.sequences.proofs.Basics.{◌≡◌, ◌∙◌, arith, get_or-replicate, length-replicate, length-set}
use Rattle.powers.proofs.Powers.{power_one, next_power}
use Rattle.residues.proofs.Iteration.{read_first, read_scaled}
use Rattle.sequences.proofs.Tables.{set_more}
use Rattle.residues.proofs.inner.stage.Stage.cells.Goals as goal

pub loop-q-init : goal.loop-q-init
loop-q-init g c =
    let a = c.args in
    let m = a.self.now.modulus in
    let h = c.requires in
    let first = read_first m a.v a.self.now.apart a.src.now a.i (h.cells a.i (omega (arith, h.reads 0 (omega (arith, h.some))))) in (
      length-replicate g.row.R _,
      power_one a.v m h.power,
      λ k l. let e : k ≡ 0 = omega arith in rw e (get_or-replicate g.row.R 0 _ 0 (omega (arith, h.some)) ∙ first),
    )

pub loop-q-preserved : goal.loop-q-preserved
loop-q-preserved g c =
    let a = c.args in
    let m = a.self.now.modulus in
    let l = c.loop-q in (
      rw length-set l.invariant.0,
      next_power a.v m l.q l.power l.invariant.1,
      set_more _ l.cells l.q _ 0 (omega arith) (read_scaled m a.v a.self.now.apart a.src.now a.i l.q l.power l.invariant.1) l.invariant.2,
    )
