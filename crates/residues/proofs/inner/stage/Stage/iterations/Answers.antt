-- `residues::inner::stage::Stage::iterations` meets its contract. Assumes nothing.
use Rattle.sequences.proofs.Basics.{refl, ◌∙◌, arith}
use Rattle.residues.proofs.Stage.{standing_first, standing_next, standing_block, reading, writing, made_next}
use Rattle.residues.proofs.inner.stage.Stage.iterations.Goals as goal
use Rattle.residues.proofs.inner.stage.Stage.iterations.Goals.{then-column-self, else-column-self}

pub loop-i-init : goal.loop-i-init
loop-i-init g c =
    let s = c.args.self.now in
    (refl, standing_first s.modulus s.step s.stride g.row.R s.lent.stride s.lent.modulus.two, λ i p l. absurd (omega arith))

pub iteration-requires : goal.iteration-requires
iteration-requires g c =
    let l = c.loop-i in
    let lent = c.args.self.now.lent in
    let h = c.requires in
    (reading h lent l.invariant.1 c.loop-i-test.true, rw l.invariant.0 (writing h lent l.invariant.1 c.loop-i-test.true))

pub loop-i-preserved : goal.loop-i-preserved
loop-i-preserved g c =
    let s = c.args.self.now in
    let l = c.loop-i in
    let o = c.iteration in
    let w = l.invariant.1 in (
      o.auto.dst ∙ l.invariant.0,
      elim c.if-column-self.branch [
        | then-column-self b ↦ rw (b.block-is, b.column-is, b.v-is)
            (standing_block s.modulus s.step s.stride g.row.R s.lent.stride w s.lent.modulus.two b.if-column-self.true)
        | else-column-self b ↦ rw (b.block-is, b.column-is, b.v-is)
            (standing_next s.modulus s.step s.stride g.row.R s.lent.stride w b.if-column-self.false)
      ],
      made_next c.requires s.lent w l.dst o.new.dst o.ensures l.invariant.2,
    )
