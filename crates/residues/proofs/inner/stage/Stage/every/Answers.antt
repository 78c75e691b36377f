-- `residues::inner::stage::Stage::every` meets its contract. Assumes nothing.
use Rattle.sequences.proofs.Basics.{◌≡◌, ◌∙◌, ◌+◌, ◌*◌, ◌%◌, ◌<◌, arith, length, get_or-set_same, get_or-set_other}
use Rattle.schedule.proofs.Fill.{every_next}
use Rattle.residues.proofs.Arms.{steps_apart}
use Rattle.residues.proofs.inner.stage.Stage.every.Goals as goal

pub loop-k-preserved : goal.loop-k-preserved
loop-k-preserved g c =
    let a = c.args in
    let s = a.self.now in
    let l = c.loop-k in
    let p = a.b + 2 * l.k in
    let at = a.to + p * s.stride in
    let early : p < g.row.R = omega arith in
    let room : at < length l.dst = omega (arith, c.requires.0.writes p early) in
    let parity : p % 2 ≡ a.b = omega arith in
    let next : a.b + 2 * (l.k + 1) ≡ p + 2 = omega arith in
    rw next
    (every_next (steps_apart a.to s.stride s.lent.stride) a.b p parity (get_or-set_same l.dst at _ 0 room ∙ c.output.ensures.1)
    (λ k f. get_or-set_other l.dst at k _ 0 f) l.invariant)
