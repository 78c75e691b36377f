-- `ends::inner::cells::Row::step` meets its contract. Assumes nothing.
use Rattle.sequences.proofs.Basics.{◌≡◌, ap, ◌∙◌, ◌+◌, ◌-◌, ◌*◌, arith, List, length, take, drop, length-take-le}
use lib.Ieee.{Float}
use Rattle.sequences.specs.Lists.{pasted}
use Rattle.floats.proofs.Flat.{cell_take}
use Rattle.ends.proofs.Batches.{end_length, end_cell_lem, stepped_batch}
use Rattle.ends.proofs.inner.cells.Row.step.Goals as goal

pub paste-requires : goal.paste-requires
paste-requires g c = let q = c.batch in
    omega (
      arith,
      length-take-le (2 * c.args.len) q.new.ahead (omega (arith, q.ensures.0, c.requires.0.short)),
      c.requires.0.some,
      c.requires.0.room,
      c.requires.1,
    )

pub returns : goal.returns
returns g c = let s = c.requires.0 in let q = c.batch in
    let n = c.args.len in let a = q.new.ahead in let b = q.new.back in
    let la : length a ≡ 64 = q.ensures.0 in
    let lb : length b ≡ 64 = q.ensures.1 in
    let em : 64 - (64 - 2 * n) ≡ 2 * n = omega (arith, s.short) in
    let ed : 64 - 2 * n ≡ 2 * (32 - n) = omega (arith, s.short) in
    λ p. stepped_batch g.D.Direction.steps c.args.self.h c.args.self.twiddles.now c.args.self.cells.now c.args.out.now
    c.args.k n a b (take (2 * n) a) (take (64 - (64 - 2 * n)) (drop (64 - 2 * n) b)) s.short s.room
    (length-take-le (2 * n) a (omega (arith, la, s.short))) (end_length b n _ _ s.short lb em ed) (cell_take a n)
    (end_cell_lem b n _ _ s.short lb em ed)
    q.ensures.2 p _ (c.paste-2.ensures
    ∙ ap (λ (l : List Float). pasted l (2 * (c.args.self.h - c.args.k - n + 1)) (take (64 - (64 - 2 * n)) (drop (64 - 2 * n) b))) c.paste.ensures)
