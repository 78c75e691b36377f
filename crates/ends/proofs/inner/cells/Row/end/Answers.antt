-- `ends::inner::cells::Row::end` meets its contract. Assumes nothing.
use Rattle.sequences.proofs.Basics.{ap, ◌∙◌, arith}
use Rattle.floats.specs.declared.complex.Complex.{Complex}
use Rattle.ends.proofs.Cells.{stepped_first, stepped_centre, stepped_all}
use Rattle.ends.proofs.inner.cells.Row.end.Goals as goal

pub pairs-k-requires : goal.pairs-k-requires
pairs-k-requires g c = (
  record { some = c.requires.0.some; few = c.requires.0.few; long = c.put_both.auto.cells ∙ c.requires.0.long; lent = c.requires.0.lent },
  c.requires.1,
)

pub put-requires : goal.put-requires
put-requires g c = omega (
  arith,
  c.pairs-k.auto.out,
  c.put_both.auto.cells,
  c.requires.0.long,
  c.if-k-self.true,
)

pub returns-then-k-self : goal.returns-then-k-self
returns-then-k-self g c = let a = c.args in let f = g.D.Direction.steps in let x = c.get-x.ensures in
    -- after the pairs
    let stepped = c.pairs-k.ensures.2 (stepped_first f a.self.h a.self.twiddles.now a.self.cells.now c.requires.0.some a.out.now c.requires.0.long _ _ _
    (c.first.ensures ∙ ap (λ (z : Complex). f.first z a.y) x ∙ c.requires.2.first)
    (c.last.ensures ∙ ap (λ (z : Complex). f.last z a.y) x ∙ c.requires.2.last) c.put_both.ensures) in
    stepped_centre f a.self.h a.self.twiddles.now a.self.cells.now _ _ stepped
    c.if-k-self.true _ _ (c.centre.ensures ∙ ap f.centre c.get-c.ensures) c.put.ensures

pub returns-else-k-self : goal.returns-else-k-self
returns-else-k-self g c = let a = c.args in let f = g.D.Direction.steps in let x = c.get-x.ensures in
    let stepped = c.pairs-k.ensures.2 (stepped_first f a.self.h a.self.twiddles.now a.self.cells.now c.requires.0.some a.out.now c.requires.0.long _ _ _
    (c.first.ensures ∙ ap (λ (z : Complex). f.first z a.y) x ∙ c.requires.2.first)
    (c.last.ensures ∙ ap (λ (z : Complex). f.last z a.y) x ∙ c.requires.2.last) c.put_both.ensures) in
    stepped_all f a.self.h a.self.twiddles.now a.self.cells.now _ _ stepped c.pairs-k.ensures.0 c.if-k-self.false
