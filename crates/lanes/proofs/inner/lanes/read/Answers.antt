-- `lanes::inner::lanes::read` meets its contract. Assumes nothing.
use Rattle.sequences.proofs.Basics.{◌≡◌, ◌∙◌, ap, ◌+◌, ◌-◌, ◌*◌, arith, eq-eqb, ne_eqb}
use Rattle.floats.specs.Complexes.{cell}
use Rattle.lanes.specs.Parts.{slot}
use Rattle.lanes.proofs.inner.lanes.read.Goals as goal

pub returns-then-this-eq4 : goal.returns-then-this-eq4
returns-then-this-eq4 g c = let a = c.args in λ lent f. c.twiddled.ensures lent (λ q l lq.
    let place : a.j + (q - 1) * 4 ≡ slot g.row.N a.r a.j q = rw (eq-eqb g.row.N 4 c.if-this-eq4.true) (omega arith) in
    ap (cell a.tw.now) place ∙ f q l lq)

pub returns-else-this-eq4 : goal.returns-else-this-eq4
returns-else-this-eq4 g c = let a = c.args in λ lent f. c.twiddled-else-this-eq4.ensures lent (λ q l lq.
    let place : a.j * (a.r - 1) + (q - 1) * 1 ≡ slot g.row.N a.r a.j q = rw (ne_eqb g.row.N 4 c.if-this-eq4.false) (omega arith) in
    ap (cell a.tw.now) place ∙ f q l lq)
