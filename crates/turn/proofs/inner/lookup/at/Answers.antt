-- `turn::inner::lookup::at` meets its contract. Assumes nothing.
use Rattle.sequences.proofs.Basics.{◌≡◌, sym, ap, ◌∙◌, subst, ℕ, ◌%◌, arith}
use Rattle.house.proofs.Rule.{Some}
use Rattle.house.proofs.Entries.{Both, entry_fits}
use Rattle.house.specs.Entries.{entry_of}
use Rattle.house.specs.declared.inner.entries.Entry.{Entry}
use Rattle.turn.proofs.Lookup.{signed, signed_three, turn_whole, turn_general}
use Rattle.turn.proofs.inner.lookup.at.Goals as goal

fit : (index : ℕ) (e : Entry) → e ≡ entry_of index → (index % 1680 ≡ 0 → ⊥) → Both Some e
fit index e is h = subst (Both Some) (sym is) (entry_fits index h)

pub returns-then-index-eq0 : goal.returns-then-index-eq0
returns-then-index-eq0 c = c.quarters.ensures ∙ turn_whole c.args.index c.if-index-eq0.true

pub nearest-c-requires : goal.nearest-c-requires
nearest-c-requires c = (fit c.args.index c.unrounded-e.result c.unrounded-e.ensures c.if-index-eq0.false).0.1

pub nearest-s-requires : goal.nearest-s-requires
nearest-s-requires c = (fit c.args.index c.unrounded-e.result c.unrounded-e.ensures c.if-index-eq0.false).1.1

pub returns-in-0 : goal.returns-in-0
returns-in-0 c =
    ap (λ (q : ℕ). signed q c.nearest-c.result c.nearest-s.result) (sym c.in-0.is)
    ∙ turn_general c.args.index c.unrounded-e.result c.nearest-c.result c.nearest-s.result
    c.if-index-eq0.false c.unrounded-e.ensures c.nearest-c.ensures c.nearest-s.ensures

pub returns-in-1 : goal.returns-in-1
returns-in-1 c =
    ap (λ (q : ℕ). signed q c.nearest-c.result c.nearest-s.result) (sym c.in-1.is)
    ∙ turn_general c.args.index c.unrounded-e.result c.nearest-c.result c.nearest-s.result
    c.if-index-eq0.false c.unrounded-e.ensures c.nearest-c.ensures c.nearest-s.ensures

pub returns-in-2 : goal.returns-in-2
returns-in-2 c =
    ap (λ (q : ℕ). signed q c.nearest-c.result c.nearest-s.result) (sym c.in-2.is)
    ∙ turn_general c.args.index c.unrounded-e.result c.nearest-c.result c.nearest-s.result
    c.if-index-eq0.false c.unrounded-e.ensures c.nearest-c.ensures c.nearest-s.ensures

pub returns-in_default : goal.returns-in_default
returns-in_default c =
    signed_three c.unrounded-e.result.quarter c.nearest-c.result c.nearest-s.result (omega arith)
    ∙ turn_general c.args.index c.unrounded-e.result c.nearest-c.result c.nearest-s.result
    c.if-index-eq0.false c.unrounded-e.ensures c.nearest-c.ensures c.nearest-s.ensures
