-- `turn::turn_of` meets its contract. Assumes nothing.
use Rattle.sequences.proofs.Basics.{sym, ◌∙◌, mod-lt, arith}
use Rattle.turn.proofs.Index.{housed_pos}
use Rattle.turn.proofs.Calls.{refused, accepted}
use Rattle.turn.proofs.turn_of.Goals as goal

pub returns-then-not-is_housed : goal.returns-then-not-is_housed
returns-then-not-is_housed c = refused c.args.t c.args.l (sym c.is_housed.ensures ∙ c.if-not-is_housed.true)

pub nonzero_rem-t : goal.nonzero_rem-t
nonzero_rem-t c = housed_pos c.args.l (sym c.is_housed.ensures ∙ c.if-not-is_housed.false)

pub overflow_cast-t : goal.overflow_cast-t
overflow_cast-t c = omega (arith, mod-lt c.args.t (housed_pos c.args.l (sym c.is_housed.ensures ∙ c.if-not-is_housed.false)))

pub looked-requires : goal.looked-requires
looked-requires c =
    let served = sym c.is_housed.ensures ∙ c.if-not-is_housed.false in
    record { divides = served; below = mod-lt c.args.t (housed_pos c.args.l served) }

pub returns : goal.returns
returns c = accepted c.args.t c.args.l c.looked.result (sym c.is_housed.ensures ∙ c.if-not-is_housed.false) c.looked.ensures
