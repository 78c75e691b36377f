-- `float_stage::inner::stage::later_stage` meets its contract. Assumes nothing.
use Rattle.sequences.proofs.Basics.{◌≡◌, ap, ◌∙◌, arith, false, length}
use Rattle.kernel.specs.Floats.{lent_at}
use Rattle.kernel.specs.Parts.{output_of}
use Rattle.storing.specs.Parts.{Done, Placed}
use Rattle.storing.proofs.Batches.{even_fours}
use Rattle.float_stage.proofs.Rounds.{placed_first, whole_fours, from_fours}
use Rattle.float_stage.proofs.inner.stage.later_stage.Goals as goal
use Rattle.float_stage.proofs.inner.stage.later_stage.Goals.{Joined-end-gt0, then-end-gt0, else-end-gt0}

-- what is there once the whole lanes of 4 are done
in-lanes : (c : Joined-end-gt0) → (length c.if-end-gt0.dst ≡ length c.args.dst.now)
    × Placed c.evenly-even.result c.in_fours-end.result c.args.s
    c.args.r c.if-end-gt0.at.block c.if-end-gt0.at.col
    × Done c.args.s c.args.r
    (output_of false c.args.m c.args.r
    c.args.src.now
    (lent_at c.args.m c.args.r
    c.args.w c.args.tw.now)) c.if-end-gt0.dst
    c.in_fours-end.result
in-lanes c =
    let a = c.args in
    let n = c.in_fours-end in
    let e = c.evenly-even in
    elim c.if-end-gt0.branch [
      | then-end-gt0 w ↦ (
        ap length w.dst-is ∙ w.by_fours-at.auto.dst,
        rw w.at-is w.by_fours-at.ensures.0,
        rw w.dst-is (from_fours a.w a.m a.s a.r a.src.now a.tw.now w.by_fours-at.new.dst n.ensures.2 w.by_fours-at.ensures.1),
      )
      | else-end-gt0 w ↦
          let none : n.result ≡ 0 = omega (arith, w.if-end-gt0.false) in (
            ap length w.dst-is,
            rw (w.at-is, none) (placed_first e.result a.s a.r a.s e.ensures.1 c.requires.3.stride),
            λ i p li lp. absurd (omega (arith, none)),
          )
    ]

pub by_fours-at-requires : goal.by_fours-at-requires
by_fours-at-requires c = let e = c.evenly-even.ensures in let n = c.in_fours-end.ensures in let f = whole_fours c.args.w c.args.m n.1 n.2 in
    (c.requires.0, c.requires.1.lent, c.requires.3, e.0, e.1, f.0, f.1, c.requires.1.later)

pub by_sixteens-requires : goal.by_sixteens-requires
by_sixteens-requires c = let a = c.args in let e = c.evenly-even in let n = c.in_fours-end in let f = whole_fours a.w a.m n.ensures.1 n.ensures.2 in let j
    = in-lanes (goal.at.by_sixteens-requires c).Joined-end-gt0 in (
      c.requires.0,
      c.requires.1,
      c.requires.2,
      rw j.0 c.requires.3,
      e.ensures.0,
      e.ensures.1,
      n.ensures.0,
      λ x. omega (arith, n.ensures.1 x),
      even_fours e.result a.s n.result e.ensures.1 f.1,
      j.1,
    )

pub shape_of-dst-then-end-m : goal.shape_of-dst-then-end-m
shape_of-dst-then-end-m c = c.by_sixteens.auto.dst ∙ (in-lanes (goal.at.shape_of-dst-then-end-m c).Joined-end-gt0).0

pub returns-then-end-m : goal.returns-then-end-m
returns-then-end-m c = c.by_sixteens.ensures (in-lanes (goal.at.returns-then-end-m c).Joined-end-gt0).2

pub shape_of-dst-else-end-m : goal.shape_of-dst-else-end-m
shape_of-dst-else-end-m c = (in-lanes (goal.at.shape_of-dst-else-end-m c).Joined-end-gt0).0

pub returns-else-end-m : goal.returns-else-end-m
returns-else-end-m c = λ i p li lp. (in-lanes (goal.at.returns-else-end-m c).Joined-end-gt0).2 i p (omega (arith, c.if-end-m.false)) lp
