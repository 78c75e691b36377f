-- `float_stage::inner::stage::by_fours` meets its contract. Assumes nothing.
use Rattle.sequences.proofs.Basics.{◌≡◌, refl, ◌+◌, ◌≤◌, arith}
use Rattle.storing.proofs.Batches.{even_fours, even_none}
use Rattle.float_stage.proofs.Widths.{past_room, four_part}
use Rattle.float_stage.proofs.Rounds.{placed_first, round_asks, round_next}
use Rattle.float_stage.proofs.inner.stage.by_fours.Goals as goal

pub loop-i-init : goal.loop-i-init
loop-i-init c =
    let a = c.args in
    let p = c.requires in (
      refl,
      record {
        fits = omega arith;
        size = refl;
        pairs =
            record {
              size_ra = c.new-low.ensures.0;
              size_ia = c.new-low.ensures.1;
              size_rb = c.new-high.ensures.0;
              size_ib = c.new-high.ensures.1;
            };
        even = even_none a.even a.s p.4;
        placed = placed_first a.even a.s a.r a.s p.4 p.2.stride;
        done = λ done. done;
      },
    )

pub first_word-requires : goal.first_word-requires
first_word-requires c =
    let a = c.args in
    let there = past_room c.loop-i.i a.m a.r _ (omega (arith, c.requires.5, c.loop-i.invariant.1.fits)) c.requires.1 in
    (omega (arith, c.requires.0.some), omega (arith, there))

pub lent-requires : goal.lent-requires
lent-requires c =
    let a = c.args in
    let there = past_room c.loop-i.i a.m a.r _ (omega (arith, c.requires.5, c.loop-i.invariant.1.fits)) c.requires.1 in
    omega (arith, c.first_word.ensures, there)

pub lanes-requires : goal.lanes-requires
lanes-requires c =
    let a = c.args in
    let n = c.min-len in
    let four : n.result ≡ 4 = omega (arith, c.loop-i-test.true, c.loop-i.invariant.0, c.requires.6) in
    let fits : c.loop-i.i + n.result ≤ a.end = omega arith in
    let part =
    four_part c.loop-i.i n.result a.m a.r a.tw.now _ c.first_word.ensures (c.lent.ensures.0 refl) c.loop-i.invariant.0 four
    (omega (arith, fits, c.requires.5)) c.requires.1 in
    (c.requires.0, omega (arith, fits, c.requires.5), omega arith, omega arith, part.1, c.requires.7)

pub store-at-requires : goal.store-at-requires
store-at-requires c =
    let a = c.args in
    let n = c.min-len in
    let four : n.result ≡ 4 = omega (arith, c.loop-i-test.true, c.loop-i.invariant.0, c.requires.6) in
    let fits : c.loop-i.i + n.result ≤ a.end = omega arith in
    let even = even_fours a.even a.s n.result c.requires.4 (omega (arith, four)) in
    round_asks n.result c.loop-i.invariant.1 even c.lanes.ensures.0 c.requires.2
    (omega (arith, fits, c.requires.5)) (omega arith) (omega arith)

pub overflow_add-i : goal.overflow_add-i
overflow_add-i c =
    let a = c.args in
    let n = c.min-len in
    let fits : c.loop-i.i + n.result ≤ a.end = omega arith in
    omega (arith, fits)

pub loop-i-smaller : goal.loop-i-smaller
loop-i-smaller c =
    let a = c.args in
    let n = c.min-len in
    let four : n.result ≡ 4 = omega (arith, c.loop-i-test.true, c.loop-i.invariant.0, c.requires.6) in
    let fits : c.loop-i.i + n.result ≤ a.end = omega arith in
    omega (arith, four, fits)

pub loop-i-preserved : goal.loop-i-preserved
loop-i-preserved c =
    let a = c.args in
    let n = c.min-len in
    let four : n.result ≡ 4 = omega (arith, c.loop-i-test.true, c.loop-i.invariant.0, c.requires.6) in
    let fits : c.loop-i.i + n.result ≤ a.end = omega arith in
    let even = even_fours a.even a.s n.result c.requires.4 (omega (arith, four)) in
    let part =
    four_part c.loop-i.i n.result a.m a.r a.tw.now _ c.first_word.ensures (c.lent.ensures.0 refl) c.loop-i.invariant.0 four
    (omega (arith, fits, c.requires.5)) c.requires.1 in (
      omega (arith, four, c.loop-i.invariant.0),
      round_next n.result c.loop-i.invariant.1 even c.lanes.ensures.0 fits c.store-at.auto.dst c.store-at.ensures
          (c.lanes.ensures.1 _ part.0),
    )

pub shape_of-dst : goal.shape_of-dst
shape_of-dst c = c.loop-i.invariant.1.size

pub returns : goal.returns
returns c = let w = c.loop-i.invariant.1 in let all : c.loop-i.i ≡ c.args.end =
    omega (arith, w.fits, c.loop-i-test.false) in
    (rw all at w.placed, rw all at (w.done (λ i p li lp. absurd (omega arith))))
