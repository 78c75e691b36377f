-- `float_stage::inner::stage::by_sixteens` meets its contract. Assumes nothing.
use Rattle.sequences.proofs.Basics.{refl, sym, ◌∙◌, ◌+◌, ◌≤◌, ◌<◌, arith}
use Rattle.storing.specs.Parts.{Even}
use Rattle.float_stage.proofs.Widths.{past_room, lent_part}
use Rattle.float_stage.proofs.Rounds.{even_batch, round_asks, round_next}
use Rattle.float_stage.proofs.inner.stage.by_sixteens.Goals as goal

pub loop-i-init : goal.loop-i-init
loop-i-init c =
    let p = c.requires in (
      refl,
      p.7,
      record {
        fits = p.6;
        size = refl;
        pairs =
            record {
              size_ra = c.new-low.ensures.0;
              size_ia = c.new-low.ensures.1;
              size_rb = c.new-high.ensures.0;
              size_ib = c.new-high.ensures.1;
            };
        even = p.8;
        placed = p.9;
        done = λ done. done;
      },
    )

pub fetch-requires : goal.fetch-requires
fetch-requires c =
    let a = c.args in
    let n = c.min-len in
    let fits : c.loop-i.i + n.result ≤ a.m = omega arith in
    (rw c.loop-i.invariant.0 c.requires.1, c.laid_out-layout.ensures.1, fits, omega arith)

pub slice_bounds-lent-end : goal.slice_bounds-lent-end
slice_bounds-lent-end c = sym (c.fetch.auto.t ∙ c.loop-i.invariant.0)

pub first_word-requires : goal.first_word-requires
first_word-requires c =
    let a = c.args in
    let there = past_room c.loop-i.i a.m a.r _ c.loop-i.invariant.2.fits c.requires.1.lent in
    (omega (arith, c.requires.0.some), omega (arith, there))

pub lent-requires : goal.lent-requires
lent-requires c =
    let a = c.args in
    let there = past_room c.loop-i.i a.m a.r _ c.loop-i.invariant.2.fits c.requires.1.lent in
    omega (arith, c.first_word.ensures, there)

pub lanes-requires : goal.lanes-requires
lanes-requires c =
    let a = c.args in
    let n = c.min-len in
    let fits : c.loop-i.i + n.result ≤ a.m = omega arith in
    let part =
    lent_part c.laid_out-layout.result c.loop-i.i n.result a.m a.r a.w a.tw.now _ _ c.first_word.ensures c.laid_out-layout.ensures.0
    c.loop-i.invariant.1 fits (omega arith) c.requires.0.few c.requires.1.lent (c.fetch.auto.t ∙ c.loop-i.invariant.0) c.lent.ensures c.fetch.ensures in
    (c.requires.0, fits, omega arith, omega arith, part.1, c.requires.1.later)

pub invariant_of-span : goal.invariant_of-span
invariant_of-span c =
    let a = c.args in
    let n = c.min-len in
    let even : Even a.even n.result = even_batch a.even c.loop-i.i a.m a.s a.r _ c.requires.5 c.requires.3 c.loop-i.invariant.2.even (λ x. omega arith)
    (λ x. omega arith) in
    record { evenly = record { batch = c.requires.4; lanes = even; stride = c.requires.5 } }

pub store-at-requires : goal.store-at-requires
store-at-requires c =
    let a = c.args in
    let n = c.min-len in
    let fits : c.loop-i.i + n.result ≤ a.m = omega arith in
    let even : Even a.even n.result = even_batch a.even c.loop-i.i a.m a.s a.r _ c.requires.5 c.requires.3 c.loop-i.invariant.2.even (λ x. omega arith)
    (λ x. omega arith) in
    round_asks n.result c.loop-i.invariant.2 even c.lanes.ensures.0 c.requires.3 fits (omega arith) (omega arith)

pub overflow_add-i : goal.overflow_add-i
overflow_add-i c =
    let a = c.args in
    let n = c.min-len in
    let fits : c.loop-i.i + n.result ≤ a.m = omega arith in
    omega (arith, fits)

pub loop-i-smaller : goal.loop-i-smaller
loop-i-smaller c =
    let a = c.args in
    let n = c.min-len in
    let fits : c.loop-i.i + n.result ≤ a.m = omega arith in
    let some : 0 < n.result = omega arith in
    omega (arith, fits)

pub loop-i-preserved : goal.loop-i-preserved
loop-i-preserved c =
    let a = c.args in
    let n = c.min-len in
    let fits : c.loop-i.i + n.result ≤ a.m = omega arith in
    let even : Even a.even n.result = even_batch a.even c.loop-i.i a.m a.s a.r _ c.requires.5 c.requires.3 c.loop-i.invariant.2.even (λ x. omega arith)
    (λ x. omega arith) in
    let part =
    lent_part c.laid_out-layout.result c.loop-i.i n.result a.m a.r a.w a.tw.now _ _ c.first_word.ensures c.laid_out-layout.ensures.0
    c.loop-i.invariant.1 fits (omega arith) c.requires.0.few c.requires.1.lent (c.fetch.auto.t ∙ c.loop-i.invariant.0) c.lent.ensures c.fetch.ensures in (
      c.fetch.auto.t ∙ c.loop-i.invariant.0,
      λ four. omega (arith, c.loop-i.invariant.1 four),
      round_next n.result c.loop-i.invariant.2 even c.lanes.ensures.0 fits c.store-at.auto.dst c.store-at.ensures
          (c.lanes.ensures.1 _ part.0),
    )

pub shape_of-dst : goal.shape_of-dst
shape_of-dst c = c.loop-i.invariant.2.size

pub returns : goal.returns
returns c = λ done i p li lp. c.loop-i.invariant.2.done done i p (omega (arith, c.loop-i-test.false)) lp
