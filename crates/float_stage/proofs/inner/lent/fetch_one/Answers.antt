-- `float_stage::inner::lent::fetch_one` meets its contract. Assumes nothing.
use Rattle.sequences.proofs.Basics.{ℕ, sym, ap, ◌+◌, ◌-◌, ◌*◌, ◌%◌, ◌≤◌, ◌<◌, mul-le-mul_right, arith}
use Rattle.floats.specs.Complexes.{cell}
use Rattle.storing.proofs.Writes.{wrote_as}
use Rattle.packing.proofs.Places.{place_lt, place_in, place_past}
use Rattle.float_stage.proofs.Widths.{small_past, small_lane}
use Rattle.float_stage.proofs.inner.lent.fetch_one.Goals as goal

-- the twiddles of the whole lane before iteration i stand at a small number
lane_small : (m r i : ℕ) → m ≤ 4096 → r ≤ 8 → i < m → (i - i % 2) * (r - 1) ≤ 4096 * 7
lane_small m r i small few l =
    let a : i - i % 2 ≤ i = omega arith in
    omega (arith, small_past m r i small few l, mul-le-mul_right (r - 1) a)

pub overflow_mul-j : goal.overflow_mul-j
overflow_mul-j c = omega (arith, small_lane c.args.j c.args.r c.requires.3 c.requires.0.few)

pub overflow_mul-i : goal.overflow_mul-i
overflow_mul-i c = omega (arith, lane_small c.args.m c.args.r c.args.i c.requires.0.small c.requires.0.few c.requires.2)

pub overflow_add-i-then-i-lane : goal.overflow_add-i-then-i-lane
overflow_add-i-then-i-lane c = omega (arith, lane_small c.args.m c.args.r c.args.i c.requires.0.small c.requires.0.few c.requires.2)

pub gather-requires : goal.gather-requires
gather-requires c = let a = c.args in (
  omega (arith, small_lane c.args.j c.args.r c.requires.3 c.requires.0.few, c.requires.0.local, c.requires.0.few),
  λ u l.
      let below = place_lt a.m a.r a.w a.i (u + 1) (omega (arith, c.requires.1)) c.requires.2 (omega arith) (omega arith) in
      omega (arith, below, place_in a.m a.r a.w a.i u c.requires.1 c.if-i-lane.true, c.requires.0.lent),
)

pub overflow_mul-j-else-i-lane : goal.overflow_mul-j-else-i-lane
overflow_mul-j-else-i-lane c = omega (arith, small_lane c.args.j c.args.r c.requires.3 c.requires.0.few)

pub overflow_mul-i-else-i-lane : goal.overflow_mul-i-else-i-lane
overflow_mul-i-else-i-lane c = omega (arith, small_past c.args.m c.args.r c.args.i c.requires.0.small c.requires.0.few c.requires.2)

pub gather-requires-else-i-lane : goal.gather-requires-else-i-lane
gather-requires-else-i-lane c = let a = c.args in (
  omega (arith, small_lane c.args.j c.args.r c.requires.3 c.requires.0.few, c.requires.0.local, c.requires.0.few),
  λ u l.
      let below = place_lt a.m a.r a.w a.i (u + 1) (omega (arith, c.requires.1)) c.requires.2 (omega arith) (omega arith) in
      omega (arith, below, place_past a.m a.r a.w a.i u c.requires.1 c.if-i-lane.false, c.requires.0.lent),
)

pub returns-then-i-lane : goal.returns-then-i-lane
returns-then-i-lane c = let a = c.args in wrote_as _ _ _ _ (λ u l. ap (cell a.tw.now) (sym (place_in a.m a.r a.w a.i u c.requires.1 c.if-i-lane.true)))
    c.gather.ensures

pub returns-else-i-lane : goal.returns-else-i-lane
returns-else-i-lane c = let a = c.args in wrote_as _ _ _ _ (λ u l. ap (cell a.tw.now) (sym (place_past a.m a.r a.w a.i u c.requires.1 c.if-i-lane.false)))
    c.gather-else-i-lane.ensures
