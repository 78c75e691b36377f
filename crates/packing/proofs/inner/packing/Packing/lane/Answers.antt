-- `packing::inner::packing::Packing::lane` meets its contract. Assumes nothing.
use Rattle.sequences.proofs.Basics.{mod-lt, arith}
use Rattle.packing.proofs.Lanes.{lane_apart, lone_apart, small}
use Rattle.packing.proofs.inner.packing.Packing.lane.Goals as goal

pub returns-then-i-self : goal.returns-then-i-self
returns-then-i-self c =
    let p = c.args.self.now in
    let packs = p.small in
    record {
      stands = lane_apart p.iterations p.radix p.width c.args.i c.if-i-self.true;
      low = omega (arith, small c.args.i _ _ c.requires packs.narrow packs.eight, mod-lt c.args.i packs.lane);
      some = packs.lane;
      near = packs.narrow;
    }

pub returns-else-i-self : goal.returns-else-i-self
returns-else-i-self c =
    let p = c.args.self.now in
    let packs = p.small in
    record {
      stands = lone_apart p.iterations p.radix p.width c.args.i c.if-i-self.false;
      low = omega (arith, small c.args.i _ _ c.requires packs.narrow packs.eight);
      some = omega arith;
      near = omega arith;
    }
