use Rattle.std.proofs.Common.{◌+◌, ◌-◌, ◌/◌, length, arith}
use Rattle.lnbd_extents.proofs.RangeLaws.{place_le, place_above, place_below}
use Rattle.lnbd_extents.proofs.places.place_of.Goals as goal

pub returns-then-ranges-count : goal.returns-then-ranges-count
returns-then-ranges-count c =
    let h = place_above 0 c.args.start (length c.args.ranges.now - 1) (0, 0) c.args.ranges.now c.requires (omega arith) c.if-ranges-count.true in
    let k = place_le c.args.start c.args.ranges.now in
    record { place = omega arith; within = omega arith }

pub loop-low-init : goal.loop-low-init
loop-low-init c = let h = place_le c.args.start c.args.ranges.now in record { low = omega arith; high = h; inside = omega arith }

pub loop-low-preserved-then-ranges-middle : goal.loop-low-preserved-then-ranges-middle
loop-low-preserved-then-ranges-middle c =
    let h = place_above 0 c.args.start (c.loop-low.low + (c.loop-low.high - c.loop-low.low) / 2) (0, 0) c.args.ranges.now c.requires (omega arith) (omega arith) in
    record { low = omega arith; high = c.loop-low.invariant.high; inside = c.loop-low.invariant.inside }

pub loop-low-preserved : goal.loop-low-preserved
loop-low-preserved c =
    let h = place_below 0 c.args.start (c.loop-low.low + (c.loop-low.high - c.loop-low.low) / 2) (0, 0) c.args.ranges.now c.requires (omega arith) (omega arith) in
    record { low = c.loop-low.invariant.low; high = h; inside = omega arith }
