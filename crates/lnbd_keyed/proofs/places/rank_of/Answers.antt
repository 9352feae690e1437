use Rattle.std.proofs.Common.{◌+◌, ◌-◌, ◌/◌, length, arith}
use Rattle.lnbd_keyed.proofs.PlaceLaws.{rank_le, rank_above, rank_below}
use Rattle.lnbd_keyed.proofs.places.rank_of.Goals as goal

pub returns-then-rows-count-clause-rank : goal.returns-then-rows-count-clause-rank
returns-then-rows-count-clause-rank g c =
    let past = rank_above c.args.key (length c.args.rows.now - 1) c.index-rows-count.result c.args.rows.now c.requires (omega arith) c.if-rows-count.true in
    omega (arith, rank_le c.args.key c.args.rows.now)

pub loop-low-init : goal.loop-low-init
loop-low-init g c = record { low = omega arith; high = rank_le c.args.key c.args.rows.now; inside = omega arith }

pub loop-low-preserved-then-rows-middle : goal.loop-low-preserved-then-rows-middle
loop-low-preserved-then-rows-middle g c =
    let past = rank_above c.args.key (c.loop-low.low + (c.loop-low.high - c.loop-low.low) / 2) c.index-rows-middle.result c.args.rows.now c.requires (omega arith) c.if-rows-middle.true in
    record { low = omega arith; high = c.loop-low.invariant.high; inside = c.loop-low.invariant.inside }

pub loop-low-preserved : goal.loop-low-preserved
loop-low-preserved g c =
    let here = rank_below c.args.key (c.loop-low.low + (c.loop-low.high - c.loop-low.low) / 2) c.index-rows-middle.result c.args.rows.now (omega arith) c.if-rows-middle.false in
    record { low = c.loop-low.invariant.low; high = here; inside = omega arith }
