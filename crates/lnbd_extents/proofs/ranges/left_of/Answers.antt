use Rattle.std.proofs.Common.{◌^◌, arith}
use Rattle.lnbd_extents.proofs.SpotLaws.{up_to_at}
use Rattle.lnbd_extents.proofs.ranges.left_of.Goals as goal

pub push_front-requires : goal.push_front-requires
push_front-requires c = let h = up_to_at (2 ^ 63) c.loop-range.range-index c.args.ranges.now c.requires c.loop-range-test.true in omega arith

pub push_back-requires : goal.push_back-requires
push_back-requires c = let h = up_to_at (2 ^ 63) c.loop-range.range-index c.args.ranges.now c.requires c.loop-range-test.true in omega arith
