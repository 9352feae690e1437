use Rattle.std.proofs.Common.{leb, arith, rules}
use Rattle.std.proofs.lemmas.List.Sorted.{IsPartitionPoint-from_clause, IsPartitionedBy-leb}
use Rattle.lnbd_inflight.proofs.Standing.{rising_cookies, above_from}
use Rattle.lnbd_inflight.proofs.places.place_above.Goals as goal

pub returns : goal.returns
returns c =
    let parted = IsPartitionedBy-leb (λ p. p.0) _ c.args.above (rising_cookies c.args.order.now.items c.requires) in
    let point = IsPartitionPoint-from_clause (λ p. leb p.0 c.args.above) _ _ c.partition_point.ensures.partitioned parted (λ a r q k. search rules) in
    above_from c.args.above c.partition_point.result c.args.order.now.items (let long = c.args.order.now.ok.0 in omega (arith, c.partition_point.ensures.bound)) point
