use Rattle.std.proofs.Common.{ℕ, nat_lt, rules}
use Rattle.std.proofs.lemmas.List.Sorted.{IsPartitionPoint-from_clause}
use Rattle.lnbd_export.proofs.EdgeLaws.{parted, below_at}
use Rattle.lnbd_export.proofs.edges.below.Goals as goal

pub returns : goal.returns
returns c =
    let point = IsPartitionPoint-from_clause (λ (x : ℕ). nat_lt x c.args.position) _ _ c.partition_point.ensures.partitioned (parted c.args.position c.args.places.now c.requires) (λ a r q k. search rules) in
    below_at c.args.position c.partition_point.result c.args.places.now c.partition_point.ensures.bound point
