use Rattle.std.proofs.Common.{arith}
use Rattle.lnbd_model.specs.declared.export.Extent.{Extent}
use Rattle.lnbd_extents.proofs.TotalLaws.{span_take}
use Rattle.lnbd_info.proofs.MapLemmas.{map_more}
use Rattle.lnbd_info.proofs.map.joined.Goals as goal

pub push_joined-requires : goal.push_joined-requires
push_joined-requires c =
    let d : Extent = record { length = 0; flags = 0 } in
    let room = span_take c.args.told.now c.told.extent-index d c.told-test.true in
    let all = c.told.invariant.all in
    omega arith

pub told-preserved : goal.told-preserved
told-preserved c =
    let d : Extent = record { length = 0; flags = 0 } in
    map_more c.args.told.now c.told.extent-index d c.told.map.items c.push_joined.new.list.items c.told-test.true c.told.invariant c.in_ok-push_joined.ensures.ok
