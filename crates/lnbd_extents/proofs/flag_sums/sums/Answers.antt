use Rattle.std.proofs.Common.{◌≡◌, ◌+◌, get_or, unwrap_or, arith}
use Rattle.lnbd_model.specs.declared.export.Extent.{Extent}
use Rattle.lnbd_keyed.specs.Keyed.{value_at, with_pair}
use Rattle.lnbd_keyed.proofs.KeyedLemmas.{IsRising_pair}
use Rattle.lnbd_extents.proofs.TotalLaws.{sums_more, sums_room}
use Rattle.lnbd_extents.proofs.flag_sums.sums.Goals as goal

pub add_to-requires-clause-room : goal.add_to-requires-clause-room
add_to-requires-clause-room c =
    let room = sums_room c.loop-extent.rows.items c.args.list.now c.loop-extent.extent-index (record { length = 0; flags = 0 }) (get_or c.args.list.now c.loop-extent.extent-index (record { length = 0; flags = 0 })).flags c.loop-extent-test.true c.loop-extent.invariant.sums in
    omega arith

pub loop-extent-preserved : goal.loop-extent-preserved
loop-extent-preserved c =
    let d : Extent = record { length = 0; flags = 0 } in
    let e : Extent = get_or c.args.list.now c.loop-extent.extent-index d in
    let is : c.add_to.new.rows.items ≡ with_pair e.flags (unwrap_or (value_at e.flags c.loop-extent.rows.items) 0 + e.length) c.loop-extent.rows.items = c.in_ok-add_to.ensures.ok in
    record {
      rising = rw is (IsRising_pair e.flags (unwrap_or (value_at e.flags c.loop-extent.rows.items) 0 + e.length) c.loop-extent.rows.items c.loop-extent.invariant.rising);
      sums = sums_more c.loop-extent.rows.items c.add_to.new.rows.items c.args.list.now c.loop-extent.extent-index d c.loop-extent-test.true is c.loop-extent.invariant.sums;
    }
