use Rattle.std.proofs.Common.{get_or}
use Rattle.std.proofs.Math.ListN.{drop_of_length-le}
use Rattle.lnbd_model.specs.declared.export.Extent.{Extent}
use Rattle.lnbd_copy.proofs.SparedLemmas.{all_joined, all_on}
use Rattle.lnbd_copy.proofs.ToldLemmas.{told_joined, told_only}
use Rattle.lnbd_copy.proofs.WindowLemmas.{join_on, next_any}
use Rattle.lnbd_copy.proofs.windows.joined.Goals as goal

pub extents-preserved : goal.extents-preserved
extents-preserved c =
    let d : Extent = record { length = 0; flags = 0 } in
    let item : Extent = get_or c.args.told.now c.extents.extent-index d in
    let next = next_any c.args.told.now c.extents.extent-index d c.extents-test.true in
    let on = join_on c.args.told.now c.extents.list.items c.push_joined.new.list.items c.extents.extent-index c.extents.left c.args.most c.min-length.result item c.extents.invariant.joins
    next c.min-length.ensures c.in_ok-push_joined.ensures.flags c.in_ok-push_joined.ensures.length in
    all_on c.args.told.now c.extents.list.items c.push_joined.new.list.items c.extents.extent-index c.extents.left c.args.most c.min-length.result item c.extents.invariant next c.min-length.ensures
    c.in_ok-push_joined.ensures.flags c.in_ok-push_joined.ensures.length on (c.in_ok-push_joined.ensures.joined c.extents.invariant.joined)

pub returns-clause-all : goal.returns-clause-all
returns-clause-all c =
    all_joined c.args.told.now c.extents.list.items c.extents.extent-index c.extents.left c.args.most c.extents.invariant (drop_of_length-le c.args.told.now c.extents-test.false)

pub returns-clause-reach : goal.returns-clause-reach
returns-clause-reach c =
    told_joined c.args.told.now c.extents.list.items c.extents.extent-index c.extents.left c.args.most c.extents.invariant (drop_of_length-le c.args.told.now c.extents-test.false)

pub returns-clause-told_so : goal.returns-clause-told_so
returns-clause-told_so c = told_only c.args.told.now c.extents.list.items c.extents.extent-index c.extents.left c.args.most c.extents.invariant
