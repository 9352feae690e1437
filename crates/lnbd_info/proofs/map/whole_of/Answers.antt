use Rattle.std.proofs.Common.{◌∙◌, ap, arith, get_or, ◌+◌, sym}
use Rattle.lnbd_model.specs.declared.export.Extent.{Extent}
use Rattle.lnbd_extents.proofs.TotalLaws.{span_take}
use Rattle.lnbd_info.proofs.MapLemmas.{span_more}
use Rattle.lnbd_info.proofs.map.whole_of.Goals as goal

pub overflow_add-whole : goal.overflow_add-whole
overflow_add-whole c =
    let d : Extent = record { length = 0; flags = 0 } in
    let room = span_take c.args.map.now c.extents.extent-index d c.extents-test.true in
    omega arith

pub extents-preserved : goal.extents-preserved
extents-preserved c =
    let d : Extent = record { length = 0; flags = 0 } in
    ap (λ n. n + (get_or c.args.map.now c.extents.extent-index d).length) c.extents.invariant ∙ sym (span_more c.args.map.now c.extents.extent-index d c.extents-test.true)
