use Rattle.std.proofs.Common.{◌∙◌, ◌++◌, ◌+◌, ap, arith, get_or, string_bytes, sym}
use Rattle.lnbd_model.specs.declared.export.Extent.{Extent}
use Rattle.lnbd_extents.proofs.TotalLaws.{span_take}
use Rattle.lnbd_info.specs.Map.{map_text}
use Rattle.lnbd_info.proofs.MapLemmas.{lines_more, span_more}
use Rattle.lnbd_info.proofs.map.push_map.Goals as goal

pub overflow_add-offset : goal.overflow_add-offset
overflow_add-offset c =
    let d : Extent = record { length = 0; flags = 0 } in
    let room = span_take c.args.map.now c.extents.extent-index d c.extents-test.true in
    let at = c.extents.invariant.offset in
    omega arith

pub extents-preserved : goal.extents-preserved
extents-preserved c =
    let d : Extent = record { length = 0; flags = 0 } in
    record {
      offset = ap (λ n. n + (get_or c.args.map.now c.extents.extent-index d).length) c.extents.invariant.offset ∙ sym (span_more c.args.map.now c.extents.extent-index d c.extents-test.true);
      text =
          lines_more c.args.allocation c.extents.offset c.args.map.now c.extents.extent-index d (string_bytes c.args.text.now ++ map_text c.args.allocation c.args.map.now) (string_bytes c.extents.text) _ c.extents-test.true c.extents.invariant.text c.in_ok-push_map_line.ensures;
    }
