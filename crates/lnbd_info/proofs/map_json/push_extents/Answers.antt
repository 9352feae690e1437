use Rattle.std.proofs.Common.{◌∙◌, ◌++◌, ◌+◌, ap, arith, get_or, string_bytes, sym}
use Rattle.serde_json.specs.Written.{compact_text}
use Rattle.lnbd_model.specs.declared.export.Extent.{Extent}
use Rattle.lnbd_extents.proofs.TotalLaws.{span_take}
use Rattle.lnbd_info.specs.Json.{array_of}
use Rattle.lnbd_info.specs.MapJson.{extents_data}
use Rattle.lnbd_info.proofs.JsonLemmas.{extents_more}
use Rattle.lnbd_info.proofs.MapLemmas.{span_more}
use Rattle.lnbd_info.proofs.map_json.push_extents.Goals as goal

pub overflow_add-offset : goal.overflow_add-offset
overflow_add-offset c =
    let d : Extent = record { length = 0; flags = 0 } in
    let room = span_take c.args.map.now c.extents.extent-index d c.extents-test.true in
    let at = c.extents.invariant.offset in
    omega arith

pub extents-preserved : goal.extents-preserved
extents-preserved c =
    let d : Extent = record { length = 0; flags = 0 } in
    record {
      offset = ap (λ n. n + (get_or c.args.map.now c.extents.extent-index d).length) c.extents.invariant.offset ∙ sym (span_more c.args.map.now c.extents.extent-index d c.extents-test.true);
      text =
          extents_more c.args.allocation c.extents.later c.extents.offset c.args.map.now c.extents.extent-index d (string_bytes c.args.text.now ++ compact_text (array_of (extents_data c.args.allocation 0 c.args.map.now))) (string_bytes c.extents.text) _ c.as_str.result.now c.extents-test.true c.extents.invariant.text (c.as_str.ensures.value ∙ c.in_ok-item.ensures) c.in_ok-push_item.ensures;
    }
